use Rattle.std.proofs.Common.{◌∙◌, ◌∷◌, ◌++◌, ◌*◌, ◌+◌, [], ap, sym, arith, refl, List}
use Rattle.std.specs.Prelude.{slice_get}
use Rattle.std.specs.Prelude.{Bool, get_or}
use Rattle.rec_memo.specs.Sets.{look_up, share_of, block_of, place_of}
use Rattle.rec_memo.specs.declared.sets.Set.{Set}
use Rattle.rec_memo.proofs.DoubleLemmas.{double-turn, all-doubled, none-down}
use Rattle.rec_memo.proofs.sets.Sets.doubled.Goals as goal

pub loop-place-preserved : goal.loop-place-preserved
loop-place-preserved c =
    let old = c.args.self.now.sets in
    let was = c.args.self.now.count in
    let sets = c.loop-place.sets in
    let p = c.loop-place.place in
    let set = c.index-set.result.now in
    let here = get_or old.items p set in
    let before = c.loop-place.invariant in
    let counted = old.ok.0 in
    let end = c.len-place-end.ensures in
    let within = c.loop-place-test.true in
    let many = (c.args.self.now.counted c.requires.some).0 in
    let longer = c.in_ok-push.ensures.len in
    let longest = c.in_ok-push-2.ensures.len in
    let len = sets.ok.0 in
    let after = c.push.new.self.ok.0 in
    let last = c.push-in-loop-place.new.self.ok.0 in
    let turns = before.len in
    let first = c.share_of.ensures ∙ ap (share_of (2 * was) (2 * p)) c.index-set.ensures in
    let second = c.share_of-in-loop-place.ensures ∙ ap (share_of (2 * was) (2 * p + 1)) c.index-set.ensures in
    let items = c.in_ok-push-2.ensures.items
    ∙ ap (λ (xs : List Set). xs ++ c.share_of-in-loop-place.result ∷ [])
    (c.in_ok-push.ensures.items ∙ ap (λ (s : Set). sets.items ++ s ∷ []) first)
    ∙ ap (λ (s : Set). (sets.items ++ share_of (2 * was) (2 * p) here ∷ []) ++ s ∷ []) second in
    record {
      count = refl;
      len = omega arith;
      same = λ k lt. ap (λ (xs : List Set). look_up xs (2 * was) k) items
          ∙ double-turn old.items sets.items was p k set (omega (arith, many)) (omega (arith, counted, end, within)) before.len (before.same k) lt;
    }

pub invariant_of-result-clause-idle : goal.invariant_of-result-clause-idle
invariant_of-result-clause-idle c k flag =
    let block = block_of (place_of (2 * c.args.self.now.count) k) in
    absurd (none-down c.div_ceil.result block
    (sym (ap (λ (xs : List Bool). slice_get xs block) (c.in_ok-used.ensures.items_if_clones_equal (λ x e. e))) ∙ flag))

pub returns-clause-same : goal.returns-clause-same
returns-clause-same c k =
    let old = c.args.self.now.sets in
    let counted = old.ok.0 in
    let end = c.len-place-end.ensures in
    let past = c.loop-place-test.false in
    let turns = c.loop-place.invariant.len in
    let within = c.loop-place.auto.place-end in
    all-doubled old.items c.loop-place.sets.items c.args.self.now.count k (omega arith) (λ lt. c.loop-place.invariant.same k (omega (arith, lt)))

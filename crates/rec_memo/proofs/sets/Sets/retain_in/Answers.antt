use Rattle.std.proofs.Common.{◌∙◌, ◌≡◌, ◌<◌, ℕ, length, get_or, ap, sym, arith, inl, inr}
use Rattle.std.specs.Prelude.{slice_set}
use Rattle.std.proofs.lemmas.Bool.Decides.{leb_tells}
use Rattle.rec_memo.specs.Sets.{look_up, place_of, block_of, kept_by, is_held, blank_entry}
use Rattle.rec_memo.specs.declared.sets.Set.{Set}
use Rattle.rec_memo.specs.declared.sets.Entry.{Entry}
use Rattle.rec_memo.proofs.SetsLemmas.{held-turn, all-held, look_up-beyond, look_up-set-other}
use Rattle.rec_memo.proofs.BlockLemmas.{kept-none, neither, free-turn, idle-after}
use Rattle.rec_memo.proofs.sets.Sets.retain_in.Goals as goal

pub invariant_of-self-clause-idle : goal.invariant_of-self-clause-idle
invariant_of-self-clause-idle g c k flag =
    let w = g.B.TermBank.store c.args.bank.now in
    let sets = c.loop-place.self.sets in
    let count = c.loop-place.self.count in
    let place = c.loop-place.place in
    let same = c.loop-place.invariant.len in
    let len = c.len.ensures in
    let end = c.min-end.ensures in
    let counted = sets.ok.0 in
    let within = c.loop-place-test.true in
    let old = c.index-in-loop-place.result.now in
    let kept : c.keep_held-set.result ≡ kept_by (is_held w) (blank_entry place) (get_or sets.items place old) =
    c.keep_held-set.ensures ∙ ap (λ (b : Entry). kept_by (is_held w) b old) c.blank.ensures
    ∙ ap (kept_by (is_held w) (blank_entry place)) c.index-in-loop-place.ensures in
    ap (λ (s : Set). look_up (slice_set sets.items place s) count k) kept
    ∙ kept-none w sets.items count k place _ (c.loop-place.self.counted (omega arith)).0 (omega arith) (c.loop-place.self.idle k flag)

pub loop-place-preserved : goal.loop-place-preserved
loop-place-preserved g c =
    let w = g.B.TermBank.store c.args.bank.now in
    let sets = c.loop-place.self.sets in
    let count = c.loop-place.self.count in
    let place = c.loop-place.place in
    let same = c.loop-place.invariant.len in
    let len = c.len.ensures in
    let end = c.min-end.ensures in
    let counted = sets.ok.0 in
    let within = c.loop-place-test.true in
    let from = c.loop-place.auto.place in
    let before = c.loop-place.invariant in
    let short : place < length sets.items = omega arith in
    let many = (c.loop-place.self.counted (omega arith)).0 in
    let old = c.index-in-loop-place.result.now in
    let kept : c.keep_held-set.result ≡ kept_by (is_held w) (blank_entry place) (get_or sets.items place old) =
    c.keep_held-set.ensures ∙ ap (λ (b : Entry). kept_by (is_held w) b old) c.blank.ensures
    ∙ ap (kept_by (is_held w) (blank_entry place)) c.index-in-loop-place.ensures in
    let inside : block_of place ≡ c.args.block = omega arith in
    record {
      len = c.loop-place.invariant.len;
      count = c.loop-place.invariant.count;
      held = λ k here lt. ap (λ (s : Set). look_up (slice_set sets.items place s) count k) kept
          ∙ held-turn w c.args.self.now.sets.items sets.items c.args.self.now.count count place k _ many short (before.held k here) (before.as_before k) lt;
      as_before = λ k le. look_up-set-other sets.items count k place _ (λ e. omega (arith, e, le)) ∙ before.as_before k (omega (arith, le));
      others = λ k apart. look_up-set-other sets.items count k place _ (λ e. apart (ap block_of e ∙ inside)) ∙ before.others k apart;
      free = λ none k here lt.
          let left = neither c.loop-place.left c.is_free.result none in
          free-turn sets.items count k place c.keep_held-set.result many short (sym c.is_free.ensures ∙ left.1) (before.free left.0 k here) lt;
    }

pub invariant_of-self-2-clause-idle : goal.invariant_of-self-2-clause-idle
invariant_of-self-2-clause-idle g c k flag =
    let sets = c.loop-place.self.sets in
    let used = c.loop-place.self.used in
    let count = c.loop-place.self.count in
    let place = c.loop-place.place in
    let same = c.loop-place.invariant.len in
    let len = c.len.ensures in
    let end = c.min-end.ensures in
    let counted = sets.ok.0 in
    let flags = used.ok.0 in
    let covered = c.loop-place.self.covered in
    let covered_before = c.args.self.now.covered in
    let within = c.requires in
    let past = c.loop-place-test.false in
    idle-after sets.items used.items count k c.args.block c.loop-place.left (omega arith)
    (λ none here. elim (leb_tells place (place_of count k)) [
      | inl p ↦ look_up-beyond sets.items count k (omega (arith, p.1, here))
      | inr p ↦ c.loop-place.invariant.free none k here p.1
    ])
    (c.loop-place.self.idle k) flag

pub returns-clause-held : goal.returns-clause-held
returns-clause-held g c k here =
    let sets = c.loop-place.self.sets in
    let count = c.loop-place.self.count in
    let place = c.loop-place.place in
    let same = c.loop-place.invariant.len in
    let len = c.len.ensures in
    let end = c.min-end.ensures in
    let counted = sets.ok.0 in
    let past = c.loop-place-test.false in
    let now_here : block_of (place_of count k) ≡ c.args.block = ap (λ (n : ℕ). block_of (place_of n k)) c.loop-place.invariant.count ∙ here in
    all-held (g.B.TermBank.store c.args.bank.now) c.args.self.now.sets.items sets.items c.args.self.now.count count place k (λ le.
    omega (arith, le, now_here)) (c.loop-place.invariant.held k now_here) (c.loop-place.invariant.as_before k)

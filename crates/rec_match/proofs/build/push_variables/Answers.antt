use Rattle.std.proofs.Common.{rules, subst, ◌<◌, ◌++◌, ◌∷◌, [], length}
use Rattle.rec_match.specs.Placed.{ArePlacesIn}
use Rattle.rec_match.proofs.OrderLemmas.{numbered-symbol, numbered-again, numbered-first}
use Rattle.rec_match.proofs.PlaceLemmas.{own-places}
use Rattle.rec_match.proofs.build.push_variables.Goals as goal

pub loop-letter-preserved-in_default : goal.loop-letter-preserved-in_default
loop-letter-preserved-in_default c =
    let lt : c.loop-letter.letter-index < length c.args.letters.now = search rules in
    numbered-symbol (length c.args.places.now.of.items) c.args.letters.now c.loop-letter.letter-index _ c.loop-letter.variables.items
    c.loop-letter.places.of.items c.in_default.field-0 lt c.in_default.is c.loop-letter.invariant

pub loop-letter-preserved-in-Some : goal.loop-letter-preserved-in-Some
loop-letter-preserved-in-Some c =
    let i = c.loop-letter.invariant in
    let vs = c.loop-letter.variables.items in
    let n = length c.args.places.now.of.items in
    let ps = c.loop-letter.places.of.items in
    let lt : c.loop-letter.letter-index < length c.args.letters.now = search rules in
    numbered-again n c.args.letters.now c.loop-letter.letter-index _ vs ps c.in-Variable.v c.in-Some.field-0 lt c.in-Variable.is
    (c.in-Some.ensures vs (own-places vs n ps i.places)) i

pub loop-letter-preserved : goal.loop-letter-preserved
loop-letter-preserved c =
    let i = c.loop-letter.invariant in
    let vs = c.loop-letter.variables.items in
    let n = length c.args.places.now.of.items in
    let ps = c.loop-letter.places.of.items in
    let lt : c.loop-letter.letter-index < length c.args.letters.now = search rules in
    let out = c.in_default-place.ensures vs (own-places vs n ps i.places) in
    numbered-first n c.args.letters.now c.loop-letter.letter-index _ vs c.push.new.self.items ps c.give.new.self.of.items c.in-Variable.v lt
    c.in-Variable.is (c.requires.below c.loop-letter.letter-index _ lt c.in-Variable.v c.in-Variable.is) out c.in_ok-push.ensures.items
    (subst (λ m. ArePlacesIn (vs ++ c.in-Variable.v ∷ []) m c.give.new.self.of.items) i.places.counted
    (c.give.ensures vs (own-places vs n ps i.places) out (search rules))) i

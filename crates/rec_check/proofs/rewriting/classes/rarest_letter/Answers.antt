use Rattle.std.proofs.Common.{arith, inl, refl, ◌<◌}
use Rattle.std.proofs.lemmas.List.{get_or_default}
use Rattle.std.specs.Prelude.{get_or, length}
use Rattle.rec_check.proofs.ClassLemmas.{no_letter, rarest_turn}
use Rattle.rec_check.proofs.rewriting.classes.rarest_letter.Goals as goal

pub loop-letter-init : goal.loop-letter-init
loop-letter-init c = inl refl

pub loop-letter-preserved : goal.loop-letter-preserved
loop-letter-preserved c =
    let test = c.loop-letter-test.true in
    let left = c.args.left.now in
    let i = c.loop-letter.letter-index in
    let l = get_or left i no_letter in
    let lt : i < length left = omega (arith, test) in
    rarest_turn left i l c.args.head c.loop-letter.rarest c.rarer-rarest.result lt (get_or_default left i no_letter l lt) c.rarer-rarest.ensures
    c.loop-letter.invariant

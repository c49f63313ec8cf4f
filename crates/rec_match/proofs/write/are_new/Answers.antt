use Rattle.std.proofs.Common.{All, subst}
use Rattle.std.proofs.lemmas.List.{take_all}
use Rattle.std.proofs.lemmas.List.Elements.{All-more}
use Rattle.rec_match.specs.Forests.{IsNew}
use Rattle.rec_match.proofs.write.are_new.Goals as goal

pub loop-place-preserved : goal.loop-place-preserved
loop-place-preserved c = All-more IsNew c.args.places.now c.loop-place.place-index _ c.loop-place-test.true c.loop-place.invariant
    (c.is_new.ensures c.if-not-is_new.false)

pub returns : goal.returns
returns c e = subst (λ ps. All IsNew ps) (take_all c.loop-place.place-index c.args.places.now c.loop-place-test.false) c.loop-place.invariant

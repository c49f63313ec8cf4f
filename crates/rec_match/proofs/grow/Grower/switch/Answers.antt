use Rattle.std.proofs.Common.{sym, subst, ◌<◌}
use Rattle.std.specs.Prelude.{All}
use Rattle.rec_match.specs.declared.parts.Code.{Code}
use Rattle.rec_match.proofs.grow.Grower.switch.Goals as goal

pub branch-self-requires-clause-register : goal.branch-self-requires-clause-register
branch-self-requires-clause-register c =
    c.in-Some.ensures c.args.width
    (subst (All (λ (d : Code). d.register < c.args.width)) (sym c.deref.ensures.value) (c.requires.registers 0 c.index-rows-0.result c.requires.some))

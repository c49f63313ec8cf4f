use Rattle.std.proofs.Common.{◌+◌, ◌∙◌, ap, arith, length, map}
use Rattle.rec_syntax.specs.Syntax.{Sourced, Spec}
use Rattle.rec_syntax.specs.Parts.{group_of}
use Rattle.rec_join.specs.Join.{unplaced_variables}
use Rattle.rec_join.proofs.JoinLemmas.{agree_more}
use Rattle.rec_join.proofs.agree.groups_agree.Goals as goal

pub loop-part-preserved : goal.loop-part-preserved
loop-part-preserved c =
    let within = c.loop-part.invariant.within in
    let room = c.if-own-all.false in
    let own = c.groups-own.ensures.groups ∙ ap (λ (s : Sourced). s.spec.variables) c.part-item.is in
    record {
      within = omega (arith, within, room);
      same = agree_more (group_of c.args.whole.now.source) unplaced_variables (λ (y : Spec). y.variables) c.groups-all.result.now c.args.parts.now
          c.loop-part.from (c.loop-part.from + length c.groups-own.result.now) c.loop-part.part-index c.part-item.result
          c.loop-part.invariant.same (c.same_groups.ensures c.if-not-same_groups.false ∙ ap (map unplaced_variables) own) (omega arith) c.loop-part-test.true;
    }

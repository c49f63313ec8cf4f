use Rattle.std.proofs.Common.{◌+◌, ◌∙◌, ap, arith, length, map}
use Rattle.rec_syntax.specs.Syntax.{Sourced, Spec}
use Rattle.rec_syntax.specs.Parts.{rule_of}
use Rattle.rec_join.specs.Join.{unplaced_rule}
use Rattle.rec_join.proofs.JoinLemmas.{agree_more}
use Rattle.rec_join.proofs.agree.rules_agree.Goals as goal

pub loop-part-preserved : goal.loop-part-preserved
loop-part-preserved c =
    let within = c.loop-part.invariant.within in
    let room = c.if-own-all.false in
    let own = c.rules-own.ensures.rules ∙ ap (λ (s : Sourced). s.spec.rules) c.part-item.is in
    record {
      within = omega (arith, within, room);
      same = agree_more (rule_of c.args.whole.now.source) unplaced_rule (λ (y : Spec). y.rules) c.rules-all.result.now c.args.parts.now
          c.loop-part.from (c.loop-part.from + length c.rules-own.result.now) c.loop-part.part-index c.part-item.result
          c.loop-part.invariant.same (c.same_rules.ensures c.if-not-same_rules.false ∙ ap (map unplaced_rule) own) (omega arith) c.loop-part-test.true;
    }

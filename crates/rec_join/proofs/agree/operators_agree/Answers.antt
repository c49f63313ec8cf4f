use Rattle.std.proofs.Common.{◌+◌, ◌∙◌, ap, arith, length, map}
use Rattle.rec_syntax.specs.Syntax.{Sourced, Spec}
use Rattle.rec_syntax.specs.Parts.{declaration_of}
use Rattle.rec_join.specs.Join.{unplaced_declaration}
use Rattle.rec_join.proofs.JoinLemmas.{agree_more}
use Rattle.rec_join.proofs.agree.operators_agree.Goals as goal

pub loop-part-preserved : goal.loop-part-preserved
loop-part-preserved c =
    let within = c.loop-part.invariant.within in
    let room = c.if-own-all.false in
    let own = c.operators-own.ensures.operators ∙ ap (λ (s : Sourced). s.spec.operators) c.part-item.is in
    record {
      within = omega (arith, within, room);
      same = agree_more (declaration_of c.args.whole.now.source) unplaced_declaration (λ (y : Spec). y.operators) c.operators-all.result.now c.args.parts.now
          c.loop-part.from (c.loop-part.from + length c.operators-own.result.now) c.loop-part.part-index c.part-item.result
          c.loop-part.invariant.same (c.same_declarations.ensures c.if-not-same_declarations.false ∙ ap (map unplaced_declaration) own) (omega arith) c.loop-part-test.true;
    }

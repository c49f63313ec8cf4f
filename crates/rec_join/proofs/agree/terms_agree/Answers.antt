use Rattle.std.proofs.Common.{◌+◌, ◌∙◌, ap, arith, length, map}
use Rattle.rec_syntax.specs.Syntax.{Sourced, Spec}
use Rattle.rec_syntax.specs.Parts.{term_of}
use Rattle.rec_join.specs.Join.{unplaced_term}
use Rattle.rec_join.proofs.JoinLemmas.{agree_more}
use Rattle.rec_join.proofs.agree.terms_agree.Goals as goal

pub loop-part-preserved : goal.loop-part-preserved
loop-part-preserved c =
    let within = c.loop-part.invariant.within in
    let room = c.if-own-all.false in
    let own = c.terms-own.ensures.terms ∙ ap (λ (s : Sourced). s.spec.terms) c.part-item.is in
    record {
      within = omega (arith, within, room);
      same = agree_more (term_of c.args.whole.now.source) unplaced_term (λ (y : Spec). y.terms) c.terms-all.result.now c.args.parts.now
          c.loop-part.from (c.loop-part.from + length c.terms-own.result.now) c.loop-part.part-index c.part-item.result
          c.loop-part.invariant.same (c.same_terms.ensures c.if-not-same_terms.false ∙ ap (map unplaced_term) own) (omega arith) c.loop-part-test.true;
    }

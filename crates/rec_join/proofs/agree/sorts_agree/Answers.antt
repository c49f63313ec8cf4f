use Rattle.std.proofs.Common.{◌+◌, ◌∙◌, ap, arith, length, map}
use Rattle.rec_syntax.specs.Syntax.{Sourced, Spec}
use Rattle.rec_syntax.specs.Lexemes.{word_of}
use Rattle.rec_join.specs.Join.{unplaced}
use Rattle.rec_join.proofs.JoinLemmas.{agree_more}
use Rattle.rec_join.proofs.agree.sorts_agree.Goals as goal

pub loop-part-preserved : goal.loop-part-preserved
loop-part-preserved c =
    let within = c.loop-part.invariant.within in
    let room = c.if-own-all.false in
    let own = c.sorts-own.ensures.sorts ∙ ap (λ (s : Sourced). s.spec.sorts) c.part-item.is in
    record {
      within = omega (arith, within, room);
      same = agree_more (word_of c.args.whole.now.source) unplaced (λ (y : Spec). y.sorts) c.sorts-all.result.now c.args.parts.now
          c.loop-part.from (c.loop-part.from + length c.sorts-own.result.now) c.loop-part.part-index c.part-item.result
          c.loop-part.invariant.same (c.same_words.ensures c.if-not-same_words.false ∙ ap (map unplaced) own) (omega arith) c.loop-part-test.true;
    }

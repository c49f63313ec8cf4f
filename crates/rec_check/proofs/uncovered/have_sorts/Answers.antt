use Rattle.std.proofs.Common.{arith}
use Rattle.rec_check.proofs.UncoveredLemmas.{sorts_turn}
use Rattle.rec_check.proofs.uncovered.have_sorts.Goals as goal

pub loop-i-preserved : goal.loop-i-preserved
loop-i-preserved c = sorts_turn c.args.syntax.now.source c.args.terms.now c.args.sorts.now c.loop-i.i c.index-terms-i.result _ c.word.result.now
    c.ne.result c.loop-i-test.true (omega arith) c.index-terms-i.is c.word.ensures c.ne.ensures c.if-ne.false c.loop-i.invariant

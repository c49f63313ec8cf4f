use Rattle.rx_table.proofs.ReadingLemmas.{fit-broken}
use Rattle.rx_table.proofs.reading.first_broken.Goals as goal

pub returns-then-need-number-clause-broken : goal.returns-then-need-number-clause-broken
returns-then-need-number-clause-broken c =
    fit-broken c.args.needs.now c.loop-number.number _ c.loop-number-test.true c.if-need-number.true c.loop-number.invariant

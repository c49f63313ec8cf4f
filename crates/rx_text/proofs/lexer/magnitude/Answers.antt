use Rattle.rx_text.proofs.LexingLemmas.{magnitude_on}
use Rattle.rx_text.proofs.lexer.magnitude.Goals as goal

pub loop-digit-preserved : goal.loop-digit-preserved
loop-digit-preserved c =
    magnitude_on c.args.digits.now c.loop-digit.digit-index c.loop-digit.value c.saturating_mul.result c.from.result c.saturating_add-value.result
    c.requires c.loop-digit-test.true c.loop-digit.invariant c.saturating_mul.ensures c.from.ensures c.saturating_add-value.ensures

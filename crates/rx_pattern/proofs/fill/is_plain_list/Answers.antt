use Rattle.rx_pattern.proofs.FittingLemmas.{takes_rest, takes_no_rest}
use Rattle.rx_pattern.proofs.fill.is_plain_list.Goals as goal

pub returns-then-fits : goal.returns-then-fits
returns-then-fits g c = λ u e. takes_rest (g.B.TermBank.store c.args.bank.now) c.args.t u c.anns.result c.is_none.result c.fits.result e
    (c.fits.ensures u e) c.if-fits.true c.anns.ensures c.is_none.ensures

pub returns-else-fits : goal.returns-else-fits
returns-else-fits g c = λ u e. takes_no_rest u c.fits.result (c.fits.ensures u e) c.if-fits.false

use Rattle.rx_run.proofs.CountedPartLemmas.{counted_held, kept_alone}
use Rattle.rx_run.proofs.term.output.keep_alone.Goals as goal

pub returns-clause-kept : goal.returns-clause-kept
returns-clause-kept g c = kept_alone (g.B.TermBank.store c.args.bank.now) (g.B.TermBank.store c.reclaim.new.self) c.args.t c.requires.held c.reclaim.ensures

pub returns-clause-counted : goal.returns-clause-counted
returns-clause-counted g c =
    counted_held (g.B.TermBank.store c.args.bank.now) (g.B.TermBank.store c.reclaim.new.self) c.args.t c.cells.result c.requires.held c.requires.unrooted
    (g.met.B.TermBank.sound c.args.bank.now) (g.met.B.TermBank.sound c.reclaim.new.self) c.reclaim.ensures c.cells.ensures

pub returns-clause-cap : goal.returns-clause-cap
returns-clause-cap g c = c.reclaim.ensures.beside.cap

use Rattle.rx_run.proofs.TermDueLemmas.{unrooted_for}
use Rattle.rx_run.proofs.term.runs.run_owned.Goals as goal

pub run_on_term_over-requires : goal.run_on_term_over-requires
run_on_term_over-requires g c = record {
  unrooted = unrooted_for (g.L.TermOutput.reclaims c.args.run.now.lines) (g.B.TermBank.store c.args.bank) c.requires.unrooted;
}

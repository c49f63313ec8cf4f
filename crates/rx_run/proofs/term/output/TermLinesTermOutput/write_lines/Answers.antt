use Rattle.std.proofs.Common.{subst}
use Rattle.rx_run.specs.TermRuns.{IsUnrooted, reclaims_others}
use Rattle.rx_run.specs.declared.term.output.TermLines.{TermLines}
use Rattle.rx_run.proofs.term.output.TermLinesTermOutput.write_lines.Goals as goal

pub write_counted-requires-clause-unrooted : goal.write_counted-requires-clause-unrooted
write_counted-requires-clause-unrooted g c = subst (λ (lines : TermLines). IsUnrooted (reclaims_others lines) (g.B.TermBank.store c.args.bank.now))
    c.in-TextAndCells.is c.requires.unrooted

pub write_counted-requires-in-TableAndCells-clause-unrooted : goal.write_counted-requires-in-TableAndCells-clause-unrooted
write_counted-requires-in-TableAndCells-clause-unrooted g c = subst (λ (lines : TermLines). IsUnrooted (reclaims_others lines) (g.B.TermBank.store c.args.bank.now))
    c.in-TableAndCells.is c.requires.unrooted

use Rattle.std.proofs.Common.{rules}
use Rattle.rx_run.specs.TermRuns.{IsDueIn}
use Rattle.rx_run.proofs.FaultLemmas.{reports_memory}
use Rattle.rx_run.proofs.WholeRunLemmas.{breaks_unwritten_by}
use Rattle.rx_run.proofs.term.runs.run_on_term.Goals as goal

pub returns-in-Err : goal.returns-in-Err
returns-in-Err g c =
    let run = c.args.run.now in
    let counted = g.L.TermOutput.counts_lines run.lines in
    record {
      ends = tt;
      element = tt;
      fault = breaks_unwritten_by (IsDueIn run.form (g.L.TermOutput.lines run.lines)) counted (g.R.Read.remaining c.args.input.now.reader.now) c.in-Err.fault _
          (reports_memory counted c.in-Err.fault c.in-Err.ensures.fault);
      no_depth = search rules;
      input_read = tt;
      reports = search rules;
    }

pub run_owned-requires-clause-unrooted : goal.run_owned-requires-clause-unrooted
run_owned-requires-clause-unrooted g c = c.in-Ok.ensures.empty.2

pub run_owned-requires-clause-limit : goal.run_owned-requires-clause-limit
run_owned-requires-clause-limit g c = c.in-Ok.ensures.empty.3

use Rattle.std.proofs.Common.{refl, rules, ◌∙◌}
use Rattle.std.proofs.lemmas.Result.{IfErr-weaker, IfOk-weaker}
use Rattle.rx_run.specs.Run.{StopsWriting}
use Rattle.rx_run.specs.Streams.{is_read, is_write}
use Rattle.rx_run.specs.TermRuns.{IsDueIn, lines_at}
use Rattle.rx_run.proofs.FaultLemmas.{not_deep_unwritten, not_deep_writing, reports_unwritten_by, room_unwritten, room_writing}
use Rattle.rx_run.proofs.ErrorLemmas.{if_err_at}
use Rattle.rx_run.proofs.ReadDueLemmas.{breaks_result_by, concludes_by}
use Rattle.rx_run.proofs.TermDueLemmas.{given_due, given_element, given_held, one_due_in, still_unrooted}
use Rattle.rx_run.proofs.ReportLemmas.{read_on, read_still, returns_no, returns_on, unwritten_no_write, write_still, writing_no_read}
use Rattle.rx_run.proofs.WholeRunLemmas.{breaks_unwritten_by}
use Rattle.rx_run.proofs.term.runs.run_on_term_over.Goals as goal

pub end_term-requires-clause-held : goal.end_term-requires-clause-held
end_term-requires-clause-held g c = given_held c.args.run.now.form (g.R.Read.remaining c.args.input.now.reader.now) (g.B.TermBank.store c.read_term.new.bank)
    c.in_ok-reading.reading c.in_ok-reading.ensures.read

pub end_term-requires-clause-unrooted : goal.end_term-requires-clause-unrooted
end_term-requires-clause-unrooted g c = still_unrooted (g.L.TermOutput.reclaims c.args.run.now.lines) (g.B.TermBank.store c.args.bank.now)
    (g.B.TermBank.store c.read_term.new.bank) c.in_ok-reading.ensures.grows.roots c.requires.unrooted

pub returns-in_err-reading-clause-runs : goal.returns-in_err-reading-clause-runs
returns-in_err-reading-clause-runs g c =
    let run = c.args.run.now in
    let counted = g.L.TermOutput.counts_lines run.lines in
    let old = g.B.TermBank.store c.args.bank.now in
    let new = g.B.TermBank.store c.read_term.new.bank in
    let f = c.in_err-reading.field-0.0 in
    let stops = c.in_err-reading.ensures.fault in
    let r = c.from_residual.result in
    let is = c.from_residual.ensures.1 in
    record {
      ends = search rules;
      element = search rules;
      fault = if_err_at r _ f is (breaks_unwritten_by (IsDueIn run.form (g.L.TermOutput.lines run.lines)) counted
          (g.R.Read.remaining c.args.input.now.reader.now) f (g.W.Write.contents c.args.out.now.writer.now) (reports_unwritten_by counted old new f stops));
      no_depth = if_err_at r _ f is (not_deep_unwritten old new f stops);
      input_read = search rules;
      reports = (
        read_on c.args.input.now c.read_term.new.input r f is c.in_err-reading.ensures.reports,
        write_still c.args.out.now c.args.out.now r (returns_on is_write r f is ∙ unwritten_no_write old new f stops) (refl, refl),
      );
    }

pub returns-in_err-reading-clause-room : goal.returns-in_err-reading-clause-room
returns-in_err-reading-clause-room g c =
    let old = g.B.TermBank.store c.args.bank.now in
    let new = g.B.TermBank.store c.read_term.new.bank in
    let f = c.in_err-reading.field-0.0 in
    if_err_at c.from_residual.result _ f c.from_residual.ensures.1 (room_unwritten old new f c.in_err-reading.ensures.fault)

pub returns-clause-runs : goal.returns-clause-runs
returns-clause-runs g c =
    let form = c.args.run.now.form in
    let lines = g.L.TermOutput.lines c.args.run.now.lines in
    let known = g.R.Read.remaining c.args.input.now.reader.now in
    let w = g.B.TermBank.store c.read_term.new.bank in
    let reading = c.in_ok-reading.reading in
    let given = c.in_ok-reading.ensures.read in
    let r = c.end_term.result in
    record {
      ends = concludes_by (IsDueIn form lines) (lines_at lines w) known reading r _ _ (given_due form lines known w reading given)
          c.end_term.ensures.ends c.end_term.ensures.ok;
      element = IfOk-weaker r _ _ (λ ending e. given_element form known w reading ending given e) c.end_term.ensures.ends;
      fault = breaks_result_by (IsDueIn form lines) (lines_at lines w) (one_due_in form lines) (g.L.TermOutput.counts_lines c.args.run.now.lines) known
          reading r _ _ (given_due form lines known w reading given) c.end_term.ensures.err;
      no_depth = IfErr-weaker r _ _ not_deep_writing c.end_term.ensures.writing;
      input_read = search rules;
      reports = (
        read_still c.args.input.now c.read_term.new.input r (returns_no is_read StopsWriting r writing_no_read c.end_term.ensures.writing)
            c.in_ok-reading.ensures.reports,
        c.end_term.ensures.reports,
      );
    }

pub returns-clause-room : goal.returns-clause-room
returns-clause-room g c = IfErr-weaker c.end_term.result _ _
    (room_writing (g.B.TermBank.store c.args.bank.now) (g.B.TermBank.store c.end_term.new.bank)) c.end_term.ensures.writing

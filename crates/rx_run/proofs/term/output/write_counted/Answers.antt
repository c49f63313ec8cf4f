use Rattle.std.proofs.Common.{List, ℕ, rules, subst, sym}
use Rattle.std.specs.Io.KnownBytes.{Appends}
use Rattle.rx_run.specs.Run.{Stops}
use Rattle.rx_run.specs.TermRuns.{cells_line, lines_at}
use Rattle.rx_run.specs.Inner.TermReadings.{line_of}
use Rattle.rx_run.specs.declared.ending.RunFault.TheVariants.{Write}
use Rattle.rx_run.proofs.LineFrontLemmas.{stops_before, stops_write}
use Rattle.rx_run.proofs.TermDueLemmas.{counted_lines-at}
use Rattle.rx_text.proofs.AppendingLemmas.{appends_both, front_after}
use Rattle.rx_run.proofs.ErrorLemmas.{if_err_at}
use Rattle.rx_run.proofs.term.output.write_counted.Goals as goal

pub returns-in_err-write_one-clause-writes : goal.returns-in_err-write_one-clause-writes
returns-in_err-write_one-clause-writes g c =
    let w = g.B.TermBank.store c.args.bank.now in
    let v = g.B.TermBank.store c.keep_alone-cells.new.bank in
    let n = c.keep_alone-cells.result in
    let f = c.in_err-write_one.field-0.0 in
    let first = lines_at (line_of c.args.line) v c.args.t in
    let lines = counted_lines-at (line_of c.args.line) w v c.args.t n c.requires.held c.keep_alone-cells.ensures.kept c.keep_alone-cells.ensures.counted in
    record {
      ok = search rules;
      err = if_err_at c.from_residual.result _ f c.from_residual.ensures.1
          (subst (λ (text : List ℕ). Stops f text (g.W.Write.contents c.args.out.now.writer.now) (g.W.Write.contents c.write_one.new.out.writer.now)) (sym lines)
          (stops_before f first (cells_line n) _ _ c.in_err-write_one.ensures.err));
      writing = if_err_at c.from_residual.result _ f c.from_residual.ensures.1 c.in_err-write_one.ensures.writing;
      reports = search rules;
    }

pub returns-in_err-write_cells-clause-writes : goal.returns-in_err-write_cells-clause-writes
returns-in_err-write_cells-clause-writes g c =
    let w = g.B.TermBank.store c.args.bank.now in
    let v = g.B.TermBank.store c.keep_alone-cells.new.bank in
    let n = c.keep_alone-cells.result in
    let first = lines_at (line_of c.args.line) v c.args.t in
    let lines = counted_lines-at (line_of c.args.line) w v c.args.t n c.requires.held c.keep_alone-cells.ensures.kept c.keep_alone-cells.ensures.counted in
    record {
      ok = search rules;
      err = if_err_at c.from_residual-in_err-write_cells.result _ Write c.from_residual-in_err-write_cells.ensures.1
          (subst (λ (text : List ℕ). Stops Write text (g.W.Write.contents c.args.out.now.writer.now) (g.W.Write.contents c.write_cells.new.out.writer.now))
          (sym lines) (stops_write _ _ _ (front_after _ _ _ first (cells_line n) c.in_ok-write_one.ensures.ok c.in_err-write_cells.ensures.err)));
      writing = search rules;
      reports = search rules;
    }

pub returns-clause-writes : goal.returns-clause-writes
returns-clause-writes g c =
    let w = g.B.TermBank.store c.args.bank.now in
    let v = g.B.TermBank.store c.keep_alone-cells.new.bank in
    let n = c.keep_alone-cells.result in
    let first = lines_at (line_of c.args.line) v c.args.t in
    let lines = counted_lines-at (line_of c.args.line) w v c.args.t n c.requires.held c.keep_alone-cells.ensures.kept c.keep_alone-cells.ensures.counted in
    record {
      ok = subst (λ (text : List ℕ). Appends (g.W.Write.contents c.args.out.now.writer.now) (g.W.Write.contents c.write_cells.new.out.writer.now) text)
          (sym lines) (appends_both _ _ _ first (cells_line n) c.in_ok-write_one.ensures.ok c.in_ok-write_cells.ensures.ok);
      err = tt;
      writing = tt;
      reports = search rules;
    }

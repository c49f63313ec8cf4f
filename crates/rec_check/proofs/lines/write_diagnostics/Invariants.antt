use Rattle.std.proofs.Common.{◌≡◌, take}
use Rattle.std.specs.Io.KnownBytes.{Appends}
use Rattle.rx_text.specs.Output.{IsSameOutput}
use Rattle.rec_check.specs.Cursors.{IsCursor}
use Rattle.rec_check.specs.Findings.{as_diagnostics}
use Rattle.rec_check.specs.Lines.{lines_of}
use Rattle.rec_check.proofs.lines.write_diagnostics.Given as goal

-- the lines so far were written
abbrev pub invariant-loop-diagnostic : goal.invariant-loop-diagnostic
invariant-loop-diagnostic g l = record {
  written : Appends (g.W.Write.contents l.fn.out.writer.now) (g.W.Write.contents l.out.writer.now)
      (lines_of l.name l.text (as_diagnostics (take l.diagnostic-index l.diagnostics)));
  refused : l.out.refused ≡ l.fn.out.refused;
  same : IsSameOutput l.fn.out l.out;
  cursor : IsCursor l.text l.cursor;
}

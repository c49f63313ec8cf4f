use Rattle.std.proofs.Common.{◌≡◌, take}
use Rattle.std.specs.Io.KnownBytes.{Appends}
use Rattle.rx_text.specs.Output.{IsSameOutput}
use Rattle.rx_run.proofs.PatternLineLemmas.{yes_lines}
use Rattle.rx_run.proofs.pattern.lines.write_bindings.Given as goal

-- the lines so far were written
abbrev pub invariant-loop-i : goal.invariant-loop-i
invariant-loop-i g l =
    Appends (g.W.Write.contents l.fn.out.writer.now) (g.W.Write.contents l.out.writer.now)
    (yes_lines (g.B.TermBank.store l.bank) (take l.i l.bindings))
    × (l.out.refused ≡ l.fn.out.refused) × IsSameOutput l.fn.out l.out

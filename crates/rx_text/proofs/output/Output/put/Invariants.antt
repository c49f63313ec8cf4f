use Rattle.std.proofs.Common.{length, ◌-◌, ◌≤◌, take}
use Rattle.std.specs.Io.KnownBytes.{Appends}
use Rattle.rx_text.specs.Output.{IsWritable, IsSameOutput}
use Rattle.rx_text.proofs.output.Output.put.Given as goal

-- the front so far was written
abbrev pub invariant-loop-at : goal.invariant-loop-at
invariant-loop-at g l =
    (l.at ≤ length l.text) × Appends (g.W.Write.contents l.fn.self.writer.now) (g.W.Write.contents l.self.writer.now) (take l.at l.text)
    × IsWritable l.self × IsSameOutput l.fn.self l.self

abbrev pub decreases-loop-at : goal.decreases-loop-at
decreases-loop-at g l = length l.text - l.at

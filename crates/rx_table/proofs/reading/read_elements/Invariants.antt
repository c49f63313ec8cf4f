use Rattle.std.proofs.Common.{◌≤◌, ◌-◌, drop, length}
use Rattle.rx_term.specs.Steps.{Grows}
use Rattle.rx_table.specs.Inner.Reading.{IsReading}
use Rattle.rx_table.proofs.reading.read_elements.Given as goal

-- the nodes were read up to an index
abbrev pub invariant-loop-at : goal.invariant-loop-at
invariant-loop-at g l = record {
  reading : IsReading (g.B.TermBank.store l.bank) l.bytes l.nodes (drop l.at l.nodes) l.stack;
  grows : Grows (g.B.TermBank.store l.fn.bank) (g.B.TermBank.store l.bank);
  within : l.at ≤ length l.nodes;
}

abbrev pub decreases-loop-at : goal.decreases-loop-at
decreases-loop-at g l = length l.nodes - l.at

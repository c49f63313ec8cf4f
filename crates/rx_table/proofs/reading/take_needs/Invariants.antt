use Rattle.std.proofs.Common.{◌≡◌, drop, reverse}
use Rattle.rx_table.specs.Inner.Reading.{most}
use Rattle.rx_table.proofs.reading.take_needs.Given as goal

-- the needs that were taken, and those that are left
abbrev pub invariant-loop-index : goal.invariant-loop-index
invariant-loop-index l = record {
  most : l.elements ≡ most l._index (reverse l.fn.needs.items);
  left : reverse l.needs.items ≡ drop l._index (reverse l.fn.needs.items);
}

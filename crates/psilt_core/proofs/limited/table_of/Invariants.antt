use Rattle.std.proofs.Common.{◌≤◌}
use Rattle.rx_shared.specs.State.{store_of}
use Rattle.rx_names.specs.Names.{symbols_of}
use Rattle.psilt_core.proofs.NameLemmas.{IsTableTo}
use Rattle.psilt_core.proofs.limited.table_of.Given as goal

abbrev pub invariant-loop-number : goal.invariant-loop-number
invariant-loop-number l = record {
  within : l.number ≤ l.names;
  table : IsTableTo l.number (symbols_of l.table) (store_of l.fn.shared).symbols;
}

use Rattle.std.proofs.Common.{◌≡◌, ◌≤◌, ◌-◌, length, map, take}
use Rattle.rx_table.specs.Table.{is_shared}
use Rattle.rx_table.specs.Inner.Walk.{trees_of}
use Rattle.rx_table.proofs.shared.shared_parts.Given as goal

-- whether each of the parts so far is shared
abbrev pub invariant-loop-alloc : goal.invariant-loop-alloc
invariant-loop-alloc g l =
    let w = g.B.TermBank.store l.bank in
    record {
      few : length l.shared.items ≤ length l.parts.terms.keys;
      is : l.shared.items ≡ map (is_shared (trees_of w l.parts.terms.keys)) (trees_of w (take (length l.shared.items) l.parts.terms.keys));
    }

abbrev pub decreases-loop-alloc : goal.decreases-loop-alloc
decreases-loop-alloc g l = length l.parts.terms.keys - length l.shared.items

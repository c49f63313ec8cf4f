use Rattle.std.proofs.Common.{◌≡◌, ◌+◌, ◌≤◌, length, min, Some}
use Rattle.std.specs.Option.{option_and_then}
use Rattle.rx_term.specs.Parts.{parts}
use Rattle.rx_term.specs.Store.{tree_at}
use Rattle.rx_term.specs.Walks.{AllHeld, all_parts}
use Rattle.rx_term.proofs.walk.count_nodes.Given as goal

abbrev pub invariant-loop-u : goal.invariant-loop-u
invariant-loop-u g l = record {
  held : AllHeld (g.B.TermBank.store l.bank) l.stack.items;
  within : l.count ≤ 18446744073709551615;
  same : option_and_then (λ u. Some (min (length (parts u)) 18446744073709551615)) (tree_at (g.B.TermBank.store l.bank) l.fn.t) ≡ Some
      (min (l.count + length (all_parts (g.B.TermBank.store l.bank) l.stack.items)) 18446744073709551615);
}

abbrev pub decreases-loop-u : goal.decreases-loop-u
decreases-loop-u g l = length (all_parts (g.B.TermBank.store l.bank) l.stack.items)

use Rattle.std.proofs.Common.{◌≡◌, ◌≤◌, length, drop}
use Rattle.rx_term.specs.Store.{tree_at}
use Rattle.rx_term.specs.Steps.{Grows}
use Rattle.rx_term.specs.Walks.{Lists}
use Rattle.psilt_core.specs.Banks.{IsSameButTerms, store_of}
use Rattle.psilt_core.specs.Answers.{AddsRests, terms_of}
use Rattle.psilt_core.proofs.making.list.Given as goal

abbrev pub invariant-loop-left : goal.invariant-loop-left
invariant-loop-left l = record {
  within : l.left ≤ length l.items;
  grows : Grows (store_of l.fn.bank) (store_of l.bank);
  beside : IsSameButTerms l.fn.bank l.bank;
  added : AddsRests (store_of l.fn.bank) (store_of l.bank) l.items;
  named : (store_of l.bank).symbols ≡ (store_of l.fn.bank).symbols;
  lists : Lists (store_of l.fn.bank) (terms_of (drop l.left l.items)) (tree_at (store_of l.bank) l.list);
}

abbrev pub decreases-loop-left : goal.decreases-loop-left
decreases-loop-left l = l.left

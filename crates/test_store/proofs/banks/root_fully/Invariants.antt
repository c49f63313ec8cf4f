use Rattle.std.proofs.Common.{◌≡◌, IsSome}
use Rattle.rx_term.specs.Store.{tree_at}
use Rattle.test_store.proofs.banks.root_fully.Given as goal

abbrev pub invariant-loop-i : goal.invariant-loop-i
invariant-loop-i g l = (IsSome (tree_at (g.B.TermBank.store l.bank) l.a)) × ((g.B.TermBank.store l.bank).roots l.a.0 ≡ l._i)

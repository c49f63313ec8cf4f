-- References, and the trees that a store has for them.
use Rattle.std.specs.Prelude.{◌≡◌, List, reverse}
use Rattle.rx_term.specs.Tree.{Tree}
use Rattle.rx_term.specs.Store.{Store, cells}
use Rattle.rx_term.specs.Walks.{HaveTrees}
use Rattle.rx_term.specs.declared.Term.{Term}
use Rattle.rx_text.specs.declared.faults.TextFault.{TextFault}
use Rattle.rx_text.specs.declared.faults.TextFault.TheVariants.{Long, Grammar, Memory, Full}

-- Holds w rs ts: the references have these trees, in reverse order: the last reference has the
-- first tree
abbrev pub Holds : Store → List Term → List Tree → Type 0
Holds w rs ts = HaveTrees w (reverse rs) ts

-- IsRefusal w fault: the error is out of memory or a full store. Building from nodes has no other
-- error, and a full store has as many cells as its capacity.
abbrev pub IsRefusal : Store → TextFault → Type 0
IsRefusal w Long = ⊥
IsRefusal w (Grammar at) = ⊥
IsRefusal w Memory = Unit {0}
IsRefusal w Full = cells w ≡ w.cap

use Rattle.std.proofs.Common.{◌≡◌, ℕ, length}
use Rattle.std.specs.Prelude.{nat_eq}
use Rattle.std.specs.List.{list_any}
use Rattle.std.specs.HashSet.{contains}
use Rattle.rx_term.specs.Walks.{AllHeld, held_trees}
use Rattle.rec_sorts.specs.Walking.{AreDifferent, numbers, unstacked}
use Rattle.rec_sorts.proofs.VisitLemmas.{Visits}
use Rattle.rec_sorts.proofs.walk.distinct_nodes.Given as goal

abbrev pub invariant-loop-term : goal.invariant-loop-term
invariant-loop-term g l =
    let w = g.B.TermBank.store l.bank in
    record {
      stacked : AllHeld w l.stack.items;
      held : AllHeld w l.found.items;
      visited : (q : ℕ) → contains nat_eq l.visited q ≡ list_any (nat_eq q) (numbers l.found.items);
      distinct : AreDifferent l.found.items;
      visits : Visits w l.fn.stack.items l.found.items l.stack.items;
    }

abbrev pub decreases-loop-term : goal.decreases-loop-term
decreases-loop-term g l = length (unstacked (held_trees (g.B.TermBank.store l.bank) l.stack.items))

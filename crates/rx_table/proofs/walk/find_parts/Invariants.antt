use Rattle.std.proofs.Common.{◌≡◌, []}
use Rattle.rx_term.specs.Walks.{held_tree}
use Rattle.rx_table.specs.Inner.Walk.{visits_by_all}
use Rattle.rx_table.proofs.WalkLemmas.{Walking}
use Rattle.rx_table.proofs.walk.find_parts.Given as goal

-- the subterms so far are parts, the visits that follow leave the others, and the buffer is empty
abbrev pub invariant-loop-visit : goal.invariant-loop-visit
invariant-loop-visit g l =
    let w = g.B.TermBank.store l.bank in
    record {
      walking : Walking w (held_tree w l.fn.t) l.parts l.finished.items l.visits.items;
      empty : l.inside.items ≡ [];
    }

abbrev pub decreases-loop-visit : goal.decreases-loop-visit
decreases-loop-visit g l = visits_by_all (g.B.TermBank.store l.bank) l.visits.items

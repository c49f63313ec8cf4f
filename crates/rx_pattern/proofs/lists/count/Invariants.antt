use Rattle.std.proofs.Common.{◌≡◌, ◌+◌, Some}
use Rattle.rx_term.specs.Tree.{Trees, list_of, count_of}
use Rattle.rx_term.specs.Store.{tree_at}
use Rattle.rx_pattern.proofs.lists.count.Given as goal

-- the items that were passed, by their number
abbrev pub invariant-loop-counted : goal.invariant-loop-counted
invariant-loop-counted g l =
    let w = g.B.TermBank.store l.bank in
    (ts : Trees) → tree_at w l.fn.list ≡ Some (list_of ts) → (us : Trees) × (tree_at w l.rest ≡ Some (list_of us)) × (count_of ts ≡ l.counted + count_of us)

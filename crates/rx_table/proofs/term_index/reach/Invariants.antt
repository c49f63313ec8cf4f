use Rattle.std.proofs.Common.{◌≡◌, ◌+◌, ◌-◌, ℕ, length}
use Rattle.rx_table.specs.Inner.Pages.{entry_at}
use Rattle.rx_table.proofs.term_index.reach.Given as goal

-- the pages so far have the same entries
abbrev pub invariant-loop-pages : goal.invariant-loop-pages
invariant-loop-pages l = (t : ℕ) → entry_at l.pages.items t ≡ entry_at l.fn.pages.items t

abbrev pub decreases-loop-pages : goal.decreases-loop-pages
decreases-loop-pages l = (l.index + 1) - length l.pages.items

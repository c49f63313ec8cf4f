use Rattle.std.proofs.Common.{◌≡◌, take}
use Rattle.rx_table.specs.Inner.Elements.{counted}
use Rattle.rx_table.proofs.ElementLemmas.{trues}
use Rattle.rx_table.proofs.table.count_shared.Given as goal

-- the parts so far were counted
abbrev pub invariant-loop-is_shared : goal.invariant-loop-is_shared
invariant-loop-is_shared l = (l.numbers.items ≡ counted 0 (take l.is_shared-index l.shared))
    × (l.next ≡ trues (take l.is_shared-index l.shared))

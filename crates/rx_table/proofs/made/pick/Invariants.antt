use Rattle.std.proofs.Common.{◌≡◌, take}
use Rattle.rx_table.specs.Inner.Made.{picked}
use Rattle.rx_table.proofs.made.pick.Given as goal

-- the terms with the indices so far
abbrev pub invariant-loop-index : goal.invariant-loop-index
invariant-loop-index l = l.found.items ≡ picked l.made (take l.index-index l.inside)

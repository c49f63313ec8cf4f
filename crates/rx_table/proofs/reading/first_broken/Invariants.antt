use Rattle.std.proofs.Common.{reverse, take}
use Rattle.rx_table.specs.Inner.Reading.{Fit}
use Rattle.rx_table.proofs.reading.first_broken.Given as goal

-- the elements so far need no more than come before them
abbrev pub invariant-loop-number : goal.invariant-loop-number
invariant-loop-number l = Fit (reverse (take l.number l.needs))

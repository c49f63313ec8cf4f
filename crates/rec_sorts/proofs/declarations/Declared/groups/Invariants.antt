use Rattle.std.proofs.Common.{take, map}
use Rattle.rec_syntax.specs.Parts.{group_of}
use Rattle.rec_sorts.specs.Names.{given_to}
use Rattle.rec_sorts.specs.Declaring.{Adds, added_by_groups}
use Rattle.rec_sorts.proofs.declarations.Declared.groups.Given as goal

abbrev pub invariant-loop-group : goal.invariant-loop-group
invariant-loop-group l =
    Adds l.sorts.source.now (given_to l.sorts.names) l.initial.self l.self
    (added_by_groups (given_to l.sorts.names) (map (group_of l.sorts.source.now) (take l.group-index l.groups)))

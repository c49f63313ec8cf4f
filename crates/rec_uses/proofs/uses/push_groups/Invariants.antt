use Rattle.std.proofs.Common.{◌≡◌, ◌++◌, take, map}
use Rattle.std.specs.Prelude.{flat_map}
use Rattle.rec_syntax.specs.Parts.{group_of}
use Rattle.rec_uses.specs.Inner.Values.{as_uses}
use Rattle.rec_uses.specs.Uses.{group_uses}
use Rattle.rec_uses.proofs.uses.push_groups.Given as goal

abbrev pub invariant-loop-group : goal.invariant-loop-group
invariant-loop-group l = as_uses l.uses.items ≡ as_uses l.initial.uses.items
    ++ flat_map group_uses (map (group_of l.syntax.source) (take l.group-index l.groups))

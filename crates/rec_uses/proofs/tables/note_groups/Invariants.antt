use Rattle.std.proofs.Common.{List, ◌++◌, take, map}
use Rattle.std.specs.Prelude.{flat_map}
use Rattle.rec_syntax.specs.Parts.{group_of}
use Rattle.rec_uses.specs.Inner.Cursors.{IsCursor}
use Rattle.rec_uses.specs.Inner.Tables.{Holds}
use Rattle.rec_uses.specs.Uses.{Declared, group_declared}
use Rattle.rec_uses.proofs.tables.note_groups.Given as goal

abbrev pub invariant-loop-group : goal.invariant-loop-group
invariant-loop-group l = record {
  cursor : IsCursor l.syntax.source l.cursor;
  texts : (ds : List Declared) → Holds l.syntax.source l.initial.texts ds → Holds l.syntax.source l.texts
      (ds ++ flat_map group_declared (map (group_of l.syntax.source) (take l.group-index l.group-items)));
}

use Rattle.std.proofs.Common.{List, ◌++◌, take, map}
use Rattle.rec_syntax.specs.Parts.{declaration_of}
use Rattle.rec_uses.specs.Inner.Cursors.{IsCursor}
use Rattle.rec_uses.specs.Inner.Tables.{Holds, as_declared}
use Rattle.rec_uses.specs.Uses.{Declared}
use Rattle.rec_uses.proofs.tables.note_symbols.Given as goal

abbrev pub invariant-loop-declaration : goal.invariant-loop-declaration
invariant-loop-declaration l = record {
  cursor : IsCursor l.syntax.source l.cursor;
  texts : (ds : List Declared) → Holds l.syntax.source l.initial.texts ds → Holds l.syntax.source l.texts
      (ds ++ map (as_declared l.section) (map (declaration_of l.syntax.source) (take l.declaration-index l.declarations)));
}

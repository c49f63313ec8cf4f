use Rattle.std.proofs.Common.{List, ◌∷◌, ◌++◌, take, map}
use Rattle.rec_syntax.specs.Lexemes.{word_of}
use Rattle.rec_syntax.specs.Parts.{words_of}
use Rattle.rec_uses.specs.Inner.Cursors.{IsCursor}
use Rattle.rec_uses.specs.Inner.Tables.{Holds}
use Rattle.rec_uses.specs.Inner.Values.{as_word}
use Rattle.rec_uses.specs.Uses.{Declared, Variable}
use Rattle.rec_uses.proofs.tables.note_group.Given as goal

abbrev pub invariant-loop-span : goal.invariant-loop-span
invariant-loop-span l = record {
  cursor : IsCursor l.syntax.source l.cursor;
  texts : (ds : List Declared) → Holds l.syntax.source l.fn.texts ds → Holds l.syntax.source l.texts
      (ds ++ map (λ w. Variable w (as_word l.sort)) (word_of l.syntax.source l.group.first ∷ words_of l.syntax.source (take l.span-index l.span-items)));
}

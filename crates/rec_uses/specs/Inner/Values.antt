-- Words of a text that was read, as values.
use Rattle.std.specs.Prelude.{List, map, reverse}
use Rattle.rec_syntax.specs.Tokens as syntax
use Rattle.rec_syntax.specs.Syntax.{Term, subterms}
use Rattle.rec_sorts.specs.SpecRules.{heads}
use Rattle.rec_uses.specs.Inner.Heads as passing
use Rattle.rec_uses.specs.Uses as spec
use Rattle.rec_uses.specs.declared.order.Order.{Order}
use Rattle.rec_uses.specs.declared.order.Waiting.{Waiting}
use Rattle.rec_uses.specs.declared.uses.Role.{Role}
use Rattle.rec_uses.specs.declared.uses.Use.{Use}
use Rattle.rec_uses.specs.declared.words.Word.{Word}

abbrev pub as_word : Word → syntax.Word
as_word w = record { at = w.at; bytes = w.bytes.now }

abbrev pub as_words : List Word → List syntax.Word
as_words ws = map as_word ws

abbrev pub as_use : Use → spec.Use
as_use u = record { word = as_word u.word; role = u.role }

abbrev pub as_uses : List Use → List spec.Use
as_uses us = map as_use us

-- used_as role w: a word in this role
abbrev pub used_as : Role → syntax.Word → spec.Use
used_as role w = record { word = w; role = role }

-- term_uses t: the words of a term
abbrev pub term_uses : Term → List spec.Use
term_uses t = map spec.name_use (heads (subterms t))

abbrev pub as_waiting : Waiting → passing.Waiting
as_waiting w = record { word = as_word w.word; left = w.left }

-- state_of o: what was passed; the last of each list is the innermost, or the first of the text
abbrev pub state_of : Order → passing.State
state_of o = record {
  waiting = map as_waiting (reverse o.waiting.items);
  complete = as_words (reverse o.complete.items);
}

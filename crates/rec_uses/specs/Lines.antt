-- The lines of the words of a specification.
--     line_of name text y u      NAME:LINE:COL: KIND WORD: LINE:COL: TYPE
--     chosen text at us          all words, or those that name the same as the word at a location
--     uses_lines name text at y  the lines of the words that are chosen
use Rattle.std.specs.Prelude.{ℕ, Bool, ◌+◌, ◌&&◌, List, [], ◌∷◌, ◌++◌, Option, Some, None, codes}
use Rattle.std.specs.Prelude.{decimal, if◌then◌else◌, filter, flat_map, length, nat_eq, nat_le, nat_lt}
use Rattle.rec_syntax.specs.Tokens.{Word}
use Rattle.rec_syntax.specs.Syntax.{Declaration, Spec}
use Rattle.rec_uses.specs.Spots.{spot_of}
use Rattle.rec_uses.specs.Uses.{Use, Declared, Sort, Constructor, Operator, Variable, declared_word}
use Rattle.rec_uses.specs.Uses.{named, names_same, uses}
use Rattle.rec_uses.specs.declared.spots.Spot.{Spot}
use Rattle.rec_uses.specs.declared.uses.Role.{Role}
use Rattle.rec_uses.specs.declared.uses.Role.TheVariants as role

-- kind_text d: the kind of a declaration
abbrev pub kind_text : Declared → List ℕ
kind_text (Sort w) = codes "sort "
kind_text (Constructor d) = codes "constructor "
kind_text (Operator d) = codes "operator "
kind_text (Variable w sort) = codes "variable "

-- symbol_type d: the sorts of the arguments, an arrow and the result sort
abbrev pub symbol_type : Declaration → List ℕ
symbol_type d = flat_map (λ s. s.bytes ++ codes " ") d.arguments ++ codes "-> " ++ d.sort.bytes

-- type_text d: the sorts of a symbol or a variable
abbrev pub type_text : Declared → List ℕ
type_text (Sort w) = []
type_text (Constructor d) = codes ": " ++ symbol_type d
type_text (Operator d) = codes ": " ++ symbol_type d
type_text (Variable w sort) = codes ": " ++ sort.bytes

-- declared_at kind bytes s: a kind, a word and the location of its declaration
abbrev pub declared_at : List ℕ → List ℕ → Spot → List ℕ
declared_at kind bytes s =
    kind ++ bytes ++ (codes ": " ++ decimal s.line) ++ (codes ":" ++ decimal s.column)

-- declared_text text d: what follows the location of a word with this declaration
abbrev pub declared_text : List ℕ → Declared → List ℕ
declared_text text d =
    declared_at (kind_text d) (declared_word d).bytes (spot_of text (declared_word d).at)
    ++ type_text d ++ codes "\n"

-- unknown_text role bytes: what follows the location of a word without declaration
abbrev pub unknown_kind : Role → List ℕ
unknown_kind role.Sort = codes "sort "
unknown_kind role.Name = codes "undeclared "

abbrev pub unknown_text : Role → List ℕ → List ℕ
unknown_text r bytes = unknown_kind r ++ bytes ++ codes ": -\n"

-- description text y u: what follows the location of a word
abbrev pub description : List ℕ → Spec → Use → List ℕ
description text y u = elim (named y u) [
  | Some d ↦ declared_text text d
  | None ↦ unknown_text u.role u.word.bytes
]

-- place_text name s: the name of the text and a location, each with a colon
abbrev pub place_text : List ℕ → Spot → List ℕ
place_text name s = name ++ (codes ":" ++ decimal s.line) ++ (codes ":" ++ decimal s.column)
    ++ codes ": "

-- line_of name text y u: the line of a word
abbrev pub line_of : List ℕ → List ℕ → Spec → Use → List ℕ
line_of name text y u = place_text name (spot_of text u.word.at) ++ description text y u

-- covers p s w: the location `s` is that of a byte of the word, which begins at `p`
abbrev pub covers : Spot → Spot → Word → Bool
covers p s w = nat_eq p.line s.line && nat_le p.column s.column
    && nat_lt s.column (p.column + length w.bytes)

-- is_at text s u: a byte of the word is at this location
abbrev pub is_at : List ℕ → Spot → Use → Bool
is_at text s u = covers (spot_of text u.word.at) s u.word

-- first_at text s us: the first word that is at a location
abbrev pub first_at : List ℕ → Spot → List Use → Option Use
first_at text s [] = None
first_at text s (u ∷ us) = if is_at text s u then Some u else first_at text s us

-- like o us: those that name the same as the word; none without a word
abbrev pub like : Option Use → List Use → List Use
like None us = []
like (Some u) us = filter (λ v. names_same u v) us

-- chosen text at us: all words, or those that name the same as the word at a location
abbrev pub chosen : List ℕ → Option Spot → List Use → List Use
chosen text None us = us
chosen text (Some s) us = like (first_at text s us) us

-- uses_lines name text at y: the lines of the words that are chosen
abbrev pub uses_lines : List ℕ → List ℕ → Option Spot → Spec → List ℕ
uses_lines name text at y = flat_map (line_of name text y) (chosen text at (uses y))

-- The words of a specification in the order of the text, and their declarations.
--     uses y           every word but the name of the specification
--     named y u        the declaration of a word: the first one with its bytes
--     names_same u v   both words name the same
use Rattle.std.specs.Prelude.{ℕ, Bool, true, false, ◌&&◌, List, [], ◌∷◌, ◌++◌, Option, Some, None}
use Rattle.std.specs.Prelude.{map, flat_map, bytes_eq}
use Rattle.rec_syntax.specs.Tokens.{Word}
use Rattle.rec_syntax.specs.Syntax.{Declaration, Variables, Spec}
use Rattle.rec_sorts.specs.Lookup.{symbols}
use Rattle.rec_sorts.specs.SpecRules.{heads, all_terms, sorts_of}
use Rattle.rec_uses.specs.declared.uses.Role.{Role}
use Rattle.rec_uses.specs.declared.uses.Role.TheVariants as role

-- a word and its role: a sort, or the name of a symbol or a variable
pub record Use : Type 0 where
  pub word : Word
  pub role : Role

-- sort_use w, name_use w: the word in its role
abbrev pub sort_use : Word → Use
sort_use w = record { word = w; role = role.Sort }

abbrev pub name_use : Word → Use
name_use w = record { word = w; role = role.Name }

-- declaration_uses d: the symbol, the sorts of its arguments and its result sort
abbrev pub declaration_uses : Declaration → List Use
declaration_uses d = name_use d.name ∷ map sort_use (sorts_of d)

-- group_uses v: the variables and their sort
abbrev pub group_uses : Variables → List Use
group_uses v = map name_use (v.first ∷ v.others) ++ sort_use v.sort ∷ []

-- uses y: the words of the sections, in the order of the text
abbrev pub uses : Spec → List Use
uses y = map sort_use y.sorts ++ flat_map declaration_uses (symbols y)
    ++ flat_map group_uses y.variables ++ map name_use (heads (all_terms y))

-- a declaration
pub data Declared : Type 0 where
  Sort : Word → Declared
  Constructor : Declaration → Declared
  Operator : Declaration → Declared
  -- a variable and its sort
  Variable : Word → Word → Declared

-- declared_word d: the word that declares it
abbrev pub declared_word : Declared → Word
declared_word (Sort w) = w
declared_word (Constructor d) = d.name
declared_word (Operator d) = d.name
declared_word (Variable w sort) = w

-- the variables of a group
abbrev pub group_declared : Variables → List Declared
group_declared v = map (λ w. Variable w v.sort) (v.first ∷ v.others)

-- declared_in y role: the declared sorts, or the declared symbols and variables
abbrev pub declared_in : Spec → Role → List Declared
declared_in y role.Sort = map Sort y.sorts
declared_in y role.Name = map Constructor y.constructors ++ map Operator y.operators
    ++ flat_map group_declared y.variables

-- first_named ds name: the first declaration with these bytes
abbrev pub first_named : List Declared → List ℕ → Option Declared
first_named [] name = None
first_named (d ∷ ds) name = elim (bytes_eq (declared_word d).bytes name) [
  | true ↦ Some d
  | false ↦ first_named ds name
]

-- named y u: the declaration that a word names
abbrev pub named : Spec → Use → Option Declared
named y u = first_named (declared_in y u.role) u.word.bytes

-- both words are sorts, or neither is
abbrev pub same_role : Role → Role → Bool
same_role role.Sort role.Sort = true
same_role role.Sort role.Name = false
same_role role.Name role.Sort = false
same_role role.Name role.Name = true

-- names_same u v: both words have the same bytes, in the same role
abbrev pub names_same : Use → Use → Bool
names_same u v = same_role u.role v.role && bytes_eq u.word.bytes v.word.bytes

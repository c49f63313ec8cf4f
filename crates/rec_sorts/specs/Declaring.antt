-- Declarations by numbers.
use Rattle.std.specs.Prelude.{ℕ, ◌≡◌, List, [], ◌∷◌, ◌++◌, Option, map, All, is_none}
use Rattle.rec_syntax.specs.Tokens.{Word}
use Rattle.rec_syntax.specs.Syntax.{Declaration, Variables}
use Rattle.rec_syntax.specs.Parts.{words_of, Within}
use Rattle.rec_sorts.specs.Least.{earlier, least_of, place_where}
use Rattle.rec_sorts.specs.Names.{Numbers}
use Rattle.rec_sorts.specs.declared.declarations.Declared.{Declared}

-- sort_numbers numbers ws: the numbers of some names
abbrev pub sort_numbers : Numbers → List Word → List (Option ℕ)
sort_numbers numbers ws = map (λ w. numbers w.bytes) ws

-- unnumbered numbers w: the offset of a name if it has no number
abbrev pub unnumbered : Numbers → Word → Option ℕ
unnumbered numbers w = place_where (is_none (numbers w.bytes)) w.at

-- least_unnumbered numbers ws: the least offset of a name that has no number
abbrev pub least_unnumbered : Numbers → List Word → Option ℕ
least_unnumbered numbers ws = least_of (unnumbered numbers) ws

-- the additions of declarations: names, their sorts, and the argument sorts of symbols
pub record Additions : Type 0 where
  pub words : List Word
  pub sorts : List (Option ℕ)
  pub arguments : List (List (Option ℕ))
  -- the names that have to be declared sorts
  pub named : List Word

-- both a b: the additions `a` followed by the additions `b`
abbrev pub both : Additions → Additions → Additions
both a b = record {
  words = a.words ++ b.words;
  sorts = a.sorts ++ b.sorts;
  arguments = a.arguments ++ b.arguments;
  named = a.named ++ b.named;
}

-- no additions
abbrev pub nothing_added : Additions
nothing_added = record { words = []; sorts = []; arguments = []; named = [] }

-- added_by add xs: the additions of some items, one after another
abbrev pub added_by : {X : Type 0} → (X → Additions) → List X → Additions
added_by add [] = nothing_added
added_by add (x ∷ xs) = both (add x) (added_by add xs)

-- the additions of a symbol's declaration
abbrev pub added_by_symbol : Numbers → Declaration → Additions
added_by_symbol numbers d = record {
  words = d.name ∷ [];
  sorts = numbers d.sort.bytes ∷ [];
  arguments = sort_numbers numbers d.arguments ∷ [];
  named = d.arguments ++ d.sort ∷ [];
}

-- the additions of several symbols' declarations
abbrev pub added_by_symbols : Numbers → List Declaration → Additions
added_by_symbols numbers ds = added_by (added_by_symbol numbers) ds

-- the additions of a group of variables
abbrev pub added_by_group : Numbers → Variables → Additions
added_by_group numbers v = record {
  words = v.first ∷ v.others;
  sorts = map (λ _. numbers v.sort.bytes) (v.first ∷ v.others);
  arguments = [];
  named = v.sort ∷ [];
}

-- the additions of several groups of variables
abbrev pub added_by_groups : Numbers → List Variables → Additions
added_by_groups numbers vs = added_by (added_by_group numbers) vs

-- Adds source numbers old new a: the declarations `new` are `old` followed by the additions `a`
pub record Adds (source : List ℕ) (numbers : Numbers) (old new : Declared) (a : Additions)
    : Type 0 where
  pub words_added : words_of source new.words.items ≡ words_of source old.words.items ++ a.words
  pub sorts_added : new.sorts.items ≡ old.sorts.items ++ a.sorts
  pub arguments_added : map (λ v. v.items) new.arguments.items
      ≡ map (λ v. v.items) old.arguments.items ++ a.arguments
  pub within_added : All (Within source) old.words.items → All (Within source) new.words.items
  pub unknown_added : new.unknown ≡ earlier old.unknown (least_unnumbered numbers a.named)

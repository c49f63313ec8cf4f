-- The numbers of the elements of a table, by the parts of its tree.
use Rattle.std.specs.Prelude.{ℕ, ◌≡◌, length, suc, Bool, true, false, if◌then◌else◌, List, [], ◌∷◌, ◌++◌, Option}
use Rattle.std.specs.Prelude.{Some, None, get_or}
use Rattle.rx_term.specs.Tree.{Tree, tree_eq}
use Rattle.rx_term.specs.Store.{Store}
use Rattle.rx_term.specs.Steps.{IsSound}
use Rattle.rx_text.specs.Canon.{canon}
use Rattle.rx_text.specs.Numbered.{Style, Numbered, entry, written}
use Rattle.rx_text.specs.declared.writer.Printer.{Printer}
use Rattle.rx_table.specs.Inner.Walk.{AreThere, part_tree, trees_of}
use Rattle.rx_table.specs.declared.table.Elements.{Elements}

-- counted k bs: for each `true` how many come before it, counted from `k`
abbrev pub counted : ℕ → List Bool → List (Option ℕ)
counted k [] = []
counted k (true ∷ bs) = Some k ∷ counted (suc k) bs
counted k (false ∷ bs) = None ∷ counted k bs

-- number_at qs ns u: the number of the first of the trees `qs` that is equal to `u`
abbrev pub number_at : List Tree → List (Option ℕ) → Tree → Option ℕ
number_at (q ∷ qs) (n ∷ ns) u = if tree_eq u q then n else number_at qs ns u
number_at qs ns u = None

-- style_of e w: parts are printed by their numbers
abbrev pub style_of : Elements → Store → Style
style_of e w = Numbered (number_at (trees_of w e.parts.now.terms.keys) e.numbers.now)

-- AreIn e w: the parts are terms of the store
pub record AreIn (e : Elements) (w : Store) : Type 0 where
  pub there : AreThere w e.parts.now.terms.keys
  pub sound : IsSound w

-- CanPrint store p: the parts are terms of the store that is printed, and each has a number or none
pub record CanPrint {B : Type 0} (store : B → Store) (p : Printer B Elements) : Type 0 where
  pub in_store : AreIn p.numbers (store p.bank.now)
  pub each : length p.numbers.numbers.now ≡ length p.numbers.parts.now.terms.keys

-- element_texts s qs ns: the elements of the trees that have a number, each with a comma after it
abbrev pub element_texts : Style → List Tree → List (Option ℕ) → List ℕ
element_texts s (q ∷ qs) (Some n ∷ ns) = canon (entry s q) ++ 44 ∷ element_texts s qs ns
element_texts s (q ∷ qs) (None ∷ ns) = element_texts s qs ns
element_texts s qs ns = []

module _ {B : Type 0} where
  -- element_of store p i: the element of the part with this index and a comma, if it has a number
  abbrev pub element_of : (B → Store) → Printer B Elements → ℕ → List ℕ
  element_of store p i = element_texts (style_of p.numbers (store p.bank.now))
      (part_tree (store p.bank.now) p.numbers.parts.now.terms.keys i ∷ [])
      (get_or p.numbers.numbers.now i None ∷ [])

  -- elements_of store p: the elements that are printed, each with a comma after it
  abbrev pub elements_of : (B → Store) → Printer B Elements → List ℕ
  elements_of store p = element_texts (style_of p.numbers (store p.bank.now))
      (trees_of (store p.bank.now) p.numbers.parts.now.terms.keys) p.numbers.numbers.now

  -- list_text store p u: these elements and then a tree, as a list
  abbrev pub list_text : (B → Store) → Printer B Elements → Tree → List ℕ
  list_text store p u = 91 ∷ elements_of store p
      ++ canon (written (style_of p.numbers (store p.bank.now)) u) ++ 93 ∷ []

-- Matching of a left-hand side in postfix form against a term, from the last item to the first.
--     asked y ms st s         the substitution after matching names, from the last to the first,
--                             against the trees on a stack
--     Stands y ts s ls v      items and values represent terms on a stack and a substitution
--     AreSizes ls ns          for each item, the size of the term that ends with it
--     Matches left term b     whether the left-hand side with these items matches the term
use Rattle.std.specs.Prelude.{ℕ, ◌≡◌, ◌<◌, ◌+◌, Bool, true, false, List, [], ◌∷◌, ◌++◌, Option}
use Rattle.std.specs.Prelude.{Some, None}
use Rattle.std.specs.Prelude.{All, Contains, cond, get_or, is_some, length, nat_eq, option_map, map}
use Rattle.std.specs.Prelude.{take}
use Rattle.indexmap.specs.IndexMap.{get}
use Rattle.rx_term.specs.Tree.{Tree}
use Rattle.rec_syntax.specs.Syntax.{Term, Terms, none, more, Rule, Spec}
use Rattle.rec_sorts.specs.Lookup.{is_variable}
use Rattle.rec_sorts.specs.Binding.{Substitution, binds, value_of, tree_of}
use Rattle.rec_sorts.specs.Numbering.{AreLetters, IsMeaning, Named, name_of, named, named_by}
use Rattle.rec_sorts.specs.Numbering.{variable_count}
use Rattle.rec_sorts.specs.SpecRules.{fault}
use Rattle.rec_sorts.specs.declared.letters.Letter.{Letter}
use Rattle.rec_sorts.specs.declared.letters.Meaning.TheVariants.{Variable}
use Rattle.rec_match.specs.Inner.Asking.{stack_on}
use Rattle.rec_match.specs.Bound.{bound, goes_on, opened}
use Rattle.rec_check.specs.declared.matching.Values.{Values}

-- asked y ms st s: a variable takes the tree on top; a symbol replaces it by its arguments
abbrev pub asked : Spec → List Named → List Tree → Substitution → Option Substitution
asked y [] st s = Some s
asked y (m ∷ ms) [] s = None
asked y (m ∷ ms) (u ∷ st) s = elim (is_variable y m.name) [
  | true ↦ goes_on (bound s m.name u) (λ r. asked y ms st r)
  | false ↦ goes_on (opened m.name m.arguments u) (λ us. asked y ms (stack_on us st) s)
]

-- names_below ts: the names of terms on a stack, whose top is first
abbrev pub names_below : List Term → List Named
names_below [] = []
names_below (t ∷ ts) = names_below ts ++ named t

-- onto us ts: pushes terms on a stack; the last one is on top
abbrev pub onto : Terms → List Term → List Term
onto none ts = ts
onto (more t us) ts = onto us (t ∷ ts)

-- value_in v k: the items of a variable's value
abbrev pub value_in : Values → ℕ → Option (List Letter)
value_in v k = option_map (λ p. p.now) (get nat_eq v.of k)

-- IsGiven old new k part: sets the value of one variable
abbrev pub IsGiven : Values → Values → ℕ → List Letter → Type 0
IsGiven old new k part = (j : ℕ) → value_in new j ≡ cond (nat_eq k j) (Some part) (value_in old j)

-- IsValue y o u: a value as its items and as a tree
abbrev pub IsValue : Spec → Option (List Letter) → Option Tree → Type 0
IsValue y None o = o ≡ None
IsValue y (Some part) o = (t : Term) × AreLetters y part t × (o ≡ Some (tree_of t))

-- AreValues y v s: the values of all variables
abbrev pub AreValues : Spec → Values → Substitution → Type 0
AreValues y v s = (k : ℕ) → k < variable_count y
    → IsValue y (value_in v k) (value_of s (name_of y (Variable k)))

-- Stands y ts s letters v: items and values represent terms on a stack, and a substitution
pub record Stands (y : Spec) (ts : List Term) (s : Substitution) (letters : List Letter)
    (v : Values) : Type 0 where
  pub names : map (named_by y) letters ≡ names_below ts
  pub meant : All (λ l. IsMeaning y l.meaning) letters
  pub values : AreValues y v s

-- BindsTo, Binds: the result of binding a variable to a term
abbrev pub BindsTo : Spec → Values → Option Substitution → Bool → Type 0
BindsTo y new o true = (s : Substitution) × (o ≡ Some s) × AreValues y new s
BindsTo y new o false = o ≡ None

abbrev pub Binds : ℕ → List Letter → Values → Values → Bool → Type 0
Binds k part old new b = (y : Spec) (s : Substitution) (t : Term) → fault y ≡ None
    → k < variable_count y → AreValues y old s → AreLetters y part t
    → BindsTo y new (bound s (name_of y (Variable k)) (tree_of t)) b

-- LeavesAt, Asks: the terms that remain after matching one name of a left-hand side
abbrev pub LeavesAt : Spec → Named → List Term → Substitution → Values → Option (List Letter)
    → Type 0
LeavesAt y m ts s new (Some others) = (us : List Term) × (r : Substitution)
    × Stands y us r others new
    × ((ms : List Named) → asked y (m ∷ ms) (map tree_of ts) s ≡ asked y ms (map tree_of us) r)
LeavesAt y m ts s new None = (ms : List Named) → asked y (m ∷ ms) (map tree_of ts) s ≡ None

abbrev pub Asks : Letter → List Letter → Values → Values → Option (List Letter) → Type 0
Asks l letters old new found = (y : Spec) (ts : List Term) (s : Substitution) → fault y ≡ None
    → IsMeaning y l.meaning → Stands y ts s letters old
    → LeavesAt y (named_by y l) ts s new found

-- AreSizes letters sizes: the size of an item is that of the term that ends with it
pub record AreSizes (letters : List Letter) (sizes : List ℕ) : Type 0 where
  pub long : length sizes ≡ length letters
  pub each : (i : ℕ) → i < length letters → (y : Spec) (ms : List Named) (t : Term)
      → map (named_by y) (take (i + 1) letters) ≡ ms ++ named t
      → get_or sizes i 0 ≡ length (named t)

-- Matches left term b: whether the left-hand side matches the term, whose variables are constants
abbrev pub Matches : List Letter → List Letter → Bool → Type 0
Matches left term b = (y : Spec) (r : Rule) (t : Term) → fault y ≡ None → Contains y.rules r
    → AreLetters y left r.left → AreLetters y term t → b ≡ is_some (binds y r.left (tree_of t))

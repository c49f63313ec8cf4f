-- Matchers, and the rules that they find.
use Rattle.std.specs.Prelude.{ℕ, ◌≡◌, ◌<◌, ◌≤◌, List, [], ◌∷◌, ◌++◌, Option, Some, None, All, map}
use Rattle.std.specs.Prelude.{◌-◌, reverse, length, get_or, drop, zero, suc}
use Rattle.rx_term.specs.Tree.{Tree, Trees, from_list}
use Rattle.rx_term.specs.Store.{Store}
use Rattle.rx_term.specs.declared.Term.{Term}
use Rattle.rx_term.specs.declared.Symbol as bank
use Rattle.rx_term.specs.Walks.{AllHeld, held_trees}
use Rattle.rec_syntax.specs.Syntax as R
use Rattle.rec_syntax.specs.Syntax.{Spec, Rule}
use Rattle.rec_sorts.specs.Lookup.{symbols, count}
use Rattle.rec_sorts.specs.Lookup as lookup
use Rattle.rec_sorts.specs.Binding.{Substitution, value_of, application, first_match}
use Rattle.rec_sorts.specs.Numbering.{named_all, name_of, named_by, IsMeaning, arity_of}
use Rattle.rec_sorts.specs.Linked.{AreLinked}
use Rattle.rec_sorts.specs.declared.letters.Letter.{Letter}
use Rattle.rec_sorts.specs.declared.letters.Meaning.TheVariants.{Symbol, Variable}
use Rattle.rec_match.specs.Forests.{IsForest, IsFoundBy, NoneBefore, StandAbove, values_among}
use Rattle.rec_match.specs.Ordered.{numbers_in}
use Rattle.rec_match.specs.Rows.{values_of}
use Rattle.rec_sorts.specs.SpecRules.{fault}
use Rattle.rec_match.specs.declared.forest.Glance.{Glance}
use Rattle.rec_match.specs.declared.forest.Glance.TheVariants.{Found as Hits, Left}
use Rattle.rec_match.specs.declared.forest.Hit.{Hit}
use Rattle.rec_match.specs.declared.matcher.LeftSide.{LeftSide}
use Rattle.rec_match.specs.declared.matcher.Matcher.{Matcher}

-- numbers_of ss: the numbers of a store's symbols
abbrev pub numbers_of : List bank.Symbol → List ℕ
numbers_of ss = map (λ (s : bank.Symbol). s.0) ss

-- paired y vs ts: variables with their values
abbrev pub paired : Spec → List ℕ → List Tree → Substitution
paired y (v ∷ vs) (t ∷ ts) = (record { name = name_of y (Variable v); value = t }) ∷ paired y vs ts
paired y _ _ = []

-- SameValues s s': two substitutions give each name the same value
abbrev pub SameValues : Substitution → Substitution → Type 0
SameValues s s' = (name : List ℕ) → value_of s name ≡ value_of s' name

-- FirstAt xs v p: `p` is the first index of `v`
abbrev pub FirstAt : List ℕ → ℕ → ℕ → Type 0
FirstAt [] v p = ⊥
FirstAt (x ∷ xs) v zero = x ≡ v
FirstAt (x ∷ xs) v (suc p) = (x ≡ v → ⊥) × FirstAt xs v p

-- AreFilled y ls: each symbol has the declared number of arguments
abbrev pub AreFilled : Spec → List Letter → Type 0
AreFilled y ls = All (λ (l : Letter). (k : ℕ) → l.meaning ≡ Symbol k → arity_of y k ≡ l.count) ls

-- Skips y name from at: no rule between the two matches an application of the name
abbrev pub Skips : Spec → List ℕ → ℕ → ℕ → Type 0
Skips y name from at = (vs : Trees)
    → first_match y from (drop from y.rules) (application name vs)
    ≡ first_match y at (drop at y.rules) (application name vs)

-- symbol_at m i: the symbol of rule `i`
abbrev pub symbol_at : Matcher → ℕ → ℕ
symbol_at m i = get_or (map (λ (s : LeftSide). s.symbol) m.sides.items) i 0

-- count_at m i: the number of arguments of that symbol
abbrev pub count_at : Matcher → ℕ → ℕ
count_at m i = get_or (map (λ (s : LeftSide). s.count) m.sides.items) i 0

-- next_at m i: the next rule of the same symbol
abbrev pub next_at : Matcher → ℕ → ℕ
next_at m i = get_or (map (λ (s : LeftSide). s.next) m.sides.items) i 0

-- variables_at m i: the variables of a rule, in the order of their first occurrence
abbrev pub variables_at : Matcher → ℕ → List ℕ
variables_at m i = get_or (map (λ (s : LeftSide). s.variables.items) m.sides.items) i []

-- HeadAt m i k: if rule `i` exists, its symbol is `k`
abbrev pub HeadAt : Matcher → ℕ → ℕ → Type 0
HeadAt m i k = i < length m.sides.items → symbol_at m i ≡ k

-- IsSide y ss m i r: entry `i` of the matcher is that of the rule's left-hand side
pub record IsSide (y : Spec) (ss : List bank.Symbol) (m : Matcher) (i : ℕ) (r : Rule) : Type 0 where
  pub declared : symbol_at m i < length (symbols y)
  pub head : (R.head r.left).bytes ≡ name_of y (Symbol (symbol_at m i))
  pub counted : count (R.arguments r.left) ≡ count_at m i
  pub filled : count_at m i ≡ arity_of y (symbol_at m i)
  pub letters : List Letter
  pub meant : All (λ l. IsMeaning y l.meaning) (reverse letters)
  pub named : map (named_by y) letters ≡ named_all (R.arguments r.left)
  pub filled_letters : AreFilled y (reverse letters)
  pub variables : variables_at m i ≡ numbers_in [] letters
  pub later : i < next_at m i
  pub skips : Skips y (name_of y (Symbol (symbol_at m i))) (suc i) (next_at m i)
  pub next : HeadAt m (next_at m i) (symbol_at m i)

-- IsMatcher y ss m: `m` is the matcher of a specification with these symbols
pub record IsMatcher (y : Spec) (ss : List bank.Symbol) (m : Matcher) : Type 0 where
  pub kept : fault y ≡ None
  pub linked : m.links ≡ ss
  pub ruled : length m.sides.items ≡ length y.rules
  pub sides : (i : ℕ) (r : Rule) → i < length y.rules → IsSide y ss m i (get_or y.rules i r)
  pub symbols : length m.heads.items ≡ length (symbols y)
  pub heads : (k : ℕ) (d : ℕ) → k < length m.heads.items
      → Skips y (name_of y (Symbol k)) 0 (get_or m.heads.items k d)
      × HeadAt m (get_or m.heads.items k d) k
  pub forest : IsForest y (numbers_of ss) m.forest

-- HasFound: rule `i` matches, and `bind` has the values of its variables
pub record HasFound (y : Spec) (w : Store) (m : Matcher) (name : List ℕ) (at : ℕ)
    (args bind : List Term) (i : ℕ) : Type 0 where
  pub values : Substitution
  pub first : first_match y at (drop at y.rules) (application name (from_list (held_trees w args)))
      ≡ Some (record { number = i; values = values })
  pub same : SameValues (paired y (variables_at m i) (held_trees w bind)) values
  pub bound : held_trees w bind ≡ values_of values
  pub counted : length bind ≡ length (variables_at m i)
  pub head : symbol_at m i ≡ symbol_at m at
  pub held : AllHeld w bind

-- Finds: the lowest-numbered rule, at least `at`, that matches; or there is none
abbrev pub Finds : Spec → Store → Matcher → List ℕ → ℕ → List Term → List Term → Option ℕ → Type 0
Finds y w m name at args bind (Some i) = HasFound y w m name at args bind i
Finds y w m name at args bind None =
    first_match y at (drop at y.rules) (application name (from_list (held_trees w args))) ≡ None

-- CanFind: rule `at` belongs to the symbol, whose arguments are the last references
pub record CanFind (w : Store) (m : Matcher) (symbol count at : ℕ) (work : List Term) : Type 0 where
  pub spec : Spec
  pub symbols : List bank.Symbol
  pub linked : AreLinked spec w symbols
  pub matcher : IsMatcher spec symbols m
  pub declared : symbol < length (lookup.symbols spec)
  pub head : HeadAt m at symbol
  pub counted : count ≡ arity_of spec symbol
  pub long : count ≤ length work

-- FindsFor: the result of a search from rule `at` on, for the last references of a list
abbrev pub FindsFor : Store → Matcher → ℕ → List Term → List Term → Option ℕ → Type 0
FindsFor w m at work bind found = (y : Spec) (ss : List bank.Symbol) (below args : List Term)
    (k : ℕ) → AreLinked y w ss → IsMatcher y ss m → k < length (symbols y) → HeadAt m at k
    → work ≡ below ++ args → (at < length m.sides.items → count_at m at ≡ length args)
    → Finds y w m (name_of y (Symbol k)) at args bind found

-- FindsOn: the result of a search, and the list of references after it
abbrev pub FindsOn : Store → Matcher → ℕ → ℕ → List Term → List Term → Option Hit → Type 0
FindsOn w m first at old new (Some found) =
    StandAbove m.forest first (length old) new found.values
    × FindsFor w m at old (values_among m.forest first new found.values) (Some found.rule)
    × IsFoundBy m.forest found
FindsOn w m first at old new None = FindsFor w m at old [] None × (new ≡ old)

-- first_rule m k: the first rule of a symbol
abbrev pub first_rule : Matcher → ℕ → ℕ
first_rule m k = get_or m.heads.items k 0

-- LeavesOthers: the first `n` trees of a symbol find no rule for the last references of a list
abbrev pub LeavesOthers : Store → Matcher → ℕ → ℕ → ℕ → List Term → Type 0
LeavesOthers w m k count n work = NoneBefore w m.forest k 0 (drop (length work - count) work) n

-- Glances: the result of the fast path over all rules of a symbol, and the references after it
abbrev pub Glances : Store → Matcher → ℕ → ℕ → List Term → List Term → Glance → Type 0
Glances w m k count old new (Hits hit) =
    FindsOn w m (length old - count) (first_rule m k) old new (Some hit)
Glances w m k count old new (Left n) = LeavesOthers w m k count n old × (new ≡ old)

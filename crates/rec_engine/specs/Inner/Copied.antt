-- Terms of another store, and their copies on the value stack.
use Rattle.std.specs.Prelude.{ℕ, ◌≡◌, ◌⊎◌, not, List, [], ◌∷◌, ◌++◌, Some, IsSome, Contains, length}
use Rattle.std.specs.Prelude.{map, nat_eq}
use Rattle.indexmap.specs.IndexMap.{IndexMap, get}
use Rattle.rx_term.specs.Name.{plain_name}
use Rattle.rx_term.specs.Tree.{Tree, Trees, Appl, Items, none, to_list, count_of}
use Rattle.rx_term.specs.Parts.{parts}
use Rattle.rx_term.specs.Store.{Store, tree_at, signature_of}
use Rattle.rx_term.specs.Walks.{AllHeld, held_tree, held_trees}
use Rattle.rx_term.specs.declared.Term.{Term}
use Rattle.rx_term.specs.declared.Symbol.{Symbol}
use Rattle.rec_sorts.specs.Laws.{Every}
use Rattle.rec_sorts.specs.TermRules.{arguments}
use Rattle.rec_sorts.specs.Binding.{tree_of}
use Rattle.rec_sorts.specs.Evaluation.{term_of}
use Rattle.rec_engine.specs.Inner.Visits.{CanVisit, reference, visited}
use Rattle.rec_engine.specs.declared.terms.visits.Visit.{Visit}
use Rattle.rec_engine.specs.declared.terms.visits.Visit.TheVariants.{Enter, Leave}

-- copied t: the tree without annotations
abbrev pub copied : Tree → Tree
copied t = tree_of (term_of t)

-- HasSymbol w t: the tree is an application of a symbol of the store, whose name is quoted only if
-- it is not plain
pub record HasSymbol (w : Store) (t : Tree) : Type 0 where
  pub name : List ℕ
  pub args : Trees
  pub anns : Trees
  pub symbol : Symbol
  pub is : t ≡ Appl name (not (plain_name name)) args anns
  pub signed : signature_of w symbol
      ≡ Some (record { name = name; quoted = not (plain_name name); arity = count_of args })

-- IsAt work i r: the reference has the index i
pub record IsAt (work : List Term) (i : ℕ) (r : Term) : Type 0 where
  pub front : List Term
  pub back : List Term
  pub split : work ≡ front ++ r ∷ back
  pub place : i ≡ length front

-- AreCopies own w work copies: each term with an index has its copy there
abbrev pub AreCopies : {S : Type 0} → Store → Store → List Term → IndexMap ℕ ℕ S → Type 0
AreCopies own w work copies = (n i : ℕ) → get nat_eq copies n ≡ Some i
    → (r : Term) × (IsAt work i r
    × (tree_at w r ≡ Some (copied (held_tree own (reference n)))))

-- HasCopy own copies t: a reference of the tree has an index
abbrev pub HasCopy : {S : Type 0} → Store → IndexMap ℕ ℕ S → Tree → Type 0
HasCopy own copies t = (n : ℕ) × ((tree_at own (reference n) ≡ Some t)
    × IsSome (get nat_eq copies n))

-- PushesCopies w items old new: references of the copies of these trees were pushed
pub record PushesCopies (w : Store) (items : List Tree) (old new : List Term) : Type 0 where
  pub args : List Term
  pub pushed : new ≡ old ++ args
  pub held : AllHeld w args
  pub trees : held_trees w args ≡ map copied items

-- IsAhead own copies vs t: the tree has a copy, or is visited next
abbrev pub IsAhead : {S : Type 0} → Store → IndexMap ℕ ℕ S → List Visit → Tree → Type 0
IsAhead own copies vs t = HasCopy own copies t
    ⊎ ((v : Visit) × (Contains vs v × (tree_at own (visited v) ≡ Some t)))

-- Waits own copies vs: the arguments of each term that is left have copies, or are visited before
abbrev pub Waits : {S : Type 0} → Store → IndexMap ℕ ℕ S → List Visit → Type 0
Waits own copies [] = Unit {0}
Waits own copies (Enter t ∷ vs) = Waits own copies vs
Waits own copies (Leave t ∷ vs) = ((x : Tree)
    → Contains (to_list (arguments (held_tree own t))) x → IsAhead own copies vs x)
    × Waits own copies vs

-- ArePartsOf w work u: the terms on the value stack are parts of the tree
abbrev pub ArePartsOf : Store → List Term → Tree → Type 0
ArePartsOf w work u = (v : Tree) → Contains (held_trees w work) v → Contains (parts u) v

-- HasNilFirst w work: the empty list is at the bottom of the value stack
pub record HasNilFirst (w : Store) (work : List Term) : Type 0 where
  pub empty : Term
  pub values : List Term
  pub split : work ≡ empty ∷ values
  pub is : tree_at w empty ≡ Some (Items none none)

-- Copying own w t first work copies vs: between two visits of the walk over t: what was left has
-- copies, and all copies are parts of that of t; `first` is the store at the beginning
pub record Copying {S : Type 0} (own w : Store) (t : Term) (first : Store) (work : List Term)
    (copies : IndexMap ℕ ℕ S) (vs : List Visit) : Type 0 where
  pub can : Every (CanVisit (HasSymbol first) own) vs
  pub inside : Every (λ v. Contains (parts (copied (held_tree own t))) (copied (held_tree own
      (visited v)))) vs
  pub waits : Waits own copies vs
  pub ahead : IsAhead own copies vs (held_tree own t)
  pub entries : AreCopies own w work copies
  pub nil : HasNilFirst w work
  pub within : ArePartsOf w work (copied (held_tree own t))

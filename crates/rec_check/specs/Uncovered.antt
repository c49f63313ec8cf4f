-- Missing cases: calls of operators with constructor terms as arguments that no left-hand side
-- matches.
--     may_fill y name        a symbol of which ground terms are made
--     IsGround y sort t      a term of this sort whose symbols may fill
--     IsUncovered y d t      a call with such arguments that no left-hand side matches
use Rattle.std.specs.Prelude.{ℕ, ◌≡◌, ◌&&◌, ◌||◌, Bool, true, not, All, Contains, List, [], ◌∷◌}
use Rattle.std.specs.Prelude.{None, map}
use Rattle.rec_syntax.specs.Syntax.{Term, Terms, Apply, none, more, Declaration, Spec, arguments}
use Rattle.rec_syntax.specs.Syntax.{head}
use Rattle.rec_sorts.specs.Binding.{binds, tree_of}
use Rattle.rec_sorts.specs.Lookup.{mentions, names, symbols}
use Rattle.rec_sorts.specs.SpecRules.{all_terms, heads}

-- begins_rule y name: a left-hand side starts with this name
abbrev pub begins_rule : Spec → List ℕ → Bool
begins_rule y name = mentions (map (λ r. head r.left) y.rules) name

-- may_fill y name: a constructor, or an operator that occurs in a rule or an EVAL term; it has no
-- rules
abbrev pub may_fill : Spec → List ℕ → Bool
may_fill y name = not (begins_rule y name)
    && (mentions (names y.constructors) name || mentions (heads (all_terms y)) name)

-- sorts_due d: the declared sorts of an operator's arguments
abbrev pub sorts_due : Declaration → List (List ℕ)
sorts_due d = map (λ w. w.bytes) d.arguments

abbrev mutual
  -- IsGround y sort t: a well-sorted term of this sort, all of whose symbols may fill
  pub IsGround : Spec → List ℕ → Term → Type 0
  IsGround y sort (Apply w ts) = (d : Declaration) × Contains (symbols y) d
      × (w.bytes ≡ d.name.bytes) × (d.sort.bytes ≡ sort) × (may_fill y w.bytes ≡ true)
      × AreGround y (sorts_due d) ts

  -- AreGround y sorts ts: ground terms of these sorts
  pub AreGround : Spec → List (List ℕ) → Terms → Type 0
  AreGround y [] none = Unit {0}
  AreGround y (s ∷ ss) (more t ts) = IsGround y s t × AreGround y ss ts
  AreGround y _ _ = ⊥

-- IsUnmatched y t: no left-hand side matches the term, with any conditions
abbrev pub IsUnmatched : Spec → Term → Type 0
IsUnmatched y t = All (λ r. binds y r.left (tree_of t) ≡ None) y.rules

-- IsUncovered y d t: the operator has rules, the arguments are ground terms of its declared sorts,
-- and no left-hand side matches the call
pub record IsUncovered (y : Spec) (d : Declaration) (t : Term) : Type 0 where
  pub ruled : begins_rule y d.name.bytes ≡ true
  pub called : (head t).bytes ≡ d.name.bytes
  pub filled : AreGround y (sorts_due d) (arguments t)
  pub unmatched : IsUnmatched y t

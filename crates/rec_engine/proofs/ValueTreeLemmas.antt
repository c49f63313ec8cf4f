-- Values are built of applications: each name is quoted just where it must be, and nothing has annotations.
use Rattle.std.proofs.Common.{refl, subst}
use Rattle.std.specs.Prelude.{ℕ, ◌≡◌, Bool, true, false, not, List, [], ◌∷◌, ◌++◌, Option, Some, None, bytes_eq}
use Rattle.rx_term.specs.Tree.{Tree, Trees, Appl, Int, Items, Hole, none, more, tree_eq, annotations}
use Rattle.rx_term.specs.Name.{plain_name}
use Rattle.rec_syntax.specs.Syntax.{Term, Terms, Apply, Spec, Rule}
use Rattle.rec_sorts.specs.Lookup.{is_variable}
use Rattle.rec_sorts.specs.Binding.{Bound, Substitution, value_of, bind_first, parts_at_variables, parts_at_variables_all, instance, binds}
use Rattle.rec_sorts.specs.TermRules.{arguments}
use Rattle.rec_sorts.specs.Evaluation.{Outcome, Done, Over, Eval}
use Rattle.rec_sorts.proofs.DerivationLemmas.{Evals, variable, applied, arguments_over, EvalsAll, no_more, one_more, first_over}
use Rattle.rec_sorts.proofs.DerivationLemmas.{later_over, Tries, no_rule, no_match, nothing_left, fires, fails, conditions_over, derived}

-- a tree is built of applications of names that are quoted just where they must be, without annotations
abbrev mutual
  pub IsApplied : Tree → Type 0
  IsApplied (Appl name quoted args anns) = (quoted ≡ not (plain_name name)) × (anns ≡ none) × AreApplied args
  IsApplied t = ⊥

  pub AreApplied : Trees → Type 0
  AreApplied none = Unit {0}
  AreApplied (more t ts) = IsApplied t × AreApplied ts

-- so are the values of a substitution
abbrev ValuesApplied : Substitution → Type 0
ValuesApplied [] = Unit {0}
ValuesApplied (b ∷ bs) = IsApplied b.value × ValuesApplied bs

-- an outcome's value is so built
abbrev OutcomeApplied : Outcome Tree → Type 0
OutcomeApplied (Done v left) = IsApplied v
OutcomeApplied Over = Unit {0}

abbrev OutcomesApplied : Outcome Trees → Type 0
OutcomesApplied (Done vs left) = AreApplied vs
OutcomesApplied Over = Unit {0}

value_applied : (s : Substitution) (name : List ℕ) (v : Tree) → ValuesApplied s → value_of s name ≡ Some v → IsApplied v
value_applied [] name v h e = absurd (cc e)
value_applied (b ∷ bs) name v h e = by_test (bytes_eq b.name name) e (λ k. value_applied bs name v h.1 k)
  where
    by_test : (c : Bool) → ◌≡◌ {A = Option Tree} (elim c [ true ↦ Some b.value | false ↦ value_of bs name ]) (Some v)
        → (value_of bs name ≡ Some v → IsApplied v) → IsApplied v
    by_test true k later = let same : b.value ≡ v = cc in subst IsApplied same h.0
    by_test false k later = later k

joined_applied : (s : Substitution) (b : Bound) → ValuesApplied s → IsApplied b.value → ValuesApplied (s ++ b ∷ [])
joined_applied [] b h k = (k, tt)
joined_applied (a ∷ s) b h k = (h.0, joined_applied s b h.1 k)

bound_applied : (s : Substitution) (name : List ℕ) (v : Tree) → ValuesApplied s → IsApplied v → ValuesApplied (bind_first s name v)
bound_applied s name v h k =
    elim (value_of s name) as (λ o. ValuesApplied (elim o [ Some u ↦ s | None ↦ s ++ (record { name = name; value = v } ∷ []) ])) [
      | Some u ↦ h
      | None ↦ joined_applied s (record { name = name; value = v }) h k
    ]

arguments_applied : (u : Tree) → IsApplied u → AreApplied (arguments u)
arguments_applied (Appl name quoted args anns) h = h.2
arguments_applied (Int z anns) h = absurd h
arguments_applied (Items ts anns) h = absurd h
arguments_applied (Hole t anns) h = absurd h

mutual
  parts_applied : (y : Spec) (s : Substitution) (l : Term) (u : Tree) → ValuesApplied s → IsApplied u → ValuesApplied (parts_at_variables y s l u)
  parts_applied y s (Apply w ts) u h k =
      elim (is_variable y w.bytes) as (λ b. ValuesApplied (elim b [ true ↦ bind_first s w.bytes u | false ↦ parts_at_variables_all y s ts (arguments u) ])) [
        | true ↦ bound_applied s w.bytes u h k
        | false ↦ all_parts_applied y s ts (arguments u) h (arguments_applied u k)
      ]

  all_parts_applied : (y : Spec) (s : Substitution) (ls : Terms) (us : Trees) → ValuesApplied s → AreApplied us
      → ValuesApplied (parts_at_variables_all y s ls us)
  all_parts_applied y s Terms.none us h k = h
  all_parts_applied y s (Terms.more l ls) none h k = h
  all_parts_applied y s (Terms.more l ls) (more u us) h k = all_parts_applied y (parts_at_variables y s l u) ls us (parts_applied y s l u h k.0) k.1

binds_applied : (y : Spec) (l : Term) (u : Tree) (s : Substitution) → IsApplied u → binds y l u ≡ Some s → ValuesApplied s
binds_applied y l u s h e = by_test (tree_eq (instance (parts_at_variables y [] l u) l) u) e
  where
    by_test : (c : Bool) → ◌≡◌ {A = Option Substitution} (elim c [ true ↦ Some (parts_at_variables y [] l u) | false ↦ None ]) (Some s) → ValuesApplied s
    by_test true k = let same : parts_at_variables y [] l u ≡ s = cc in subst ValuesApplied same (parts_applied y [] l u tt h)
    by_test false k = absurd (cc k)

mutual
  evals_applied : {y : Spec} {n : ℕ} {s : Substitution} {t : Term} {o : Outcome Tree} → Evals y n s t o → ValuesApplied s → OutcomeApplied o
  evals_applied (variable n s w ts v e) h = value_applied s w.bytes v h e
  evals_applied (applied n s w ts vs left o e d tr) h = tries_applied tr (refl, refl, evals_all_applied d h)
  evals_applied (arguments_over n s w ts e d) h = tt

  evals_all_applied : {y : Spec} {n : ℕ} {s : Substitution} {ts : Terms} {o : Outcome Trees} → EvalsAll y n s ts o → ValuesApplied s → OutcomesApplied o
  evals_all_applied (no_more n s) h = tt
  evals_all_applied (one_more n s t ts v left vs rest d ds) h = (evals_applied d h, evals_all_applied ds h)
  evals_all_applied (first_over n s t ts d) h = tt
  evals_all_applied (later_over n s t ts v left d ds) h = tt

  tries_applied : {y : Spec} {rs : List Rule} {n : ℕ} {u : Tree} {o : Outcome Tree} → Tries y rs n u o → IsApplied u → OutcomeApplied o
  tries_applied (no_rule n u) h = h
  tries_applied {y} (no_match r rs n u o e tr) h = tries_applied tr h
  tries_applied (nothing_left r rs u s e) h = tt
  tries_applied {y} (fires r rs n u s left o e hs d) h = evals_applied d (binds_applied y r.left u s h e)
  tries_applied (fails r rs n u s left o e hs tr) h = tries_applied tr h
  tries_applied (conditions_over r rs n u s e hs) h = tt

-- the value of a term without variables
pub value_is_applied : (y : Spec) (n : ℕ) (t : Term) (v : Tree) (left : ℕ) → Eval y n [] t ≡ Done v left → IsApplied v
value_is_applied y n t v left e = evals_applied (derived y n [] t (Done v left) e) tt

-- such a tree has no annotations
pub applied_unannotated : (t : Tree) → IsApplied t → annotations t ≡ none
applied_unannotated (Appl name quoted args anns) h = h.1
applied_unannotated (Int z anns) h = absurd h
applied_unannotated (Items ts anns) h = absurd h
applied_unannotated (Hole t anns) h = absurd h

-- One step of a walk over a left-hand side, in whatever order the arguments come after it.
use Rattle.std.proofs.Common.{refl, sym, ap, subst, ◌∙◌}
use Rattle.std.specs.Prelude.{◌≡◌, Bool, true, false, Option, Some, None}
use Rattle.rx_term.specs.Tree.{Tree, Trees}
use Rattle.rec_syntax.specs.Tokens.{Word}
use Rattle.rec_syntax.specs.Syntax.{Terms, Apply, Spec}
use Rattle.rec_sorts.specs.Lookup.{is_variable, count}
use Rattle.rec_sorts.specs.Binding.{Substitution, value_of, application, instance, instances}
use Rattle.rec_sorts.specs.Laws.{BindsVariables, BindsVariablesAll, IsPartOf}
use Rattle.rec_match.specs.Bound.{opened, bound, goes_on}
use Rattle.rec_match.proofs.BoundLemmas.{BindsOnly, Comes, Walked, WalkedAll, binding_at, bound_comes, counted}
use Rattle.rec_match.proofs.BoundLemmas.{instance_by, opened_is, opened_same, unbound, walked_bound}

-- a name that meets a tree, and what comes of its arguments
module _ (y : Spec) (w : Word) (ts : Terms) (s : Substitution) (all : Trees → Option Substitution) where
  abbrev pub step_at : Tree → Bool → Option Substitution
  step_at u b = elim b [ true ↦ bound s w.bytes u | false ↦ goes_on (opened w.bytes (count ts) u) all ]

  -- where the step comes to a substitution, this makes the term the tree
  pub stepped : (u : Tree) (s' : Substitution) → BindsOnly y s → step_at u (is_variable y w.bytes) ≡ Some s'
      → ((us : Trees) → all us ≡ Some s' → WalkedAll y ts us s s') → Walked y (Apply w ts) u s s'
  stepped u s' only e later =
      let k = by (is_variable y w.bytes) refl e in
      record { part = k.0; only = k.1; binding = k.2; is = k.3 }
    where
      by_opened : is_variable y w.bytes ≡ false → (o : Option Trees) → opened w.bytes (count ts) u ≡ o → goes_on o all ≡ Some s'
          → IsPartOf s s' × BindsOnly y s' × ((value_of s' w.bytes ≡ None) × BindsVariablesAll y s' ts) × (instance s' (Apply w ts) ≡ u)
      by_opened symbol None h e = absurd (cc e)
      by_opened symbol (Some us) h e =
          let k : WalkedAll y ts us s s' = later us e in
          let no : value_of s' w.bytes ≡ None = unbound y s' k.only w.bytes symbol in
          (k.part, k.only, (no, k.binding), ap (instance_by s' w ts) no ∙ ap (application w.bytes) k.is ∙ (opened_is w.bytes (count ts) u us h).0)

      by : (b : Bool) → is_variable y w.bytes ≡ b → step_at u b ≡ Some s'
          → IsPartOf s s' × BindsOnly y s' × binding_at y s' w ts b × (instance s' (Apply w ts) ≡ u)
      by true variable e =
          let k = walked_bound y w ts u s s' variable only e in
          (k.0, k.1, (u, k.2), ap (instance_by s' w ts) k.2)
      by false symbol e = by_opened symbol (opened w.bytes (count ts) u) refl e

  -- where a substitution makes the term a tree, the step over the tree comes to a part of it
  pub step_comes : (g : Substitution) → BindsVariables y g (Apply w ts) → IsPartOf s g → (BindsVariablesAll y g ts → Comes (all (instances g ts)) g)
      → Comes (step_at (instance g (Apply w ts)) (is_variable y w.bytes)) g
  step_comes g h part later = by (is_variable y w.bytes) h
    where
      by : (b : Bool) → binding_at y g w ts b → Comes (step_at (instance g (Apply w ts)) b) g
      by true h = subst (λ u. Comes (bound s w.bytes u) g) (sym (ap (instance_by g w ts) h.1)) (bound_comes s g w.bytes h.0 part h.1)
      by false h =
          let is : instance g (Apply w ts) ≡ application w.bytes (instances g ts) = ap (instance_by g w ts) h.0 in
          let open_it : opened w.bytes (count ts) (instance g (Apply w ts)) ≡ Some (instances g ts) =
          ap (opened w.bytes (count ts)) is ∙ opened_same w.bytes (count ts) (instances g ts) (counted g ts) in
          subst (λ o. Comes (goes_on o all) g) (sym open_it) (later h.1)

-- The substitution that is found is the one under which the left-hand side is the tree.
use Rattle.std.proofs.Common.{refl, sym, ap, subst, ◌∙◌}
use Rattle.std.specs.Prelude.{ℕ, ◌≡◌, Bool, true, false, List, [], ◌∷◌, ◌++◌, Option, Some, None, MatchBool, bytes_eq}
use Rattle.rx_term.specs.Tree.{Tree, more, tree_eq}
use Rattle.rec_syntax.specs.Tokens.{Word}
use Rattle.rec_syntax.specs.Syntax.{Term, Terms, Apply, Spec}
use Rattle.rec_sorts.specs.Lookup.{is_variable}
use Rattle.rec_sorts.specs.TermRules.{arguments}
use Rattle.rec_sorts.specs.Binding.{Substitution, Bound, value_of, application, instance, instances}
use Rattle.rec_sorts.specs.Binding.{binds, bind_first, parts_at_variables, parts_at_variables_all}
use Rattle.rec_sorts.specs.Laws.{BindsVariables, BindsVariablesAll, IsPartOf, BindingLaw}
use Rattle.std.proofs.lemmas.Slice.Eq.{bytes_eq-Decides}
use Rattle.rx_term.proofs.TreeLemmas.{same_tree, tree_eq_same}
use Rattle.rec_sorts.proofs.KeptLemmas.{bytes_eq-eq}

-- a list of bytes is the same as itself
pub bytes_eq-refl : (bs : List ℕ) → bytes_eq bs bs ≡ true
bytes_eq-refl bs = (bytes_eq-Decides bs bs).1 refl

-- whatever a name gives before, it gives with one binding more at the end
pub append_keeps : (s : Substitution) (b : Bound) (name : List ℕ) (v : Tree) → value_of s name ≡ Some v → value_of (s ++ (b ∷ [])) name ≡ Some v
append_keeps [] b name v e = absurd (cc e)
append_keeps (a ∷ s) b name v e = by_name (bytes_eq a.name name) (append_keeps s b name v) e
  where
    by_name : (found : Bool) → (value_of s name ≡ Some v → value_of (s ++ (b ∷ [])) name ≡ Some v)
        → ◌≡◌ {A = Option Tree} (elim found [ true ↦ Some a.value | false ↦ value_of s name ]) (Some v)
        → ◌≡◌ {A = Option Tree} (elim found [ true ↦ Some a.value | false ↦ value_of (s ++ (b ∷ [])) name ]) (Some v)
    by_name true later e = e
    by_name false later e = later e

-- what a name gives with one binding more, it gave before, or it is that binding's
pub append_is : (s : Substitution) (b : Bound) (name : List ℕ) (v : Tree) → value_of (s ++ (b ∷ [])) name ≡ Some v → (P : Type 0)
    → (value_of s name ≡ Some v → P) → (b.name ≡ name → b.value ≡ v → P) → P
append_is [] b name v e P old new = by_name (bytes_eq b.name name) refl e
  where
    by_name : (found : Bool) → bytes_eq b.name name ≡ found → ◌≡◌ {A = Option Tree} (elim found [ true ↦ Some b.value | false ↦ None ]) (Some v) → P
    by_name true h e = new (bytes_eq-eq b.name name h) (cc e)
    by_name false h e = absurd (cc e)
append_is (a ∷ s) b name v e P old new = by_name (bytes_eq a.name name) (λ f. append_is s b name v f P) e old
  where
    by_name : (found : Bool) → (value_of (s ++ (b ∷ [])) name ≡ Some v → (value_of s name ≡ Some v → P) → (b.name ≡ name → b.value ≡ v → P) → P)
        → ◌≡◌ {A = Option Tree} (elim found [ true ↦ Some a.value | false ↦ value_of (s ++ (b ∷ [])) name ]) (Some v)
        → (◌≡◌ {A = Option Tree} (elim found [ true ↦ Some a.value | false ↦ value_of s name ]) (Some v) → P) → P
    by_name true later e old = old e
    by_name false later e old = later e old new

-- the last binding counts where the name is not bound before
pub append_finds : (s : Substitution) (b : Bound) → value_of s b.name ≡ None → value_of (s ++ (b ∷ [])) b.name ≡ Some b.value
append_finds [] b e = ap (λ found. by found) (bytes_eq-refl b.name)
  where
    by : Bool → Option Tree
    by found = elim found [ true ↦ Some b.value | false ↦ None ]
append_finds (a ∷ s) b e = by_name (bytes_eq a.name b.name) (append_finds s b) e
  where
    by_name : (found : Bool) → (value_of s b.name ≡ None → value_of (s ++ (b ∷ [])) b.name ≡ Some b.value)
        → ◌≡◌ {A = Option Tree} (elim found [ true ↦ Some a.value | false ↦ value_of s b.name ]) None
        → ◌≡◌ {A = Option Tree} (elim found [ true ↦ Some a.value | false ↦ value_of (s ++ (b ∷ [])) b.name ]) (Some b.value)
    by_name true later e = absurd (cc e)
    by_name false later e = later e

abbrev bound_or : Substitution → List ℕ → Tree → Option Tree → Substitution
bound_or s name v o = elim o [ Some u ↦ s | None ↦ s ++ (record { name = name; value = v } ∷ []) ]

-- a substitution grows inside another one, keeps what it has, and binds the name
record Grows (s s1 s' : Substitution) : Type 0 where
  part : IsPartOf s1 s'
  keeps : IsPartOf s s1

bind_first_grows : (s s' : Substitution) (name : List ℕ) (v : Tree) → IsPartOf s s' → value_of s' name ≡ Some v → Grows s (bind_first s name v) s'
bind_first_grows s s' name v h e = by_value (value_of s name)
  where
    by_value : (o : Option Tree) → Grows s (bound_or s name v o) s'
    by_value (Some u) = record { part = h; keeps = λ x w f. f }
    by_value None = record {
      part = λ x w f. append_is s (record { name = name; value = v }) x w f (value_of s' x ≡ Some w) (λ g. h x w g) (λ is_x is_w.
          subst (λ n. value_of s' n ≡ Some w) is_x (e ∙ ap Some is_w));
      keeps = λ x w f. append_keeps s (record { name = name; value = v }) x w f;
    }

pub bind_first_binds : (s : Substitution) (name : List ℕ) (v : Tree) → (w : Tree) × (value_of (bind_first s name v) name ≡ Some w)
bind_first_binds s name v = by_value (value_of s name) refl
  where
    by_value : (o : Option Tree) → value_of s name ≡ o → (w : Tree) × (value_of (bound_or s name v o) name ≡ Some w)
    by_value (Some u) e = (u, e)
    by_value None e = (v, append_finds s (record { name = name; value = v }) e)

-- each variable of a term is bound
abbrev mutual
  Bound_in : Spec → Substitution → Term → Type 0
  Bound_in y s (Apply w ts) = MatchBool (is_variable y w.bytes) ((v : Tree) × (value_of s w.bytes ≡ Some v)) (Bound_in_all y s ts)

  Bound_in_all : Spec → Substitution → Terms → Type 0
  Bound_in_all y s Terms.none = Unit {0}
  Bound_in_all y s (Terms.more t ts) = Bound_in y s t × Bound_in_all y s ts

still_bound_at : (y : Spec) (s s1 : Substitution) → IsPartOf s s1 → (w : Word) (ts : Terms) (b : Bool) → (Bound_in_all y s ts → Bound_in_all y s1 ts)
    → MatchBool b ((v : Tree) × (value_of s w.bytes ≡ Some v)) (Bound_in_all y s ts)
    → MatchBool b ((v : Tree) × (value_of s1 w.bytes ≡ Some v)) (Bound_in_all y s1 ts)
still_bound_at y s s1 keeps w ts true later h = (h.0, keeps w.bytes h.0 h.1)
still_bound_at y s s1 keeps w ts false later h = later h

mutual
  still_bound : (y : Spec) (s s1 : Substitution) → IsPartOf s s1 → (l : Term) → Bound_in y s l → Bound_in y s1 l
  still_bound y s s1 keeps (Apply w ts) h = still_bound_at y s s1 keeps w ts (is_variable y w.bytes) (still_bound_all y s s1 keeps ts) h

  still_bound_all : (y : Spec) (s s1 : Substitution) → IsPartOf s s1 → (ts : Terms) → Bound_in_all y s ts → Bound_in_all y s1 ts
  still_bound_all y s s1 keeps Terms.none h = tt
  still_bound_all y s s1 keeps (Terms.more t ts) h = (still_bound y s s1 keeps t h.0, still_bound_all y s s1 keeps ts h.1)

record Gathered (y : Spec) (s s1 s' : Substitution) (l : Term) : Type 0 where
  grows : Grows s s1 s'
  bound : Bound_in y s1 l

record GatheredAll (y : Spec) (s s1 s' : Substitution) (ts : Terms) : Type 0 where
  grows : Grows s s1 s'
  bound : Bound_in_all y s1 ts

abbrev instance_by : Substitution → Word → Terms → Option Tree → Tree
instance_by s w ts o = elim o [ Some v ↦ v | None ↦ application w.bytes (instances s ts) ]

abbrev parts_by : Spec → Substitution → Word → Terms → Tree → Bool → Substitution
parts_by y s w ts u b = elim b [ true ↦ bind_first s w.bytes u | false ↦ parts_at_variables_all y s ts (arguments u) ]

gather_at : (y : Spec) (s s' : Substitution) (w : Word) (ts : Terms) (b : Bool) → IsPartOf s s'
    → MatchBool b ((v : Tree) × (value_of s' w.bytes ≡ Some v)) ((value_of s' w.bytes ≡ None) × BindsVariablesAll y s' ts)
    → (BindsVariablesAll y s' ts → GatheredAll y s (parts_at_variables_all y s ts (instances s' ts)) s' ts)
    → Grows s (parts_by y s w ts (instance s' (Apply w ts)) b) s'
    × MatchBool b ((v : Tree) × (value_of (parts_by y s w ts (instance s' (Apply w ts)) b) w.bytes ≡ Some v))
    (Bound_in_all y (parts_by y s w ts (instance s' (Apply w ts)) b) ts)
gather_at y s s' w ts true h binding later =
    let value_is : instance s' (Apply w ts) ≡ binding.0 = ap (instance_by s' w ts) binding.1 in
    (bind_first_grows s s' w.bytes (instance s' (Apply w ts)) h (binding.1 ∙ ap Some (sym value_is)), bind_first_binds s w.bytes (instance s' (Apply w ts)))
gather_at y s s' w ts false h binding later =
    let g : GatheredAll y s (parts_at_variables_all y s ts (instances s' ts)) s' ts = later binding.1 in
    let value_is : application w.bytes (instances s' ts) ≡ instance s' (Apply w ts) = sym (ap (instance_by s' w ts) binding.0) in (
      subst (λ u. Grows s (parts_at_variables_all y s ts (arguments u)) s') value_is g.grows,
      subst (λ u. Bound_in_all y (parts_at_variables_all y s ts (arguments u)) ts) value_is g.bound,
    )

gather_more : (y : Spec) (s s' : Substitution) (t : Term) (ts : Terms) → Gathered y s (parts_at_variables y s t (instance s' t)) s' t
    → ((s1 : Substitution) → IsPartOf s1 s' → GatheredAll y s1 (parts_at_variables_all y s1 ts (instances s' ts)) s' ts)
    → GatheredAll y s (parts_at_variables_all y (parts_at_variables y s t (instance s' t)) ts (instances s' ts)) s' (Terms.more t ts)
gather_more y s s' t ts g later =
    let s1 : Substitution = parts_at_variables y s t (instance s' t) in
    let l : GatheredAll y s1 (parts_at_variables_all y s1 ts (instances s' ts)) s' ts = later s1 g.grows.part in
    record {
      grows = record { part = l.grows.part; keeps = λ x w f. l.grows.keeps x w (g.grows.keeps x w f) };
      bound = (still_bound y s1 (parts_at_variables_all y s1 ts (instances s' ts)) l.grows.keeps t g.bound, l.bound);
    }

mutual
  gather : (y : Spec) (s s' : Substitution) → IsPartOf s s' → (l : Term) → BindsVariables y s' l → Gathered y s (parts_at_variables y s l (instance s' l)) s' l
  gather y s s' h (Apply w ts) binding =
      let g = gather_at y s s' w ts (is_variable y w.bytes) h binding (λ k. gather_all y s s' h ts k) in
      record { grows = g.0; bound = g.1 }

  gather_all : (y : Spec) (s s' : Substitution) → IsPartOf s s' → (ts : Terms) → BindsVariablesAll y s' ts
      → GatheredAll y s (parts_at_variables_all y s ts (instances s' ts)) s' ts
  gather_all y s s' h Terms.none binding = record { grows = record { part = h; keeps = λ x w f. f }; bound = tt }
  gather_all y s s' h (Terms.more t ts) binding = gather_more y s s' t ts (gather y s s' h t binding.0) (λ s1 k. gather_all y s1 s' k ts binding.1)

-- a part that binds all variables gives the same instance
same_at : (y : Spec) (s s' : Substitution) → IsPartOf s s' → (w : Word) (ts : Terms) (b : Bool)
    → MatchBool b ((v : Tree) × (value_of s w.bytes ≡ Some v)) (Bound_in_all y s ts)
    → MatchBool b ((v : Tree) × (value_of s' w.bytes ≡ Some v)) ((value_of s' w.bytes ≡ None) × BindsVariablesAll y s' ts)
    → (Bound_in_all y s ts → BindsVariablesAll y s' ts → instances s ts ≡ instances s' ts) → instance s (Apply w ts) ≡ instance s' (Apply w ts)
same_at y s s' part w ts true bound binding later = ap (instance_by s w ts) bound.1 ∙ sym (ap (instance_by s' w ts) (part w.bytes bound.0 bound.1))
same_at y s s' part w ts false bound binding later = ap (instance_by s w ts) (unbound (value_of s w.bytes) refl)
    ∙ ap (application w.bytes) (later bound binding.1) ∙ sym (ap (instance_by s' w ts) binding.0)
  where
    unbound : (o : Option Tree) → value_of s w.bytes ≡ o → value_of s w.bytes ≡ None
    unbound None e = e
    unbound (Some v) e = absurd (cc (sym binding.0 ∙ part w.bytes v e))

mutual
  same_instance : (y : Spec) (s s' : Substitution) → IsPartOf s s' → (l : Term) → Bound_in y s l → BindsVariables y s' l → instance s l ≡ instance s' l
  same_instance y s s' part (Apply w ts) bound binding = same_at y s s' part w ts (is_variable y w.bytes) bound binding (same_instances y s s' part ts)

  same_instances : (y : Spec) (s s' : Substitution) → IsPartOf s s' → (ts : Terms) → Bound_in_all y s ts → BindsVariablesAll y s' ts
      → instances s ts ≡ instances s' ts
  same_instances y s s' part Terms.none bound binding = refl
  same_instances y s s' part (Terms.more t ts) bound binding =
      ap (λ x. more x (instances s ts)) (same_instance y s s' part t bound.0 binding.0)
      ∙ ap (more (instance s' t)) (same_instances y s s' part ts bound.1 binding.1)

abbrev bound_if : Substitution → Bool → Option Substitution
bound_if s b = elim b [ true ↦ Some s | false ↦ None ]

pub is_bound : (s s' : Substitution) (b : Bool) → bound_if s b ≡ Some s' → (s ≡ s') × (b ≡ true)
is_bound s s' true e = let is : s ≡ s' = cc e in (is, refl)
is_bound s s' false e = absurd (cc e)

pub finds : (y : Spec) (l : Term) (s' : Substitution) → BindsVariables y s' l → (s : Substitution) × (binds y l (instance s' l) ≡ Some s) × IsPartOf s s'
finds y l s' binding =
    let s : Substitution = parts_at_variables y [] l (instance s' l) in
    let g : Gathered y [] s s' l = gather y [] s' (λ x v e. absurd (cc e)) l binding in
    let is : instance s l ≡ instance s' l = same_instance y s s' g.grows.part l g.bound binding in
    (s, ap (bound_if s) (subst (λ x. tree_eq x (instance s' l) ≡ true) (sym is) (tree_eq_same (instance s' l))), g.grows.part)

pub binding_law : BindingLaw
binding_law y l u = (sound, λ s' binding e. subst (λ u. (s : Substitution) × (binds y l u ≡ Some s) × IsPartOf s s') e (finds y l s' binding))
  where
    sound : (s : Substitution) → binds y l u ≡ Some s → instance s l ≡ u
    sound s e =
        let parts : Substitution = parts_at_variables y [] l u in
        let known : (parts ≡ s) × (tree_eq (instance parts l) u ≡ true) = is_bound parts s (tree_eq (instance parts l) u) e in
        ap (λ x. instance x l) (sym known.0) ∙ same_tree (instance parts l) u known.1

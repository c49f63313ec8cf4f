-- The values that `binds` finds are in the order in which the variables first occur.
use Rattle.std.proofs.Common.{refl, sym, ap, subst, ◌∙◌}
use Rattle.std.specs.Prelude.{ℕ, ◌≡◌, ◌<◌, ◌||◌, Bool, true, false, List, [], ◌∷◌, ◌++◌, Option, Some, None, All, map, is_some, length, nat_eq, bytes_eq}
use Rattle.std.proofs.lemmas.Bool.{eqb-true, eq-eqb}
use Rattle.std.proofs.lemmas.List.{map-append}
use Rattle.std.proofs.lemmas.List.Elements.{All-head, All-tail}
use Rattle.rx_term.specs.Tree.{Tree, Trees, none, more, tree_eq}
use Rattle.rec_syntax.specs.Syntax.{Term, Terms, Apply, Spec}
use Rattle.rec_sorts.specs.Lookup.{is_variable, count, variable_words}
use Rattle.rec_sorts.specs.SpecRules.{fault}
use Rattle.rec_sorts.specs.Binding.{Substitution, Bound, value_of, binds}
use Rattle.rec_sorts.specs.Laws.{Every}
use Rattle.rec_sorts.specs.Numbering.{Named, named, named_all, named_by, name_of, IsMeaning}
use Rattle.rec_sorts.specs.declared.letters.Letter.{Letter}
use Rattle.rec_sorts.specs.declared.letters.Meaning.{Meaning}
use Rattle.rec_sorts.specs.declared.letters.Meaning.TheVariants.{Symbol, Variable}
use Rattle.rec_sorts.proofs.BindingLemmas.{append_keeps, append_finds, bytes_eq-refl}
use Rattle.rec_sorts.proofs.KeptLemmas.{bytes_eq-eq}
use Rattle.rec_match.specs.Ordered.{keys, has, with_name, names_in, among, with_number, with_letter, numbers_in}
use Rattle.rec_match.specs.Inner.Walking.{walk, walk_all}
use Rattle.rec_match.specs.Bound.{with_one, opened, bound, goes_on}
use Rattle.rec_match.proofs.FactLemmas.{AreBare, facts, every_append, every_joined, every_map, variable_is_one}
use Rattle.rec_match.proofs.PairedLemmas.{AreVariables, every-snoc}
use Rattle.rec_match.proofs.WalkLemmas.{walk_binds}

-- each name has its own value
abbrev pub IsKeyed : Substitution → Type 0
IsKeyed s = Every (λ (b : Bound). value_of s b.name ≡ Some b.value) s

has-keys : (s : Substitution) (name : List ℕ) → has (keys s) name ≡ is_some (value_of s name)
has-keys [] name = refl
has-keys (b ∷ s) name = by (bytes_eq b.name name) (has-keys s name)
  where
    by : (t : Bool) → has (keys s) name ≡ is_some (value_of s name)
        → t || has (keys s) name ≡ is_some (elim t as (λ _. Option Tree) [ true ↦ Some b.value | false ↦ value_of s name ])
    by true e = refl
    by false e = e

keyed-one : (s : Substitution) (name : List ℕ) (u : Tree) → value_of s name ≡ None → IsKeyed s → IsKeyed (with_one s name u)
keyed-one s name u fresh keyed =
    let b : Bound = record { name = name; value = u } in
    every_joined (λ (x : Bound). value_of (with_one s name u) x.name ≡ Some x.value) s (b ∷ [])
    (every_map (λ (x : Bound). value_of s x.name ≡ Some x.value) (λ (x : Bound). value_of (with_one s name u) x.name ≡ Some x.value) (λ x e.
    append_keeps s b x.name x.value e) s keyed)
    (append_finds s b fresh, tt)

with-name-at : (s : Substitution) (name : List ℕ) (o : Option Tree) → value_of s name ≡ o
    → with_name (keys s) name ≡ elim (is_some o) [ true ↦ keys s | false ↦ keys s ++ name ∷ [] ]
with-name-at s name o e = ap at (has-keys s name ∙ ap is_some e)
  where
    at : Bool → List (List ℕ)
    at b = elim b [ true ↦ keys s | false ↦ keys s ++ name ∷ [] ]

bound-keys : (s s' : Substitution) (name : List ℕ) (u : Tree) → IsKeyed s → bound s name u ≡ Some s' → IsKeyed s' × (keys s' ≡ with_name (keys s) name)
bound-keys s s' name u keyed e = by (value_of s name) refl e
  where
    by_test : (v : Tree) (b : Bool) → value_of s name ≡ Some v → ◌≡◌ {A = Option Substitution} (elim b [ true ↦ Some s | false ↦ None ]) (Some s')
        → IsKeyed s' × (keys s' ≡ with_name (keys s) name)
    by_test v true h e =
        let same : s ≡ s' = cc e in
        subst (λ r. IsKeyed r × (keys r ≡ with_name (keys s) name)) same (keyed, sym (with-name-at s name (Some v) h))
    by_test v false h e = absurd (cc e)

    by : (o : Option Tree) → value_of s name ≡ o → ◌≡◌ {A = Option Substitution}
        (elim o [ None ↦ Some (with_one s name u) | Some v ↦ elim (tree_eq v u) [ true ↦ Some s | false ↦ None ] ]) (Some s')
        → IsKeyed s' × (keys s' ≡ with_name (keys s) name)
    by None h e =
        let same : with_one s name u ≡ s' = cc e in
        subst (λ r. IsKeyed r × (keys r ≡ with_name (keys s) name)) same
        (keyed-one s name u h keyed, map-append (λ (b : Bound). b.name) s (record { name = name; value = u } ∷ []) ∙ sym (with-name-at s name None h))
    by (Some v) h e = by_test v (tree_eq v u) h e

pub names_in-append : (y : Spec) (ns : List (List ℕ)) (ms ks : List Named) → names_in y ns (ms ++ ks) ≡ names_in y (names_in y ns ms) ks
names_in-append y ns [] ks = refl
names_in-append y ns (m ∷ ms) ks = names_in-append y (elim (is_variable y m.name) [ true ↦ with_name ns m.name | false ↦ ns ]) ms ks

no-terms : (ts : Terms) → count ts ≡ 0 → ts ≡ Terms.none
no-terms Terms.none e = refl
no-terms (Terms.more t ts) e = absurd (cc e)

pub last-name : (y : Spec) (ns : List (List ℕ)) (m : Named) (b : Bool) → is_variable y m.name ≡ b
    → names_in y ns (m ∷ []) ≡ elim b [ true ↦ with_name ns m.name | false ↦ ns ]
last-name y ns m b e = ap at e
  where
    at : Bool → List (List ℕ)
    at t = elim t [ true ↦ with_name ns m.name | false ↦ ns ]

mutual
  -- a walk gives values to the variables in the order in which they first occur
  walk-keys : (y : Spec) (t : Term) (u : Tree) (s s' : Substitution) → AreBare y (named t) → IsKeyed s → walk y t u s ≡ Some s'
      → IsKeyed s' × (keys s' ≡ names_in y (keys s) (named t))
  walk-keys y (Apply w ts) u s s' bare keyed e =
      let split = every_append (λ (m : Named). is_variable y m.name ≡ true → m.arguments ≡ 0) (named_all ts) (own ∷ []) bare in
      by (is_variable y w.bytes) refl e split.1.0 (λ us g. walk-keys-all y ts us s s' split.0 keyed g)
    where
      own : Named
      own = record { name = w.bytes; arguments = count ts }

      Ends : Type 0
      Ends = IsKeyed s' × (keys s' ≡ names_in y (keys s) (named_all ts ++ own ∷ []))

      by_opened : is_variable y w.bytes ≡ false → (o : Option Trees) → goes_on o (λ us. walk_all y ts us s) ≡ Some s'
          → ((us : Trees) → walk_all y ts us s ≡ Some s' → IsKeyed s' × (keys s' ≡ names_in y (keys s) (named_all ts))) → Ends
      by_opened symbol None e later = absurd (cc e)
      by_opened symbol (Some us) e later =
          let k = later us e in
          (k.0, k.1 ∙ sym (names_in-append y (keys s) (named_all ts) (own ∷ []) ∙ last-name y (names_in y (keys s) (named_all ts)) own false symbol))

      by : (b : Bool) → is_variable y w.bytes ≡ b → ◌≡◌ {A = Option Substitution}
          (elim b [ true ↦ bound s w.bytes u | false ↦ goes_on (opened w.bytes (count ts) u) (λ us. walk_all y ts us s) ]) (Some s')
          → (is_variable y w.bytes ≡ true → count ts ≡ 0) → ((us : Trees) → walk_all y ts us s ≡ Some s'
          → IsKeyed s' × (keys s' ≡ names_in y (keys s) (named_all ts))) → Ends
      by true variable e none_of later =
          let k = bound-keys s s' w.bytes u keyed e in (
            k.0,
            k.1 ∙ sym (names_in-append y (keys s) (named_all ts) (own ∷ [])
                ∙ ap (λ zs. names_in y (names_in y (keys s) (named_all zs)) (own ∷ [])) (no-terms ts (none_of variable))
                ∙ last-name y (keys s) own true variable),
          )
      by false symbol e none_of later = by_opened symbol (opened w.bytes (count ts) u) e later

  walk-keys-all : (y : Spec) (ts : Terms) (us : Trees) (s s' : Substitution) → AreBare y (named_all ts) → IsKeyed s → walk_all y ts us s ≡ Some s'
      → IsKeyed s' × (keys s' ≡ names_in y (keys s) (named_all ts))
  walk-keys-all y Terms.none none s s' bare keyed e =
      let same : s ≡ s' = cc e in
      subst (λ r. IsKeyed r × (keys r ≡ keys s)) same (keyed, refl)
  walk-keys-all y Terms.none (more u us) s s' bare keyed e = absurd (cc e)
  walk-keys-all y (Terms.more t ts) none s s' bare keyed e = absurd (cc e)
  walk-keys-all y (Terms.more t ts) (more u us) s s' bare keyed e =
      let split = every_append (λ (m : Named). is_variable y m.name ≡ true → m.arguments ≡ 0) (named t) (named_all ts) bare in
      by (walk y t u s) refl e (λ r f. walk-keys y t u s r split.0 keyed f) (λ r k f. walk-keys-all y ts us r s' split.1 k f)
    where
      by : (o : Option Substitution) → walk y t u s ≡ o → goes_on o (λ r. walk_all y ts us r) ≡ Some s'
          → ((r : Substitution) → walk y t u s ≡ Some r → IsKeyed r × (keys r ≡ names_in y (keys s) (named t)))
          → ((r : Substitution) → IsKeyed r → walk_all y ts us r ≡ Some s' → IsKeyed s' × (keys s' ≡ names_in y (keys r) (named_all ts)))
          → IsKeyed s' × (keys s' ≡ names_in y (keys s) (named t ++ named_all ts))
      by None h e first all = absurd (cc e)
      by (Some r) h e first all =
          let a = first r h in
          let b = all r a.0 e in
          (b.0, b.1 ∙ ap (λ ns. names_in y ns (named_all ts)) a.1 ∙ sym (names_in-append y (keys s) (named t) (named_all ts)))

-- what a left side binds: each name has its own value, and they stand in the order of first occurrence
pub binds-keys : (y : Spec) (l : Term) (u : Tree) (s : Substitution) → AreBare y (named l) → binds y l u ≡ Some s
    → IsKeyed s × (keys s ≡ names_in y [] (named l))
binds-keys y l u s bare e = walk-keys y l u [] s bare tt (walk_binds y l u ∙ e)

module _ (y : Spec) (kept : fault y ≡ None) where
  variable-name : ℕ → List ℕ
  variable-name v = name_of y (Variable v)

  same-test : (x v : ℕ) → x < length (variable_words y.variables) → v < length (variable_words y.variables)
      → bytes_eq (name_of y (Variable x)) (name_of y (Variable v)) ≡ nat_eq x v
  same-test x v ltx ltv = by (nat_eq x v) refl
    where
      not-same : (b : Bool) → bytes_eq (name_of y (Variable x)) (name_of y (Variable v)) ≡ b → nat_eq x v ≡ false → b ≡ false
      not-same false e f = refl
      not-same true e f = absurd (cc
          (sym (eq-eqb x v ((facts y kept).variables_differ x v ltx ltv (bytes_eq-eq (name_of y (Variable x)) (name_of y (Variable v)) e))) ∙ f))

      by : (b : Bool) → nat_eq x v ≡ b → bytes_eq (name_of y (Variable x)) (name_of y (Variable v)) ≡ b
      by true e = ap (λ n. bytes_eq (name_of y (Variable n)) (name_of y (Variable v))) (eqb-true x v e) ∙ bytes_eq-refl (name_of y (Variable v))
      by false e = not-same (bytes_eq (name_of y (Variable x)) (name_of y (Variable v))) refl e

  has-among : (vs : List ℕ) (v : ℕ) → AreVariables y vs → v < length (variable_words y.variables)
      → has (map (λ x. name_of y (Variable x)) vs) (name_of y (Variable v)) ≡ among vs v
  has-among [] v all lt = refl
  has-among (x ∷ vs) v all lt = ap (λ b. b || has (map (λ x. name_of y (Variable x)) vs) (name_of y (Variable v))) (same-test x v all.0 lt)
      ∙ ap (λ b. nat_eq x v || b) (has-among vs v all.1 lt)

  with-same : (vs : List ℕ) (v : ℕ) → AreVariables y vs → v < length (variable_words y.variables)
      → AreVariables y (with_number vs v) × (map (λ x. name_of y (Variable x)) (with_number vs v) ≡ with_name (map (λ x. name_of y (Variable x)) vs)
      (name_of y (Variable v)))
  with-same vs v all lt = subst (λ b. AreVariables y (with_number vs v) × (map (λ x. name_of y (Variable x)) (with_number vs v) ≡ at b))
      (sym (has-among vs v all lt)) (by (among vs v))
    where
      at : Bool → List (List ℕ)
      at b = elim b [ true ↦ map (λ x. name_of y (Variable x)) vs | false ↦ map (λ x. name_of y (Variable x)) vs ++ name_of y (Variable v) ∷ [] ]

      here : Bool → List ℕ
      here b = elim b [ true ↦ vs | false ↦ vs ++ v ∷ [] ]

      by : (b : Bool) → AreVariables y (here b) × (map (λ x. name_of y (Variable x)) (here b) ≡ at b)
      by true = (all, refl)
      by false = (every-snoc (λ x. x < length (variable_words y.variables)) vs v all lt, map-append (λ x. name_of y (Variable x)) vs (v ∷ []))

  -- the numbers of variables in order are their names in order
  pub numbers-names : (vs : List ℕ) (ls : List Letter) → AreVariables y vs → All (λ l. IsMeaning y l.meaning) ls
      → map (λ x. name_of y (Variable x)) (numbers_in vs ls) ≡ names_in y (map (λ x. name_of y (Variable x)) vs) (map (named_by y) ls)
  numbers-names vs [] all meant = refl
  numbers-names vs (l ∷ ls) all meant = by l.meaning refl (All-head (λ (l : Letter). IsMeaning y l.meaning) l ls meant) (λ xs h.
      numbers-names xs ls h (All-tail (λ (l : Letter). IsMeaning y l.meaning) l ls meant))
    where
      Later : Type 0
      Later = (xs : List ℕ) → AreVariables y xs → map (λ x. name_of y (Variable x)) (numbers_in xs ls) ≡ names_in y
          (map (λ x. name_of y (Variable x)) xs) (map (named_by y) ls)

      at : List ℕ → Bool → List (List ℕ)
      at n b = names_in y (elim b [ true ↦ with_name (map (λ x. name_of y (Variable x)) vs) n | false ↦ map (λ x. name_of y (Variable x)) vs ])
          (map (named_by y) ls)

      by : (m : Meaning) → l.meaning ≡ m → IsMeaning y m → Later → map (λ x. name_of y (Variable x)) (numbers_in (with_letter vs l.meaning) ls) ≡ at
          (name_of y l.meaning) (is_variable y (name_of y l.meaning))
      by (Symbol k) e lt later =
          ap (λ m. map (λ x. name_of y (Variable x)) (numbers_in (with_letter vs m) ls)) e ∙ later vs all
          ∙ sym (ap (λ m. at (name_of y m) (is_variable y (name_of y m))) e ∙ ap (at (name_of y (Symbol k))) ((facts y kept).symbol_is_none k lt))
      by (Variable v) e lt later =
          let w = with-same vs v all lt in
          ap (λ m. map (λ x. name_of y (Variable x)) (numbers_in (with_letter vs m) ls)) e ∙ later (with_number vs v) w.0
          ∙ ap (λ ns. names_in y ns (map (named_by y) ls)) w.1
          ∙ sym (ap (λ m. at (name_of y m) (is_variable y (name_of y m))) e ∙ ap (at (name_of y (Variable v))) (variable_is_one y v lt))

-- Letters that stand for terms on a stack, as a left side is asked of them.
use Rattle.std.proofs.Common.{refl, sym, ap, subst, arith, ◌∙◌, append_assoc, length-append, take, drop}
use Rattle.std.proofs.lemmas.List.{append-nil, length-map, map-append, reverse-append}
use Rattle.std.proofs.lemmas.Bool.{eqb-true, eq-eqb}
use Rattle.std.proofs.lemmas.Bool.{cases_lt}
use Rattle.std.proofs.Math.Seq.{take-append_seam, drop-append_seam}
use Rattle.std.proofs.lemmas.List.{drop-map, length-take, take-map, take_all, take_more}
use Rattle.indexmap.proofs.ReorderLemmas.{map-reverse}
use Rattle.std.proofs.Common.{inl, inr}
use Rattle.std.proofs.lemmas.List.Elements.{All-drop, All-head, All-tail, All-take}
use Rattle.rec_syntax.specs.Syntax.{Rule}
use Rattle.rec_sorts.specs.Binding.{binds}
use Rattle.rec_match.proofs.FactLemmas.{AreBare, RuleFacts}
use Rattle.rec_match.proofs.LetterLemmas.{every-at}
use Rattle.rec_check.proofs.BackLemmas.{asked_binds}
use Rattle.std.specs.Prelude.{ℕ, ◌≡◌, ◌≤◌, ◌<◌, ◌+◌, ◌⊎◌, Bool, true, false, All, Contains, List, [], ◌∷◌}
use Rattle.std.specs.Prelude.{◌++◌, Option, Some, None, cond, get_or, is_some, length, map, nat_eq, reverse}
use Rattle.rx_term.specs.Tree.{Tree, Trees, Appl, tree_eq, trees_eq, count_of}
use Rattle.rx_term.specs.Tree as tree
use Rattle.rx_term.proofs.TreeLemmas.{same_tree, tree_eq_same}
use Rattle.rec_syntax.specs.Tokens.{Word}
use Rattle.rec_syntax.specs.Syntax.{Term, Terms, Apply, none, more, Spec}
use Rattle.rec_sorts.specs.Lookup.{count, is_variable, symbols}
use Rattle.rec_sorts.specs.Binding.{Substitution, value_of, application, instances, tree_of}
use Rattle.rec_sorts.specs.Numbering.{AreLetters, IsMeaning, Named, name_of, named, named_all, named_by, variable_count}
use Rattle.rec_sorts.specs.SpecRules.{fault}
use Rattle.rec_sorts.specs.declared.letters.Letter.{Letter}
use Rattle.rec_sorts.specs.declared.letters.Meaning.{Meaning}
use Rattle.rec_sorts.specs.declared.letters.Meaning.TheVariants.{Symbol, Variable}
use Rattle.rec_sorts.proofs.BindingLemmas.{append_is, append_keeps, append_finds}
use Rattle.rec_match.specs.Inner.Asking.{stack_on}
use Rattle.rec_match.specs.Bound.{bound, goes_on, opened, with_one}
use Rattle.rec_match.proofs.BoundLemmas.{opened_is, opened_same}
use Rattle.rec_match.proofs.FactLemmas.{facts, variable_is_one}
use Rattle.rec_check.specs.Inner.Trials.{AreValues, Asks, Binds, BindsTo, IsGiven, IsValue, LeavesAt, Stands, asked, names_below, onto, value_in}
use Rattle.rec_check.specs.declared.matching.Values.{Values}

-- ---- names of terms

-- terms end in the same names only where they are the same trees
pub some_last : {A : Type 0} (xs ys : List A) (x y : A) → xs ++ x ∷ [] ≡ ys ++ y ∷ [] → (xs ≡ ys) × (x ≡ y)
some_last [] [] x y e = (refl, cc e)
some_last [] (z ∷ []) x y e = absurd (cc e)
some_last [] (z ∷ w ∷ ys) x y e = absurd (cc e)
some_last (z ∷ []) [] x y e = absurd (cc e)
some_last (z ∷ w ∷ xs) [] x y e = absurd (cc e)
some_last (z ∷ xs) (w ∷ ys) x y e =
    let here : z ≡ w = cc e in
    let k = some_last xs ys x y (cc e) in (ap (λ v. v ∷ xs) here ∙ ap (λ vs. w ∷ vs) k.0, k.1)

abbrev own : Word → Terms → Named
own w ts = record { name = w.bytes; arguments = count ts }

mutual
  same_names : (t u : Term) (xs ys : List Named) → xs ++ named t ≡ ys ++ named u → (xs ≡ ys) × (tree_of t ≡ tree_of u)
  same_names (Apply w ts) (Apply v us) xs ys e =
      let k = some_last (xs ++ named_all ts) (ys ++ named_all us) (own w ts) (own v us)
      (append_assoc xs (named_all ts) (own w ts ∷ []) ∙ e ∙ sym (append_assoc ys (named_all us) (own v us ∷ []))) in
      let later = same_names_all ts us xs ys (ap (λ (m : Named). m.arguments) k.1) k.0 in
      (later.0, ap (λ n. application n (instances [] ts)) (ap (λ (m : Named). m.name) k.1) ∙ ap (application v.bytes) later.1)

  same_names_all : (ts us : Terms) (xs ys : List Named) → count ts ≡ count us → xs ++ named_all ts ≡ ys ++ named_all us
      → (xs ≡ ys) × (instances [] ts ≡ instances [] us)
  same_names_all none none xs ys e f = (sym (append-nil xs) ∙ f ∙ append-nil ys, refl)
  same_names_all none (more u us) xs ys e f = absurd (let nothing : ⊥ = omega (arith, e) in nothing)
  same_names_all (more t ts) none xs ys e f = absurd (let nothing : ⊥ = omega (arith, e) in nothing)
  same_names_all (more t ts) (more u us) xs ys e f =
      let later = same_names_all ts us (xs ++ named t) (ys ++ named u) (omega (arith, e))
      (append_assoc xs (named t) (named_all ts) ∙ f ∙ sym (append_assoc ys (named u) (named_all us))) in
      let first = same_names t u xs ys later.0 in
      (first.0, ap (λ x. tree.more x (instances [] ts)) first.1 ∙ ap (tree.more (tree_of u)) later.1)

-- the same trees have the same names
abbrev pub tree_name : Tree → List ℕ
tree_name (Appl n q ts anns) = n
tree_name t = []

abbrev pub tree_arguments : Tree → Trees
tree_arguments (Appl n q ts anns) = ts
tree_arguments t = tree.none

abbrev first_tree : Tree → Trees → Tree
first_tree d (tree.more t ts) = t
first_tree d tree.none = d

abbrev other_trees : Trees → Trees
other_trees (tree.more t ts) = ts
other_trees tree.none = tree.none

count_trees : (ts : Terms) → count_of (instances [] ts) ≡ count ts
count_trees none = refl
count_trees (more t ts) = let e = count_trees ts in omega (arith, e)

named_apart : (w v : Word) (ts us : Terms) → w.bytes ≡ v.bytes → named_all ts ≡ named_all us → count ts ≡ count us → named (Apply w ts) ≡ named (Apply v us)
named_apart w v ts us e f g =
    ap (λ xs. xs ++ own w ts ∷ []) f ∙ ap (λ n. named_all us ++ (let m : Named = record { name = n; arguments = count ts } in m) ∷ []) e
    ∙ ap (λ k. named_all us ++ (let m : Named = record { name = v.bytes; arguments = k } in m) ∷ []) g

mutual
  same_tree_names : (t u : Term) → tree_of t ≡ tree_of u → named t ≡ named u
  same_tree_names (Apply w ts) (Apply v us) e = named_apart w v ts us (ap tree_name e) (same_trees_names ts us (ap tree_arguments e))
      (sym (count_trees ts) ∙ ap (λ x. count_of (tree_arguments x)) e ∙ count_trees us)

  same_trees_names : (ts us : Terms) → instances [] ts ≡ instances [] us → named_all ts ≡ named_all us
  same_trees_names none none e = refl
  same_trees_names none (more u us) e = absurd (cc e)
  same_trees_names (more t ts) none e = absurd (cc e)
  same_trees_names (more t ts) (more u us) e =
      ap (λ xs. xs ++ named_all ts) (same_tree_names t u (ap (first_tree (tree_of t)) e)) ∙ ap (λ xs. named u ++ xs) (same_trees_names ts us (ap other_trees e))

-- ---- letters of a specification that keeps its rules

-- meanings with the same name are the same
same_meaning : (y : Spec) → fault y ≡ None → (m n : Meaning) → IsMeaning y m → IsMeaning y n → name_of y m ≡ name_of y n → m ≡ n
same_meaning y kept (Symbol k) (Symbol j) h i e = ap Symbol ((facts y kept).symbols_differ k j h i e)
same_meaning y kept (Variable k) (Variable j) h i e = ap Variable ((facts y kept).variables_differ k j h i e)
same_meaning y kept (Symbol k) (Variable j) h i e = absurd (cc (sym ((facts y kept).symbol_is_none k h) ∙ ap (is_variable y) e ∙ variable_is_one y j i))
same_meaning y kept (Variable k) (Symbol j) h i e = absurd (cc (sym ((facts y kept).symbol_is_none j i) ∙ ap (is_variable y) (sym e) ∙ variable_is_one y k h))

same_letter_of : (y : Spec) → fault y ≡ None → (l k : Letter) → IsMeaning y l.meaning → IsMeaning y k.meaning → named_by y l ≡ named_by y k → l ≡ k
same_letter_of y kept l k h i e =
    ap (λ m. let x : Letter = record { meaning = m; count = l.count } in x) (same_meaning y kept l.meaning k.meaning h i (ap (λ (m : Named). m.name) e))
    ∙ ap (λ (n : ℕ). let x : Letter = record { meaning = k.meaning; count = n } in x) (ap (λ (m : Named). m.arguments) e)

abbrev pub AreMeant : Spec → List Letter → Type 0
AreMeant y ls = All (λ (l : Letter). IsMeaning y l.meaning) ls

same_letters_of : (y : Spec) → fault y ≡ None → (ls ks : List Letter) → AreMeant y ls → AreMeant y ks → map (named_by y) ls ≡ map (named_by y) ks → ls ≡ ks
same_letters_of y kept [] [] h i e = refl
same_letters_of y kept [] (k ∷ ks) h i e = absurd (cc e)
same_letters_of y kept (l ∷ ls) [] h i e = absurd (cc e)
same_letters_of y kept (l ∷ ls) (k ∷ ks) h i e =
    let first = same_letter_of y kept l k (All-head (λ (l : Letter). IsMeaning y l.meaning) l ls h)
    (All-head (λ (l : Letter). IsMeaning y l.meaning) k ks i) (cc e) in
    let later = same_letters_of y kept ls ks (All-tail (λ (l : Letter). IsMeaning y l.meaning) l ls h)
    (All-tail (λ (l : Letter). IsMeaning y l.meaning) k ks i) (cc e) in
    ap (λ x. x ∷ ls) first ∙ ap (λ xs. k ∷ xs) later

-- letters of two terms are the same where their trees are
letters_trees : (y : Spec) (ls ks : List Letter) (t u : Term) → AreLetters y ls t → AreLetters y ks u → ls ≡ ks → tree_of t ≡ tree_of u
letters_trees y ls ks t u h i e = (same_names t u [] [] (sym h.1 ∙ ap (map (named_by y)) e ∙ i.1)).1

trees_letters : (y : Spec) → fault y ≡ None → (ls ks : List Letter) (t u : Term) → AreLetters y ls t → AreLetters y ks u → tree_of t ≡ tree_of u → ls ≡ ks
trees_letters y kept ls ks t u h i e = same_letters_of y kept ls ks h.0 i.0 (h.1 ∙ same_tree_names t u e ∙ sym i.1)

-- ---- values

-- other names have the values that they had
value_other : (s : Substitution) (name : List ℕ) (v : Tree) (other : List ℕ) → (name ≡ other → ⊥) → value_of (with_one s name v) other ≡ value_of s other
value_other s name v other apart = by (value_of s other) (value_of (with_one s name v) other) refl refl
  where
    by : (o p : Option Tree) → value_of s other ≡ o → value_of (with_one s name v) other ≡ p → value_of (with_one s name v) other ≡ value_of s other
    by (Some u) p e f = append_keeps s (record { name = name; value = v }) other u e ∙ sym e
    by None None e f = f ∙ sym e
    by None (Some u) e f = append_is s (record { name = name; value = v }) other u f (value_of (with_one s name v) other ≡ value_of s other) (λ g.
        absurd (cc (sym e ∙ g))) (λ is_name is_value. absurd (apart is_name))

module _ (y : Spec) (kept : fault y ≡ None) where
  -- a variable that has a value
  bind_again : (s : Substitution) (t u : Term) (name : List ℕ) (b : Bool) → value_of s name ≡ Some (tree_of u) → (b ≡ true → tree_of u ≡ tree_of t)
      → (b ≡ false → tree_of u ≡ tree_of t → ⊥) → bound s name (tree_of t) ≡ (cond b (Some s) None)
  bind_again s t u name b e holds fails = ap at e ∙ by b holds fails
    where
      at : Option Tree → Option Substitution
      at o = elim o [ None ↦ Some (with_one s name (tree_of t)) | Some v ↦ elim (tree_eq v (tree_of t)) [ true ↦ Some s | false ↦ None ] ]

      tested : Bool → Option Substitution
      tested c = elim c [ true ↦ Some s | false ↦ None ]

      differ : (c : Bool) → tree_eq (tree_of u) (tree_of t) ≡ c → (tree_of u ≡ tree_of t → ⊥) → tested c ≡ None
      differ false e fails = refl
      differ true e fails = absurd (fails (same_tree (tree_of u) (tree_of t) e))

      by : (b : Bool) → (b ≡ true → tree_of u ≡ tree_of t) → (b ≡ false → tree_of u ≡ tree_of t → ⊥)
          → tested (tree_eq (tree_of u) (tree_of t)) ≡ (cond b (Some s) None)
      by true holds fails = ap tested (ap (λ x. tree_eq x (tree_of t)) (holds refl) ∙ tree_eq_same (tree_of t))
      by false holds fails = differ (tree_eq (tree_of u) (tree_of t)) refl (fails refl)

  -- a variable that has none
  bind_new : (k : ℕ) (part : List Letter) (old new : Values) (s : Substitution) (t : Term) → k < variable_count y → AreValues y old s
      → AreLetters y part t → IsGiven old new k part → value_of s (name_of y (Variable k)) ≡ None
      → (bound s (name_of y (Variable k)) (tree_of t) ≡ Some (with_one s (name_of y (Variable k)) (tree_of t)))
      × AreValues y new (with_one s (name_of y (Variable k)) (tree_of t))
  bind_new k part old new s t lt values letters given e = (ap at e, each)
    where
      name : List ℕ
      name = name_of y (Variable k)

      at : Option Tree → Option Substitution
      at o = elim o [ None ↦ Some (with_one s name (tree_of t)) | Some v ↦ elim (tree_eq v (tree_of t)) [ true ↦ Some s | false ↦ None ] ]

      each : AreValues y new (with_one s name (tree_of t))
      each j below = subst (λ o. IsValue y o (value_of (with_one s name (tree_of t)) (name_of y (Variable j)))) (sym (given j)) (by (nat_eq k j) refl)
        where
          by : (b : Bool) → nat_eq k j ≡ b → IsValue y (cond b (Some part) (value_in old j)) (value_of (with_one s name (tree_of t)) (name_of y (Variable j)))
          by true g =
              let same : k ≡ j = eqb-true k j g in (
                t,
                letters,
                ap (λ (i : ℕ). value_of (with_one s name (tree_of t)) (name_of y (Variable i))) (sym same)
                    ∙ append_finds s (record { name = name; value = tree_of t }) e,
              )
          by false g =
              subst (λ o. IsValue y (value_in old j) o)
              (sym (value_other s name (tree_of t) (name_of y (Variable j)) (λ q. let same = (facts y kept).variables_differ k j lt below q in
              absurd (cc (sym g ∙ eq-eqb k j same)))))
              (values j below)

-- the value that a variable has is compared
pub binds_again : (k : ℕ) (part value : List Letter) (old : Values) (b : Bool) → value_in old k ≡ Some value → (b ≡ true → value ≡ part)
    → (b ≡ false → value ≡ part → ⊥) → Binds k part old old b
binds_again k part value old b e holds fails y s t kept lt values letters =
    let v : IsValue y (Some value) (value_of s (name_of y (Variable k))) = subst (λ o. IsValue y o (value_of s (name_of y (Variable k)))) e (values k lt) in
    let is = bind_again y kept s t v.0 (name_of y (Variable k)) b v.2 (λ g. letters_trees y value part v.0 t v.1 letters (holds g)) (λ g f.
    fails g (trees_letters y kept value part v.0 t v.1 letters f)) in
    by b is
  where
    by : (b : Bool) → bound s (name_of y (Variable k)) (tree_of t) ≡ cond b (Some s) None → BindsTo y old (bound s (name_of y (Variable k)) (tree_of t)) b
    by true e = (s, e, values)
    by false e = e

-- a variable gets its value
pub binds_new : (k : ℕ) (part : List Letter) (old new : Values) → value_in old k ≡ None → IsGiven old new k part → Binds k part old new true
binds_new k part old new e given y s t kept lt values letters =
    let none : value_of s (name_of y (Variable k)) ≡ None = subst (λ o. IsValue y o (value_of s (name_of y (Variable k)))) e (values k lt) in
    let is = bind_new y kept k part old new s t lt values letters given none in
    (with_one s (name_of y (Variable k)) (tree_of t), is.0, is.1)

-- ---- names on a stack

pub names_onto : (us : Terms) (ts : List Term) → names_below (onto us ts) ≡ names_below ts ++ named_all us
names_onto none ts = sym (append-nil (names_below ts))
names_onto (more t us) ts = names_onto us (t ∷ ts) ∙ append_assoc (names_below ts) (named t) (named_all us)

trees_onto : (us : Terms) (ts : List Term) → map tree_of (onto us ts) ≡ stack_on (instances [] us) (map tree_of ts)
trees_onto none ts = refl
trees_onto (more t us) ts = trees_onto us (t ∷ ts)

length_onto : (us : Terms) (ts : List Term) → length (onto us ts) ≡ length ts + count us
length_onto none ts = omega arith
length_onto (more t us) ts = let e = length_onto us (t ∷ ts) in omega (arith, e)

pub some_names : (t : Term) → 0 < length (named t)
some_names (Apply w ts) = let e = length-append (named_all ts) (own w ts ∷ []) in omega (arith, e)

-- each term has a name at least
many_names : (ts : List Term) → length ts ≤ length (names_below ts)
many_names [] = omega arith
many_names (t ∷ ts) = let e = length-append (names_below ts) (named t) in let h = some_names t in let k = many_names ts in omega (arith, e, h, k)

no_names : (ts : List Term) → names_below ts ≡ [] → ts ≡ []
no_names [] e = refl
no_names (t ∷ ts) e = let long = many_names (t ∷ ts) in let none : length (names_below (t ∷ ts)) ≡ 0 = ap length e in absurd (omega (arith, long, none))

-- names end in that of the top's head
top_names : (w : Word) (us : Terms) (ts : List Term) → names_below (Apply w us ∷ ts) ≡ names_below (onto us ts) ++ own w us ∷ []
top_names w us ts = sym (append_assoc (names_below ts) (named_all us) (own w us ∷ [])) ∙ ap (λ ms. ms ++ own w us ∷ []) (sym (names_onto us ts))

-- ---- where the last one of some terms begins

-- one letter more was passed
due_step : (y : Spec) (ms : List Named) (letters : List Letter) (i due : ℕ) (d : Letter) (ts : List Term) → i < length letters
    → map (named_by y) (take (i + 1) letters) ≡ ms ++ names_below ts → length ts ≡ due → 0 < due
    → (us : List Term) × (map (named_by y) (take i letters) ≡ ms ++ names_below us) × (length us + 1 ≡ due + (get_or letters i d).count)
due_step y ms letters i due d [] lt e long some = absurd (omega (arith, long, some))
due_step y ms letters i due d (Apply w us ∷ ts) lt e long some =
    let one : map (named_by y) (take (i + 1) letters) ≡ map (named_by y) (take i letters) ++ named_by y (get_or letters i d) ∷ [] =
    ap (map (named_by y)) (take_more letters i d lt) ∙ map-append (named_by y) (take i letters) (get_or letters i d ∷ []) in
    let split = some_last (map (named_by y) (take i letters)) (ms ++ names_below (onto us ts)) (named_by y (get_or letters i d)) (own w us)
    (sym one ∙ e ∙ ap (λ ns. ms ++ ns) (top_names w us ts) ∙ sym (append_assoc ms (names_below (onto us ts)) (own w us ∷ []))) in (
      onto us ts,
      split.0,
      (let counted : (get_or letters i d).count ≡ count us = ap (λ (m : Named). m.arguments) split.1 in let l =
          length_onto us ts in omega (arith, counted, l, long)),
    )

-- so many terms are due before a place
pub record AreDue (letters : List Letter) (at due : ℕ) (y : Spec) (ms : List Named) : Type 0 where
  pub terms : List Term
  pub names : map (named_by y) (take at letters) ≡ ms ++ names_below terms
  pub counted : length terms ≡ due

pub due_start : (letters : List Letter) (y : Spec) (ms : List Named) (t : Term) → map (named_by y) letters ≡ ms ++ named t
    → AreDue letters (length letters) 1 y ms
due_start letters y ms t e = record { terms = t ∷ []; names = ap (map (named_by y)) (take_all (length letters) letters (omega arith)) ∙ e; counted = refl }

due_few : (letters : List Letter) (at due : ℕ) (y : Spec) (ms : List Named) → at ≤ length letters → AreDue letters at due y ms → due ≤ at
due_few letters at due y ms within h =
    let many = many_names h.terms in
    let long : length (ms ++ names_below h.terms) ≡ at = ap length (sym h.names) ∙ length-map (take at letters) (named_by y) ∙ length-take at letters
    ∙ (omega (arith, within)) in
    let both = length-append ms (names_below h.terms) in
    omega (arith, many, long, both, h.counted)

pub due_next : (letters : List Letter) (at before due next : ℕ) (d : Letter) (y : Spec) (ms : List Named) → at ≤ length letters → at ≡ before + 1
    → 0 < due → (due + (get_or letters before d).count ≤ at → next + 1 ≡ due + (get_or letters before d).count) → AreDue letters at due y ms
    → AreDue letters before next y ms
due_next letters at before due next d y ms within e some is h =
    let lt : before < length letters = omega (arith, within, e) in
    let step = due_step y ms letters before due d h.terms lt (ap (λ (k : ℕ). map (named_by y) (take k letters)) (sym e) ∙ h.names) h.counted some in
    let few : length step.0 ≤ before = due_few letters before (length step.0) y ms (omega (arith, lt))
    (record { terms = step.0; names = step.1; counted = refl }) in
    let exact = is (let s = step.2 in omega (arith, few, s, e)) in
    record { terms = step.0; names = step.1; counted = (let s = step.2 in omega (arith, s, exact)) }

pub due_end : (letters : List Letter) (at due : ℕ) (y : Spec) (ms : List Named) → at ≤ length letters → (0 < due → 0 < at → ⊥)
    → AreDue letters at due y ms → at ≡ length ms
due_end letters at due y ms within stop h =
    let few = due_few letters at due y ms within h in
    let nothing : due ≡ 0 = by (cases_lt 0 due) in
    let none : names_below h.terms ≡ [] = ap names_below (no_length h.terms (h.counted ∙ nothing)) in
    sym (sym (length-append-nil ms) ∙ ap length (ap (λ ns. ms ++ ns) (sym none) ∙ sym h.names) ∙ length-map (take at letters) (named_by y)
    ∙ length-take at letters ∙ (omega (arith, within)))
  where
    no_length : (ts : List Term) → length ts ≡ 0 → ts ≡ []
    no_length [] e = refl
    no_length (t ∷ ts) e = absurd (let nothing : ⊥ = omega (arith, e) in nothing)

    length-append-nil : (ns : List Named) → length (ns ++ []) ≡ length ns
    length-append-nil ns = ap length (append-nil ns)

    by : (0 < due) ⊎ (due ≤ 0) → due ≡ 0
    by (inl some) = let few = due_few letters at due y ms within h in absurd (stop some (omega (arith, few, some)))
    by (inr le) = omega (arith, le)

-- ---- a letter that is asked

pub All-last : (y : Spec) (xs : List Letter) (x : Letter) → AreMeant y (xs ++ x ∷ []) → IsMeaning y x.meaning
All-last y [] x h = All-head (λ (l : Letter). IsMeaning y l.meaning) x [] h
All-last y (z ∷ xs) x h = All-last y xs x (All-tail (λ (l : Letter). IsMeaning y l.meaning) z (xs ++ x ∷ []) h)

All-front : (y : Spec) (xs : List Letter) (x : Letter) → AreMeant y (xs ++ x ∷ []) → AreMeant y xs
All-front y xs x h = subst (AreMeant y) (take-append_seam xs (x ∷ [])) (All-take (λ (l : Letter). IsMeaning y l.meaning) (length xs) (xs ++ x ∷ []) h)

no_letters : (y : Spec) (ts : List Term) (s : Substitution) (letters : List Letter) (v : Values) → Stands y ts s letters v → ts ≡ [] → length letters ≡ 0
no_letters y ts s letters v h e = sym (length-map letters (named_by y)) ∙ ap length (h.names ∙ ap names_below e)

no_letter : (ls : List Letter) → length ls ≡ 0 → ls ≡ []
no_letter [] e = refl
no_letter (l ∷ ls) e = absurd (let nothing : ⊥ = omega (arith, e) in nothing)

pub ask_nothing : (l : Letter) (letters : List Letter) (v : Values) → length letters ≡ 0 → Asks l letters v v None
ask_nothing l letters v e y ts s kept meaning h ms = ap (λ us. asked y (named_by y l ∷ ms) (map tree_of us) s)
    (no_names ts (sym h.names ∙ ap (map (named_by y)) (no_letter letters e)))

pub ask_symbol : (l : Letter) (k : ℕ) (letters others : List Letter) (last : Letter) (v : Values) (b : Bool) → l.meaning ≡ Symbol k
    → letters ≡ others ++ last ∷ [] → (b ≡ true → last ≡ l) → (b ≡ false → last ≡ l → ⊥) → Asks l letters v v (cond b (Some others) None)
ask_symbol l k letters others last v b is split holds fails y ts s kept meaning h = by_terms ts h
  where
    lt : k < length (symbols y)
    lt = subst (IsMeaning y) is meaning

    all : AreMeant y (others ++ last ∷ [])
    all = subst (AreMeant y) split h.meant

    by_terms : (ts : List Term) → Stands y ts s letters v → LeavesAt y (named_by y l) ts s v (cond b (Some others) None)
    by_terms [] h = let none = no_letters y [] s letters v h refl in let some = ap length split ∙ length-append others (last ∷ []) in
        absurd (omega (arith, none, some))
    by_terms (Apply w us ∷ ts) h = by b holds fails
      where
        parts : (map (named_by y) others ≡ names_below (onto us ts)) × (named_by y last ≡ own w us)
        parts = some_last (map (named_by y) others) (names_below (onto us ts)) (named_by y last) (own w us)
            (sym (map-append (named_by y) others (last ∷ [])) ∙ ap (map (named_by y)) (sym split) ∙ h.names ∙ top_names w us ts)

        later : List Named → Trees → Option Substitution
        later ms vs = asked y ms (stack_on vs (map tree_of ts)) s

        at : List Named → Bool → Option Substitution
        at ms c = elim c [
          | true ↦ goes_on (bound s (name_of y l.meaning) (tree_of (Apply w us))) (λ r. asked y ms (map tree_of ts) r)
          | false ↦ goes_on (opened (name_of y l.meaning) l.count (tree_of (Apply w us))) (later ms)
        ]

        opens : (ms : List Named) → asked y (named_by y l ∷ ms) (map tree_of (Apply w us ∷ ts)) s ≡ goes_on
            (opened (name_of y l.meaning) l.count (tree_of (Apply w us))) (later ms)
        opens ms = ap (at ms) (ap (λ m. is_variable y (name_of y m)) is ∙ (facts y kept).symbol_is_none k lt)

        same : last ≡ l → opened (name_of y l.meaning) l.count (tree_of (Apply w us)) ≡ Some (instances [] us)
        same e =
            let it : named_by y l ≡ own w us = ap (named_by y) (sym e) ∙ parts.1 in
            ap (λ (m : Named). opened m.name m.arguments (tree_of (Apply w us))) it ∙ opened_same w.bytes (count us) (instances [] us) (count_trees us)

        other : (last ≡ l → ⊥) → (o : Option Trees) → opened (name_of y l.meaning) l.count (tree_of (Apply w us)) ≡ o → o ≡ None
        other apart None e = refl
        other apart (Some vs) e =
            let is_it = opened_is (name_of y l.meaning) l.count (tree_of (Apply w us)) vs e in
            let name : name_of y l.meaning ≡ w.bytes = ap tree_name is_it.0 in
            let counted : l.count ≡ count us = sym is_it.1 ∙ ap (λ t. count_of (tree_arguments t)) is_it.0 ∙ count_trees us in
            let named_so : named_by y last ≡ named_by y l = parts.1 ∙ sym
            (ap (λ n. let m : Named = record { name = n; arguments = l.count } in m) name
            ∙ ap (λ (n : ℕ). let m : Named = record { name = w.bytes; arguments = n } in m) counted) in
            absurd (apart (same_letter_of y kept last l (All-last y others last all) meaning named_so))

        by : (b : Bool) → (b ≡ true → last ≡ l) → (b ≡ false → last ≡ l → ⊥) → LeavesAt y (named_by y l) (Apply w us ∷ ts) s v (cond b (Some others) None)
        by true holds fails = (
          onto us ts,
          s,
          record { names = parts.0; meant = All-front y others last all; values = h.values },
          λ ms. opens ms ∙ ap (λ o. goes_on o (later ms)) (same (holds refl)) ∙ ap (λ st. asked y ms st s) (sym (trees_onto us ts)),
        )
        by false holds fails = λ ms. opens ms ∙ ap (λ o. goes_on o (later ms))
            (other (fails refl) (opened (name_of y l.meaning) l.count (tree_of (Apply w us))) refl)

pub ask_variable : (l : Letter) (k n : ℕ) (letters : List Letter) (old new : Values) (b : Bool) → l.meaning ≡ Variable k → 0 < length letters
    → ((y : Spec) (ms : List Named) (t : Term) → map (named_by y) letters ≡ ms ++ named t → n ≡ length ms)
    → Binds k (drop n letters) old new b → Asks l letters old new (cond b (Some (take n letters)) None)
ask_variable l k n letters old new b is some split binds y ts s kept meaning h = by_terms ts h
  where
    lt : k < variable_count y
    lt = subst (IsMeaning y) is meaning

    by_terms : (ts : List Term) → Stands y ts s letters old → LeavesAt y (named_by y l) ts s new (cond b (Some (take n letters)) None)
    by_terms [] h = let none = no_letters y [] s letters old h refl in absurd (omega (arith, none, some))
    by_terms (t ∷ ts) h = by b (binds y s t kept lt h.values part)
      where
        seam : n ≡ length (names_below ts)
        seam = split y (names_below ts) t h.names

        front : map (named_by y) (take n letters) ≡ names_below ts
        front = sym (take-map (named_by y) n letters) ∙ ap (λ ns. take n ns) h.names ∙ ap (λ (i : ℕ). take i (names_below ts ++ named t)) seam
            ∙ take-append_seam (names_below ts) (named t)

        part : AreLetters y (drop n letters) t
        part = (
          All-drop (λ (l : Letter). IsMeaning y l.meaning) n letters h.meant,
          sym (drop-map (named_by y) n letters) ∙ ap (λ ns. drop n ns) h.names ∙ ap (λ (i : ℕ). drop i (names_below ts ++ named t)) seam
              ∙ drop-append_seam (names_below ts) (named t),
        )

        at : List Named → Bool → Option Substitution
        at ms c = elim c [
          | true ↦ goes_on (bound s (name_of y l.meaning) (tree_of t)) (λ r. asked y ms (map tree_of ts) r)
          | false ↦ goes_on (opened (name_of y l.meaning) l.count (tree_of t)) (λ us. asked y ms (stack_on us (map tree_of ts)) s)
        ]

        takes : (ms : List Named) → asked y (named_by y l ∷ ms) (map tree_of (t ∷ ts)) s ≡ goes_on (bound s (name_of y (Variable k)) (tree_of t))
            (λ r. asked y ms (map tree_of ts) r)
        takes ms = ap (at ms) (ap (λ m. is_variable y (name_of y m)) is ∙ variable_is_one y k lt)
            ∙ ap (λ m. goes_on (bound s (name_of y m) (tree_of t)) (λ r. asked y ms (map tree_of ts) r)) is

        by : (b : Bool) → BindsTo y new (bound s (name_of y (Variable k)) (tree_of t)) b
            → LeavesAt y (named_by y l) (t ∷ ts) s new (cond b (Some (take n letters)) None)
        by true g = (
          ts,
          g.0,
          record { names = front; meant = All-take (λ (l : Letter). IsMeaning y l.meaning) n letters h.meant; values = g.2 },
          λ ms. takes ms ∙ ap (λ o. goes_on o (λ r. asked y ms (map tree_of ts) r)) g.1,
        )
        by false g = λ ms. takes ms ∙ ap (λ o. goes_on o (λ r. asked y ms (map tree_of ts) r)) g

-- ---- a left side

-- the variables of a left side have fails arguments
pub left_bare : (y : Spec) → fault y ≡ None → (r : Rule) → Contains y.rules r → AreBare y (named r.left)
left_bare y kept r (i, lt, is) = subst (λ (x : Rule). AreBare y (named x.left)) is (every-at (RuleFacts y) y.rules (facts y kept).rules i r lt).left

-- what is left to be asked says whether the left side matches
pub record IsAsked (y : Spec) (l t : Term) (letters terms : List Letter) (v : Values) : Type 0 where
  pub stack : List Term
  pub bindings : Substitution
  pub stands : Stands y stack bindings terms v
  pub meant : All (λ l. IsMeaning y l.meaning) letters
  pub same : asked y (map (named_by y) (reverse letters)) (map tree_of stack) bindings ≡ asked y (reverse (named l)) (tree_of t ∷ []) []

abbrev pub AreAsked : List Letter → List Letter → List Letter → List Letter → Values → Type 0
AreAsked left term letters terms v = (y : Spec) (r : Rule) (t : Term) → fault y ≡ None → Contains y.rules r → AreLetters y left r.left
    → AreLetters y term t → IsAsked y r.left t letters terms v

pub asked_start : (left term : List Letter) (v : Values) → ((k : ℕ) → value_in v k ≡ None) → AreAsked left term left term v
asked_start left term v empty y r t kept there l e = record {
  stack = t ∷ [];
  bindings = [];
  stands = record { names = e.1; meant = e.0; values = λ k lt. subst (λ o. IsValue y o None) (sym (empty k)) refl };
  meant = l.0;
  same = ap (λ ns. asked y ns (tree_of t ∷ []) []) (map-reverse (named_by y) left ∙ ap reverse l.1);
}

pub asked_next : (left term letters front terms others : List Letter) (l : Letter) (old new : Values) → letters ≡ front ++ l ∷ []
    → Asks l terms old new (Some others) → AreAsked left term letters terms old → AreAsked left term front others new
asked_next left term letters front terms others l old new split asks before y r t kept there e f =
    let h = before y r t kept there e f in
    let all : AreMeant y (front ++ l ∷ []) = subst (AreMeant y) split h.meant in
    let step = asks y h.stack h.bindings kept (All-last y front l all) h.stands in
    record {
      stack = step.0;
      bindings = step.1;
      stands = step.2;
      meant = All-front y front l all;
      same = sym (step.3 (map (named_by y) (reverse front))) ∙ ap (λ ls. asked y (map (named_by y) ls) (map tree_of h.stack) h.bindings)
          (sym (ap reverse split ∙ reverse-append front (l ∷ []))) ∙ h.same;
    }

pub asked_fails : (left term letters front terms : List Letter) (l : Letter) (old new : Values) → letters ≡ front ++ l ∷ []
    → Asks l terms old new None → AreAsked left term letters terms old
    → (y : Spec) (r : Rule) (t : Term) → fault y ≡ None → Contains y.rules r → AreLetters y left r.left → AreLetters y term t
    → false ≡ is_some (binds y r.left (tree_of t))
asked_fails left term letters front terms l old new split asks before y r t kept there e f =
    let h = before y r t kept there e f in
    let all : AreMeant y (front ++ l ∷ []) = subst (AreMeant y) split h.meant in
    let none = asks y h.stack h.bindings kept (All-last y front l all) h.stands (map (named_by y) (reverse front)) in
    let whole = sym none ∙ ap (λ ls. asked y (map (named_by y) ls) (map tree_of h.stack) h.bindings)
    (sym (ap reverse split ∙ reverse-append front (l ∷ []))) ∙ h.same in
    ap is_some whole ∙ asked_binds y r.left (tree_of t) (left_bare y kept r there)

pub asked_all : (left term letters terms : List Letter) (v : Values) → length letters ≡ 0 → AreAsked left term letters terms v
    → (y : Spec) (r : Rule) (t : Term) → fault y ≡ None → Contains y.rules r → AreLetters y left r.left → AreLetters y term t
    → true ≡ is_some (binds y r.left (tree_of t))
asked_all left term letters terms v e before y r t kept there f g =
    let h = before y r t kept there f g in
    let whole = ap (λ ls. asked y (map (named_by y) (reverse ls)) (map tree_of h.stack) h.bindings) (sym (no_letter letters e)) ∙ h.same in
    ap is_some whole ∙ asked_binds y r.left (tree_of t) (left_bare y kept r there)

-- The first given term that alone breaks the rule that all of them break.
use Rattle.std.proofs.Common.{refl, sym, ap, ◌∙◌, rules, tests, append-nil, inl, inr}
use Rattle.std.proofs.lemmas.Iterator.Adapters.{position_from-zero}
use Rattle.std.specs.Prelude.{ℕ, ◌≡◌, ◌⊎◌, ◌+◌, Bool, true, false, cond, ◌||◌, List, [], ◌∷◌, Option, Some}
use Rattle.std.specs.Prelude.{None, Result, Ok, Err, IsSome, IfSome, IfOk, is_some, map, flat_map, nat_eq}
use Rattle.std.specs.declared.alloc.AllocError.{AllocError}
use Rattle.std.specs.List.{list_any, position, position_from}
use Rattle.std.proofs.lemmas.List.Folds.{list_any-append}
use Rattle.std.specs.Option.{option_and_then, option_eq}
use Rattle.rx_term.specs.Tree.{Tree, Int, Appl, Items, Hole, none, more, to_list, items_of}
use Rattle.rx_term.specs.Store.{Store, tree_at}
use Rattle.rx_term.specs.declared.Term.{Term}
use Rattle.rx_term.specs.Walks.{held_tree, held_trees}
use Rattle.rec_syntax.specs.Syntax.{Spec}
use Rattle.rec_sorts.specs.SpecRules.{fault}
use Rattle.rec_sorts.specs.TermRules.{elements, broken_by_elements, broken_by_terms, first_passed, nodes, nodes_all, arguments, is_no_application}
use Rattle.rec_sorts.specs.TermRules.{is_annotated, is_undeclared, is_ill_filled, is_ill_sorted, breaks_alone, first_breaking, broken_element}
use Rattle.rec_sorts.specs.Agreeing.{IsScope}
use Rattle.rec_sorts.specs.Inner.GivenTerms.{is_broken_alone}
use Rattle.rec_sorts.specs.declared.scope.Scope.{Scope}
use Rattle.rec_sorts.specs.Laws.{ElementLaw}
use Rattle.rec_sorts.proofs.GivenRuleLemmas.{broken-nodes, if_held}

-- where tests have the same answers, the first to pass is the same
position-map : {X Y : Type 0} (p : X → Bool) (q : Y → Bool) (f : Y → X) → ((y : Y) → q y ≡ p (f y)) → (i : ℕ) (ys : List Y)
    → position_from q i ys ≡ position_from p i (map f ys)
position-map p q f same i [] = refl
position-map p q f same i (y ∷ ys) =
    ap (λ b. cond b (Some i) (position_from q (i + 1) ys)) (same y)
    ∙ ap (λ o. cond (p (f y)) (Some i) o) (position-map p q f same (i + 1) ys)

-- the place among references
pub breaking-held : (s : Scope) (w : Store) (number : ℕ) (rs : List Term)
    → position_from (λ r. is_broken_alone s number (held_tree w r)) 0 rs ≡ position (is_broken_alone s number) (held_trees w rs)
breaking-held s w number rs =
    position-map (is_broken_alone s number) (λ r. is_broken_alone s number (held_tree w r)) (held_tree w) (λ r. refl) 0 rs
    ∙ sym (position_from-zero (is_broken_alone s number) (held_trees w rs))

-- by the numbers of what is declared
broken-alone : (y : Spec) (s : Scope) → IsScope y s → fault y ≡ None → (number : ℕ) (t : Tree) → is_broken_alone s number t ≡ breaks_alone y number t
broken-alone y s h kept number t = ap (λ o. option_eq nat_eq o (Some number)) (broken-nodes y s h kept (t ∷ []) _ _ refl refl)

abbrev broken_in : Spec → Option (List Tree) → Option ℕ
broken_in y o = elim o [ None ↦ Some 1 | Some ts ↦ broken_by_elements y ts ]

-- where the terms are these, and break this rule
pub element-first : (y : Spec) (t : Tree) (ts : List Tree) (number : ℕ) → elements t ≡ Some ts → Some number ≡ broken_by_terms y t
    → position (breaks_alone y number) ts ≡ broken_element y t
element-first y t ts number listed broken =
    let here : broken_by_elements y ts ≡ Some number = sym (ap (broken_in y) listed) ∙ sym broken in
    sym (ap (option_and_then (first_breaking y)) listed ∙ ap (option_and_then (λ n. position (breaks_alone y n) ts)) here)

-- the elements of a list without annotations are its items
elements-listed : (t : Tree) → is_some (elements t) ≡ true → elements t ≡ Some (to_list (items_of t))
elements-listed (Items items none) e = refl
elements-listed (Items items (more a as')) e = absurd (cc e)
elements-listed (Int z anns) e = absurd (cc e)
elements-listed (Appl name quoted args anns) e = absurd (cc e)
elements-listed (Hole inner anns) e = absurd (cc e)

-- what is found among a list's items
pub element-found : (y : Spec) (s : Scope) → IsScope y s → fault y ≡ None → (w : Store) (list : Term) (number : ℕ) (r : Result (Option ℕ) AllocError)
    → is_some (elements (held_tree w list)) ≡ true → Some number ≡ broken_by_terms y (held_tree w list)
    → IfOk r (λ o. o ≡ position (is_broken_alone s number) (to_list (items_of (held_tree w list))))
    → IfOk r (λ o. IfSome (tree_at w list) (λ t. o ≡ broken_element y t))
element-found y s h kept w list number (Err e) listed broken found = tt
element-found y s h kept w list number (Ok o) listed broken found =
    let t : Tree = held_tree w list in
    let ts : List Tree = to_list (items_of t) in
    if_held (λ u. o ≡ broken_element y u) (tree_at w list) (
    found
    ∙ (λ i. position (λ u. broken-alone y s h kept number u i) ts)
    ∙ element-first y t ts number (elements-listed t listed) broken
    )

-- ---- some element is told

abbrev ors : List Bool → List Bool → List Bool
ors (a ∷ as') (b ∷ bs) = (a || b) ∷ ors as' bs
ors _ _ = []

-- the first rule that two lists break together is the first of one of them
either_first : (k n : ℕ) (as' bs : List Bool) → first_passed k (ors as' bs) ≡ Some n → (first_passed k as' ≡ Some n) ⊎ (first_passed k bs ≡ Some n)
either_first k n [] bs e = absurd (cc e)
either_first k n (a ∷ as') [] e = absurd (cc e)
either_first k n (true ∷ as') (b ∷ bs) e = inl e
either_first k n (false ∷ as') (true ∷ bs) e = inr e
either_first k n (false ∷ as') (false ∷ bs) e = either_first (ℕ.suc k) n as' bs e

-- the tests of the rules 2 to 6
abbrev tests_of : Spec → List Tree → List Bool
tests_of y us =
    list_any is_no_application (flat_map nodes us)
    ∷ list_any is_annotated (flat_map (λ u. nodes_all (arguments u)) us)
    ∷ list_any (is_undeclared y) (flat_map nodes us)
    ∷ list_any (is_ill_filled y) (flat_map nodes us)
    ∷ list_any (is_ill_sorted y) (flat_map nodes us)
    ∷ []

joined : (p : Tree → Bool) (f : Tree → List Tree) (t : Tree) (ts : List Tree)
    → list_any p (flat_map f (t ∷ ts)) ≡ list_any p (flat_map f (t ∷ [])) || list_any p (flat_map f ts)
joined p f t ts =
    list_any-append p (f t) (flat_map f ts)
    ∙ ap (λ us. list_any p us || list_any p (flat_map f ts)) (sym (append-nil (f t)))

-- a rule that terms break is broken by the first of them alone, or by the others
first_or_others : (y : Spec) (n : ℕ) (t : Tree) (ts : List Tree) → broken_by_elements y (t ∷ ts) ≡ Some n
    → (broken_by_elements y (t ∷ []) ≡ Some n) ⊎ (broken_by_elements y ts ≡ Some n)
first_or_others y n t ts e = either_first 2 n (tests_of y (t ∷ [])) (tests_of y ts) (sym joint ∙ e)
  where
    joint : broken_by_elements y (t ∷ ts) ≡ first_passed 2 (ors (tests_of y (t ∷ [])) (tests_of y ts))
    joint =
        let one = joined is_no_application nodes t ts in
        let two = joined is_annotated (λ u. nodes_all (arguments u)) t ts in
        let three = joined (is_undeclared y) nodes t ts in
        let four = joined (is_ill_filled y) nodes t ts in
        let five = joined (is_ill_sorted y) nodes t ts in
        λ i. first_passed 2 (one i ∷ two i ∷ three i ∷ four i ∷ five i ∷ [])

same_number : (o : Option ℕ) (n : ℕ) → o ≡ Some n → option_eq nat_eq o (Some n) ≡ true
same_number o n e = ap (λ p. option_eq nat_eq p (Some n)) e ∙ search (rules, tests)

some_now : (b : Bool) (i : ℕ) (o : Option ℕ) → b ≡ true → IsSome (cond b (Some i) o)
some_now b i o e = ap (λ c. is_some (cond c (Some i) o)) e

some_later : (b : Bool) (i : ℕ) (o : Option ℕ) → IsSome o → IsSome (cond b (Some i) o)
some_later true i o s = refl
some_later false i o s = s

some_alone : (y : Spec) (n i : ℕ) (ts : List Tree) → broken_by_elements y ts ≡ Some n → IsSome (position_from (breaks_alone y n) i ts)
some_alone y n i [] e = absurd (cc e)
some_alone y n i (t ∷ ts) e =
    let others : Option ℕ = position_from (breaks_alone y n) (i + 1) ts in
    elim (first_or_others y n t ts e) [
      | inl first ↦ some_now (breaks_alone y n t) i others (same_number (broken_by_elements y (t ∷ [])) n first)
      | inr later ↦ some_later (breaks_alone y n t) i others (some_alone y n (i + 1) ts later)
    ]

-- the law: where elements break a rule, one of them breaks it alone
pub element_law : ElementLaw
element_law y t listed broken = by_elements (elements t) listed broken
  where
    by_rule : (o : Option ℕ) (ts : List Tree) → broken_by_elements y ts ≡ o → IsSome o → IsSome (option_and_then (λ n. position (breaks_alone y n) ts) o)
    by_rule None ts e s = absurd (cc s)
    by_rule (Some n) ts e s = ap is_some (position_from-zero (breaks_alone y n) ts) ∙ some_alone y n 0 ts e

    by_elements : (o : Option (List Tree)) → IsSome o → IsSome (broken_in y o) → IsSome (option_and_then (first_breaking y) o)
    by_elements None l b = absurd (cc l)
    by_elements (Some ts) l b = by_rule (broken_by_elements y ts) ts refl b

-- The items of the nodes of input terms that keep the rules are those of the terms.
use Rattle.std.proofs.Common.{refl, sym, ap, subst, ◌∙◌, arith}
use Rattle.std.proofs.lemmas.List.{map-append, reverse-append, take_all}
use Rattle.std.proofs.lemmas.Simd.{map-map}
use Rattle.std.proofs.lemmas.List.Elements.{All-nil, All-cons, All-push}
use Rattle.std.specs.Prelude.{ℕ, ◌≡◌, ◌||◌, is_none, Bool, true, false, List, [], ◌∷◌, ◌++◌, Option, Some}
use Rattle.std.specs.Prelude.{None, All, IfSome, ◌≤◌, length, map, take, flat_map, reverse, unwrap_or}
use Rattle.std.specs.List.{list_any}
use Rattle.std.proofs.lemmas.List.Folds.{list_any-append}
use Rattle.rx_term.specs.Tree.{Tree, Trees, Int, Appl, Items, Hole, none, more, count_of, to_list, items_of}
use Rattle.rx_term.specs.Store.{Store, tree_at}
use Rattle.rx_term.specs.declared.Term.{Term}
use Rattle.rx_term.specs.Walks.{held_tree, held_trees}
use Rattle.rec_syntax.specs.Syntax.{Declaration, Spec}
use Rattle.rec_sorts.specs.Lookup.{count}
use Rattle.rec_sorts.specs.Laws.{Every}
use Rattle.rec_sorts.specs.TermRules.{nodes, arguments, tree_symbol, is_undeclared, is_no_application, is_annotated, is_ill_filled}
use Rattle.rec_sorts.specs.TermRules.{is_ill_sorted, first_passed, nodes_all, elements, broken_by_elements, broken_by_terms}
use Rattle.rec_sorts.specs.Evaluation.{term_of, terms_of}
use Rattle.rec_sorts.specs.Numbering.{IsMeaning, name_of, Named, named, named_all, named_by, AreLetters, Pairwise}
use Rattle.rec_sorts.specs.Agreeing.{IsScope}
use Rattle.rec_sorts.specs.Walking.{backwards, backwards_all}
use Rattle.rec_sorts.specs.Inner.GivenTerms.{symbol_at, node_letter}
use Rattle.rec_sorts.specs.declared.letters.Letter.{Letter}
use Rattle.rec_sorts.specs.declared.letters.Meaning.{Meaning}
use Rattle.rec_sorts.specs.declared.letters.Meaning.TheVariants.{Symbol}
use Rattle.rec_sorts.specs.declared.scope.Scope.{Scope}
use Rattle.rec_sorts.proofs.WalkedLemmas.{held, any-backwards}
use Rattle.rec_sorts.proofs.GivenRuleLemmas.{stands}
use Rattle.rec_sorts.proofs.LetteringLemmas.{stands_for}

-- a node's name, and how many arguments it has
abbrev pub node_named : Tree → Named
node_named (Appl name quoted args anns) = record { name = name; arguments = count_of args }
node_named t = record { name = []; arguments = 0 }

reverse-cons : {X : Type 0} (x : X) (xs : List X) → reverse (x ∷ xs) ≡ reverse xs ++ x ∷ []
reverse-cons x xs = reverse-append (x ∷ []) xs

pub map-reverse : {X Y : Type 0} (f : X → Y) (xs : List X) → map f (reverse xs) ≡ reverse (map f xs)
map-reverse f [] = refl
map-reverse f (x ∷ xs) =
    ap (map f) (reverse-cons x xs)
    ∙ map-append f (reverse xs) (x ∷ [])
    ∙ ap (λ ys. ys ++ f x ∷ []) (map-reverse f xs)
    ∙ sym (reverse-cons (f x) (map f xs))

All-reverse : {X : Type 0} (P : X → Type 0) (xs : List X) → All P xs → All P (reverse xs)
All-reverse P [] h = h
All-reverse P (x ∷ xs) h = subst (All P) (sym (reverse-cons x xs))
    (All-push P (reverse xs) x (All-reverse P xs (λ k d l. h (ℕ.suc k) d (omega arith))) (h 0 x (omega arith)))

count-terms : (ts : Trees) → count (terms_of ts) ≡ count_of ts
count-terms none = refl
count-terms (more t ts) = omega (arith, count-terms ts)

mutual
  -- the names of a term are those of its nodes, the other way round
  pub named-backwards : (t : Tree) → reverse (map node_named (backwards t)) ≡ named (term_of t)
  named-backwards (Int z anns) = refl
  named-backwards (Appl name quoted args anns) =
      reverse-cons (record { name = name; arguments = count_of args }) (map node_named (backwards_all args))
      ∙ ap (λ (ns : List Named). ns ++ record { name = name; arguments = count_of args } ∷ []) (named-backwards_all args)
      ∙ ap (λ (n : ℕ). named_all (terms_of args) ++ record { name = name; arguments = n } ∷ []) (sym (count-terms args))
  named-backwards (Items items anns) = refl
  named-backwards (Hole inner anns) = refl

  named-backwards_all : (ts : Trees) → reverse (map node_named (backwards_all ts)) ≡ named_all (terms_of ts)
  named-backwards_all none = refl
  named-backwards_all (more t ts) =
      ap reverse (map-append node_named (backwards_all ts) (backwards t))
      ∙ reverse-append (map node_named (backwards_all ts)) (map node_named (backwards t))
      ∙ ap (λ (ns : List Named). ns ++ reverse (map node_named (backwards_all ts))) (named-backwards t)
      ∙ ap (λ (ns : List Named). named (term_of t) ++ ns) (named-backwards_all ts)

-- no element passes
none_passes : {X : Type 0} (p : X → Bool) (xs : List X) → list_any p xs ≡ false → Every (λ x. p x ≡ false) xs
none_passes p [] e = tt
none_passes p (x ∷ xs) e = by_test (p x) refl e (λ k. none_passes p xs k)
  where
    by_test : (b : Bool) → p x ≡ b → b || list_any p xs ≡ false → (list_any p xs ≡ false → Every (λ x. p x ≡ false) xs)
        → (p x ≡ false) × Every (λ x. p x ≡ false) xs
    by_test true is e later = absurd (cc e)
    by_test false is e later = (is, later e)

module _ (y : Spec) (s : Scope) (h : IsScope y s) where
  -- the item of a node that represents a symbol
  pub letter-node : (t : Tree) (d : Declaration) → tree_symbol y t ≡ Some d
      → IsMeaning y (node_letter s t).meaning × (named_by y (node_letter s t) ≡ node_named t)
  letter-node (Int z anns) d e = absurd (cc e)
  letter-node (Items items anns) d e = absurd (cc e)
  letter-node (Hole inner anns) d e = absurd (cc e)
  letter-node (Appl name quoted args anns) d e =
      let t : Tree = Appl name quoted args anns in
      let f = stands y s h t d e in
      let m = stands_for y s h name (ap is_none (sym f.same ∙ f.numbered)) in
      let meant : unwrap_or (symbol_at s t) (Symbol 0) ≡ m.meaning = ap (λ (o : Option Meaning). unwrap_or o (Symbol 0)) (f.same ∙ m.stands) in
      (subst (IsMeaning y) (sym meant) m.there, ap (λ (b : List ℕ). record { name = b; arguments = count_of args }) (ap (name_of y) meant ∙ m.named_so))

  abbrev undeclared_by : Option Declaration → Bool
  undeclared_by o = elim o [ Some d ↦ false | None ↦ true ]

  letter-declared : (t : Tree) → is_undeclared y t ≡ false → IsMeaning y (node_letter s t).meaning × (named_by y (node_letter s t) ≡ node_named t)
  letter-declared t e = by_symbol (tree_symbol y t) refl e
    where
      by_symbol : (o : Option Declaration) → tree_symbol y t ≡ o → undeclared_by o ≡ false
          → IsMeaning y (node_letter s t).meaning × (named_by y (node_letter s t) ≡ node_named t)
      by_symbol (Some d) is e = letter-node t d is
      by_symbol None is e = absurd (cc e)

  letters-nodes : (ts : List Tree) → Every (λ t. is_undeclared y t ≡ false) ts
      → All (λ l. IsMeaning y l.meaning) (map (node_letter s) ts) × (map (named_by y) (map (node_letter s) ts) ≡ map node_named ts)
  letters-nodes [] k = (All-nil (λ (l : Letter). IsMeaning y l.meaning), refl)
  letters-nodes (t ∷ ts) k =
      let one = letter-declared t k.0 in
      let rest = letters-nodes ts k.1 in (
        All-cons (λ (l : Letter). IsMeaning y l.meaning) (node_letter s t) (map (node_letter s) ts) one.0 rest.0,
        ap (λ (n : Named). n ∷ map (named_by y) (map (node_letter s) ts)) one.1 ∙ ap (λ (ns : List Named). node_named t ∷ ns) rest.1,
      )

  -- the items of a term whose nodes are declared
  letters-term : (t : Tree) (ls : List Letter) → list_any (is_undeclared y) (nodes t) ≡ false → ls ≡ reverse (map (node_letter s) (backwards t))
      → AreLetters y ls (term_of t)
  letters-term t ls known e =
      let all = letters-nodes (backwards t) (none_passes (is_undeclared y) (backwards t) (any-backwards (is_undeclared y) t ∙ known)) in
      subst (λ (xs : List Letter). AreLetters y xs (term_of t)) (sym e) (
        All-reverse (λ (l : Letter). IsMeaning y l.meaning) (map (node_letter s) (backwards t)) all.0,
        map-reverse (named_by y) (map (node_letter s) (backwards t)) ∙ ap reverse all.1 ∙ named-backwards t,
      )

  or_false : (a b : Bool) → a || b ≡ false → (a ≡ false) × (b ≡ false)
  or_false false b e = (refl, e)
  or_false true b e = absurd (cc e)

  -- those of some terms
  pub letters-terms : {V : Type 0} (items : V → List Letter) (vs : List V) (ts : List Tree) → list_any (is_undeclared y) (flat_map nodes ts) ≡ false
      → map items vs ≡ map (λ t. reverse (map (node_letter s) (backwards t))) ts
      → Pairwise (λ v t. AreLetters y (items v) (term_of t)) vs ts
  letters-terms items [] [] known e = tt
  letters-terms items [] (t ∷ ts) known e = absurd (cc e)
  letters-terms items (v ∷ vs) [] known e = absurd (cc e)
  letters-terms items (v ∷ vs) (t ∷ ts) known e =
      let each = or_false (list_any (is_undeclared y) (nodes t)) (list_any (is_undeclared y) (flat_map nodes ts))
      (sym (list_any-append (is_undeclared y) (nodes t) (flat_map nodes ts)) ∙ known) in
      let first : items v ≡ reverse (map (node_letter s) (backwards t)) = cc e in
      let others : map items vs ≡ map (λ u. reverse (map (node_letter s) (backwards u))) ts = cc e in
      (letters-term t (items v) each.0 first, letters-terms items vs ts each.1 others)

-- if no test passes, the third does not
third_failed : (a b c d e : Bool) → first_passed 2 (a ∷ b ∷ c ∷ d ∷ e ∷ []) ≡ None → c ≡ false
third_failed true b c d e h = absurd (cc h)
third_failed false true c d e h = absurd (cc h)
third_failed false false true d e h = absurd (cc h)
third_failed false false false d e h = refl

-- the nodes of terms that keep the rules are declared
pub kept-declared : (y : Spec) (ts : List Tree) → broken_by_elements y ts ≡ None → list_any (is_undeclared y) (flat_map nodes ts) ≡ false
kept-declared y ts e =
    let all : List Tree = flat_map nodes ts in
    let inner : List Tree = flat_map (λ t. nodes_all (arguments t)) ts in
    third_failed (list_any is_no_application all) (list_any is_annotated inner) (list_any (is_undeclared y) all) (list_any (is_ill_filled y) all)
    (list_any (is_ill_sorted y) all) e

-- the items of the nodes that a walk found
pub letters-walked : (s : Scope) (w : Store) (found items : List Term) (term : Term) (ls : List Letter) (i : ℕ)
    → ls ≡ map (λ r. node_letter s (held_tree w r)) (take i items) → length items ≤ i → items ≡ found
    → held_trees w found ≡ backwards (held_tree w term) → ls ≡ map (node_letter s) (backwards (held_tree w term))
letters-walked s w found items term ls i read past same trees =
    read
    ∙ ap (map (λ r. node_letter s (held_tree w r))) (take_all i items past ∙ same)
    ∙ sym (map-map (node_letter s) (held_tree w) found)
    ∙ ap (map (node_letter s)) trees

-- the elements of a list are its items
elements-items_of : (t : Tree) (ts : List Tree) → elements t ≡ Some ts → to_list (items_of t) ≡ ts
elements-items_of (Items items none) ts e = cc e
elements-items_of (Items items (more a as')) ts e = absurd (cc e)
elements-items_of (Int z anns) ts e = absurd (cc e)
elements-items_of (Appl name quoted args anns) ts e = absurd (cc e)
elements-items_of (Hole inner anns) ts e = absurd (cc e)

abbrev broken_in : Spec → Option (List Tree) → Option ℕ
broken_in y o = elim o [ None ↦ Some 1 | Some ts ↦ broken_by_elements y ts ]

broken-listed : (y : Spec) (t : Tree) (ts : List Tree) → elements t ≡ Some ts → broken_by_terms y t ≡ None → broken_by_elements y ts ≡ None
broken-listed y t ts e h = sym (ap (broken_in y) e) ∙ h

-- the items of a list's terms
pub letters-listed : (y : Spec) (s : Scope) → IsScope y s → (w : Store) (list : Term) {V : Type 0} (letters_of : V → List Letter) (vs : List V)
    (items : List Term) → IfSome (tree_at w list) (λ t. broken_by_terms y t ≡ None)
    → map letters_of vs ≡ map (λ r. reverse (map (node_letter s) (backwards (held_tree w r)))) items
    → held_trees w items ≡ to_list (items_of (held_tree w list))
    → (t : Tree) (ts : List Tree) → tree_at w list ≡ Some t → elements t ≡ Some ts → Pairwise (λ v u. AreLetters y (letters_of v) (term_of u)) vs ts
letters-listed y s h w list letters_of vs items kept read trees t ts here is =
    let whole : held_tree w list ≡ t = held w list t here in
    let listed : held_trees w items ≡ ts = trees ∙ ap (λ u. to_list (items_of u)) whole ∙ elements-items_of t ts is in
    let unbroken : broken_by_terms y t ≡ None = subst (λ o. IfSome o (λ u. broken_by_terms y u ≡ None)) here kept in
    letters-terms y s h letters_of vs ts (kept-declared y ts (broken-listed y t ts is unbroken))
    (read
    ∙ sym (map-map (λ u. reverse (map (node_letter s) (backwards u))) (held_tree w) items)
    ∙ ap (map (λ u. reverse (map (node_letter s) (backwards u)))) listed)

-- What holds of given terms that keep the rules, and of the list that a bank holds of them.
use Rattle.std.proofs.Common.{◌≡◌, ℕ, zero, suc, ◌<◌, Bool, true, false, ◌||◌, ◌&&◌, List, [], ◌∷◌, ◌++◌}
use Rattle.std.proofs.Common.{Option, Some, None, get_or, drop, length, refl, sym, ap, ◌∙◌, arith}
use Rattle.std.specs.Prelude.{All, unwrap_or}
use Rattle.std.specs.List.{list_any}
use Rattle.std.proofs.lemmas.List.Folds.{list_any-append}
use Rattle.rx_term.specs.Tree.{Tree, Int, Appl, Items, Hole, none, more, annotations, is_i32, is_tree, are_trees, from_list, to_list, list_of}
use Rattle.rx_term.specs.Name.{is_name}
use Rattle.rx_term.specs.Store.{Store, tree_at}
use Rattle.rx_term.specs.declared.Term.{Term as Reference}
use Rattle.rx_term.proofs.TreeLemmas.{from_to_list}
use Rattle.rx_text.proofs.CuttingLemmas.{and_parts}
use Rattle.rec_syntax.specs.Syntax.{Spec}
use Rattle.rec_sorts.specs.TermRules.{elements, first_passed, broken_by_elements, broken_by_terms}
use Rattle.rec_run.specs.GivenTerms.{HoldsTerms, given_at}

either_false : (a b : Bool) → a || b ≡ false → (a ≡ false) × (b ≡ false)
either_false true b e = absurd (cc e)
either_false false b e = (refl, e)

pub any_parts : {X : Type 0} (p : X → Bool) (xs ys : List X) → list_any p (xs ++ ys) ≡ false → (list_any p xs ≡ false) × (list_any p ys ≡ false)
any_parts p xs ys e = either_false (list_any p xs) (list_any p ys) (sym (list_any-append p xs ys) ∙ e)

-- the rule is not the one that is broken, nor is any before it
pub not_passed : (n : ℕ) (b : Bool) (bs : List Bool) → first_passed n (b ∷ bs) ≡ None → (b ≡ false) × (first_passed (suc n) bs ≡ None)
not_passed n true bs e = absurd (cc e)
not_passed n false bs e = (refl, e)

-- the element where the rest of a list begins
pub got_at : (us : List Tree) (i : ℕ) (u : Tree) (vs : List Tree) (d : Tree) → drop i us ≡ u ∷ vs → (i < length us) × (get_or us i d ≡ u)
got_at [] zero u vs d e = absurd (cc e)
got_at [] (suc i) u vs d e = absurd (cc e)
got_at (t ∷ us) zero u vs d e = (omega arith, cc e)
got_at (t ∷ us) (suc i) u vs d e = let k = got_at us i u vs d e in (omega (arith, k.0), k.1)

pub all_trees : (us : List Tree) → are_trees (from_list us) ≡ true → All (λ u. is_tree u ≡ true) us
all_trees [] h k d low = absurd (let no : ⊥ = omega arith in no)
all_trees (u ∷ us) h zero d low = (and_parts (is_tree u) (are_trees (from_list us)) h).0
all_trees (u ∷ us) h (suc k) d low = all_trees us (and_parts (is_tree u) (are_trees (from_list us)) h).1 k d (omega arith)

pub annotations_trees : (u : Tree) → is_tree u ≡ true → are_trees (annotations u) ≡ true
annotations_trees (Int z anns) h = (and_parts (is_i32 z) (are_trees anns) h).1
annotations_trees (Appl name quoted args anns) h = (and_parts (is_name name quoted && are_trees args) (are_trees anns) h).1
annotations_trees (Items items anns) h = (and_parts (are_trees items) (are_trees anns) h).1
annotations_trees (Hole inner anns) h = (and_parts (is_tree inner) (are_trees anns) h).1

-- a list is what its elements say
pub list_elements : (t : Tree) (us : List Tree) → elements t ≡ Some us → t ≡ list_of (from_list us)
list_elements (Items items none) us e = let same : to_list items ≡ us = cc e in ap list_of (sym (from_to_list items) ∙ ap from_list same)
list_elements (Items items (more a as')) us e = absurd (cc e)
list_elements (Int z anns) us e = absurd (cc e)
list_elements (Appl name quoted args anns) us e = absurd (cc e)
list_elements (Hole inner anns) us e = absurd (cc e)

-- the elements of a tree that keeps the rules
pub kept_elements : (y : Spec) (t : Tree) → broken_by_terms y t ≡ None → (us : List Tree) × (elements t ≡ Some us) × (broken_by_elements y us ≡ None)
kept_elements y t e = by (elements t) refl e
  where
    by : (o : Option (List Tree)) → elements t ≡ o → ◌≡◌ {A = Option ℕ} (elim o [ None ↦ Some 1 | Some us ↦ broken_by_elements y us ]) None
        → (us : List Tree) × (elements t ≡ Some us) × (broken_by_elements y us ≡ None)
    by None is h = absurd (cc h)
    by (Some us) is h = (us, is, h)

-- they are the items of the list of the reference
pub given_elements : (w : Store) (list : Reference) (t : Tree) (us : List Tree) → tree_at w list ≡ Some t → elements t ≡ Some us → given_at w list ≡ us
given_elements w list t us here e = ap (λ o. unwrap_or (elements (unwrap_or o (list_of none))) []) here ∙ ap (λ o. unwrap_or o []) e

-- terms that keep the rules
pub holds_terms : (y : Spec) (w : Store) (list : Reference) (t : Tree) → tree_at w list ≡ Some t → broken_by_terms y t ≡ None → HoldsTerms y w list
holds_terms y w list t here kept =
    let found = kept_elements y t kept in
    let same : found.0 ≡ given_at w list = sym (given_elements w list t found.0 here found.1) in
    record {
      held = here ∙ ap Some (list_elements t found.0 found.1) ∙ ap (λ us. Some (list_of (from_list us))) same;
      kept = ap (broken_by_elements y) (sym same) ∙ found.2;
    }

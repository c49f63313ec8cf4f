-- Given terms that are taken out of a bank.
use Rattle.std.proofs.Common.{refl, sym, ap, subst, ◌∙◌, arith, append-nil}
use Rattle.std.specs.Prelude.{ℕ, zero, suc, ◌≡◌, ◌+◌, ◌<◌, Bool, false, List, [], ◌∷◌, ◌++◌, Some, None, drop, flat_map, get_or, length, take, unwrap_or}
use Rattle.std.specs.Option.{option_and_then}
use Rattle.std.specs.List.{list_any}
use Rattle.rx_term.specs.Tree.{Tree, annotations, from_list, list_of, more, none}
use Rattle.rx_term.specs.Store.{Store, head_of, part_at, tail_of, tree_at}
use Rattle.rx_term.specs.declared.Term.{Term as Reference}
use Rattle.rec_syntax.specs.Syntax.{Spec}
use Rattle.rec_sorts.specs.TermRules.{arguments, broken_by_elements, first_passed, is_annotated, is_ill_filled}
use Rattle.rec_sorts.specs.TermRules.{is_ill_sorted, is_no_application, is_undeclared, nodes, nodes_all}
use Rattle.rec_engine.specs.Engine.{IsGround}
use Rattle.std.proofs.lemmas.List.{take_more}
use Rattle.std.specs.Prelude.{Vec}
use Rattle.std.specs.declared.alloc.Global.{Global}
use Rattle.rx_term.proofs.TreeLemmas.{to_from_list}
use Rattle.rec_sorts.specs.Evaluation.{term_of}
use Rattle.rec_sorts.specs.Numbering.{AreLetters, Pairwise}
use Rattle.rec_sorts.specs.TermRules.{elements}
use Rattle.rec_sorts.specs.declared.letters.Letter.{Letter}
use Rattle.rec_engine.specs.Engine.{Spells}
use Rattle.rec_run.specs.Output.{notes_text}
use Rattle.rec_trace_run.specs.Inner.Telling.{AreGivenTerms, HasNotes}
use Rattle.rec_trace_run.specs.declared.given.GivenTerms.{GivenTerms}
use Rattle.rec_trace_run.proofs.TaskLemmas.{pairwise-at, pairwise-length, pairwise-push}
use Rattle.rec_run.proofs.GivenLemmas.{any_parts, not_passed}
use Rattle.rec_run.specs.GivenTerms.{item_at}

-- ---- each term is ground

-- no rule is broken
record KeepsAll (y : Spec) (us : List Tree) : Type 0 where
  applications : list_any is_no_application (flat_map nodes us) ≡ false
  plain : list_any is_annotated (flat_map (λ u. nodes_all (arguments u)) us) ≡ false
  declared : list_any (is_undeclared y) (flat_map nodes us) ≡ false
  filled : list_any (is_ill_filled y) (flat_map nodes us) ≡ false
  sorted : list_any (is_ill_sorted y) (flat_map nodes us) ≡ false

keeps-all : (y : Spec) (us : List Tree) → broken_by_elements y us ≡ None → KeepsAll y us
keeps-all y us e =
    let inner = list_any is_annotated (flat_map (λ u. nodes_all (arguments u)) us) in
    let undeclared = list_any (is_undeclared y) (flat_map nodes us) in
    let ill_filled = list_any (is_ill_filled y) (flat_map nodes us) in
    let ill_sorted = list_any (is_ill_sorted y) (flat_map nodes us) in
    let second = not_passed 2 (list_any is_no_application (flat_map nodes us)) (inner ∷ undeclared ∷ ill_filled ∷ ill_sorted ∷ []) e in
    let third = not_passed 3 inner (undeclared ∷ ill_filled ∷ ill_sorted ∷ []) second.1 in
    let fourth = not_passed 4 undeclared (ill_filled ∷ ill_sorted ∷ []) third.1 in
    let fifth = not_passed 5 ill_filled (ill_sorted ∷ []) fourth.1 in
    record { applications = second.0; plain = third.0; declared = fourth.0; filled = fifth.0; sorted = (not_passed 6 ill_sorted [] fifth.1).0 }

none-broken : (y : Spec) (us : List Tree) → KeepsAll y us → broken_by_elements y us ≡ None
none-broken y us k =
    let a = k.applications in
    let b = k.plain in
    let c = k.declared in
    let d = k.filled in
    let e = k.sorted in
    λ i. first_passed 2 (a i ∷ b i ∷ c i ∷ d i ∷ e i ∷ [])

first-none : (p : Tree → Bool) (f : Tree → List Tree) (u : Tree) (us : List Tree) → list_any p (flat_map f (u ∷ us)) ≡ false
    → list_any p (flat_map f (u ∷ [])) ≡ false
first-none p f u us e = ap (list_any p) (append-nil (f u)) ∙ (any_parts p (f u) (flat_map f us) e).0

others-none : (p : Tree → Bool) (f : Tree → List Tree) (u : Tree) (us : List Tree) → list_any p (flat_map f (u ∷ us)) ≡ false
    → list_any p (flat_map f us) ≡ false
others-none p f u us e = (any_parts p (f u) (flat_map f us) e).1

first-ground : (y : Spec) (u : Tree) (us : List Tree) → KeepsAll y (u ∷ us) → IsGround y u
first-ground y u us k = none-broken y (u ∷ []) (record {
  applications = first-none is_no_application nodes u us k.applications;
  plain = first-none is_annotated (λ t. nodes_all (arguments t)) u us k.plain;
  declared = first-none (is_undeclared y) nodes u us k.declared;
  filled = first-none (is_ill_filled y) nodes u us k.filled;
  sorted = first-none (is_ill_sorted y) nodes u us k.sorted;
})

others-keep : (y : Spec) (u : Tree) (us : List Tree) → KeepsAll y (u ∷ us) → KeepsAll y us
others-keep y u us k = record {
  applications = others-none is_no_application nodes u us k.applications;
  plain = others-none is_annotated (λ t. nodes_all (arguments t)) u us k.plain;
  declared = others-none (is_undeclared y) nodes u us k.declared;
  filled = others-none (is_ill_filled y) nodes u us k.filled;
  sorted = others-none (is_ill_sorted y) nodes u us k.sorted;
}

ground-at : (y : Spec) (us : List Tree) (i : ℕ) (d : Tree) → KeepsAll y us → i < length us → IsGround y (get_or us i d)
ground-at y [] i d k low = absurd (omega (arith, low))
ground-at y (u ∷ us) zero d k low = first-ground y u us k
ground-at y (u ∷ us) (suc i) d k low = ground-at y us i d (others-keep y u us k) (omega (arith, low))

pub each-ground : (y : Spec) (us : List Tree) (i : ℕ) (d : Tree) → broken_by_elements y us ≡ None → i < length us → IsGround y (get_or us i d)
each-ground y us i d e low = ground-at y us i d (keeps-all y us e) low

-- ---- an item of a list, and what is behind it

dropped : (us : List Tree) (i : ℕ) (d : Tree) → i < length us → drop i us ≡ get_or us i d ∷ drop (i + 1) us
dropped [] i d low = absurd (omega (arith, low))
dropped (u ∷ us) zero d low = refl
dropped (u ∷ us) (suc i) d low = dropped us i d (omega (arith, low))
    ∙ ap (λ n. get_or us i d ∷ drop n (u ∷ us)) (let k : suc (i + 1) ≡ suc i + 1 = omega arith in k)

module _ (w : Store) (us : List Tree) (rest : Reference) (i : ℕ) (d : Tree) (low : i < length us)
    (here : tree_at w rest ≡ Some (list_of (from_list (drop i us)))) where
  there : tree_at w rest ≡ Some (list_of (more (get_or us i d) (from_list (drop (i + 1) us))))
  there = here ∙ ap (λ ts. Some (list_of (from_list ts))) (dropped us i d low)

  pub first-item : part_at head_of w rest ≡ Some (get_or us i d)
  first-item = ap (option_and_then head_of) there

  pub other-items : part_at tail_of w rest ≡ Some (list_of (from_list (drop (i + 1) us)))
  other-items = ap (option_and_then tail_of) there

pub item-is : (w : Store) (t : Reference) (u : Tree) → tree_at w t ≡ Some u → item_at w t ≡ u
item-is w t u e = ap (λ o. unwrap_or o (list_of none)) e

-- ---- given terms by their numbers

pub given-low : (y : Spec) (us : List Tree) (t : GivenTerms) (i : ℕ) → AreGivenTerms y us t → i < length t.letters.items → i < length us
given-low y us t i h low = subst (λ k. i < k) (pairwise-length (λ (ls : Vec Letter Global) (u : Tree). AreLetters y ls.items (term_of u))
    t.letters.items us h.letters) low

pub given-long : (y : Spec) (us : List Tree) (t : GivenTerms) → AreGivenTerms y us t → length us ≡ length t.letters.items
given-long y us t h = sym (pairwise-length (λ (ls : Vec Letter Global) (u : Tree). AreLetters y ls.items (term_of u)) t.letters.items us h.letters)

pub notes-long : (y : Spec) (us : List Tree) (t : GivenTerms) → AreGivenTerms y us t → length t.notes.items ≡ length t.letters.items
notes-long y us t h = pairwise-length HasNotes t.notes.items us h.notes ∙ given-long y us t h

pub given-spells : (y : Spec) (us : List Tree) (t : GivenTerms) (i : ℕ) (v : Vec Letter Global) (letters : List Letter) (d : Tree)
    → AreGivenTerms y us t → i < length t.letters.items → v ≡ get_or t.letters.items i v → letters ≡ v.items → Spells y letters (get_or us i d)
given-spells y us t i v letters d h low is all =
    let at = pairwise-at (λ (ls : Vec Letter Global) (u : Tree). AreLetters y ls.items (term_of u)) t.letters.items us i v d h.letters low in
    record {
      letters = subst (λ ls. AreLetters y ls (term_of (get_or us i d))) (sym all)
          (subst (λ (x : Vec Letter Global). AreLetters y x.items (term_of (get_or us i d))) (sym is) at);
      is_ground = each-ground y us i d h.kept (given-low y us t i h low);
    }

pub given-notes : (y : Spec) (us : List Tree) (t : GivenTerms) (i : ℕ) (v : Vec ℕ Global) (notes : List ℕ) (d : Tree) → AreGivenTerms y us t
    → i < length t.letters.items → v ≡ get_or t.notes.items i v → notes ≡ v.items → notes ≡ notes_text (annotations (get_or us i d))
given-notes y us t i v notes d h low is all =
    let there = subst (λ k. i < k) (sym (notes-long y us t h)) low in
    all ∙ subst (λ (x : Vec ℕ Global). HasNotes x (get_or us i d)) (sym is) (pairwise-at HasNotes t.notes.items us i v d h.notes there)

pub no-notes : (us : List Tree) → Pairwise HasNotes [] (take 0 us)
no-notes [] = tt
no-notes (u ∷ us) = tt

pub notes-more : (w : Store) (us : List Tree) (i : ℕ) (r : Reference) (old new : List (Vec ℕ Global)) (text : Vec ℕ Global) → i < length us
    → tree_at w r ≡ Some (get_or us i (list_of none)) → new ≡ old ++ text ∷ [] → text.items ≡ notes_text (annotations (item_at w r))
    → Pairwise HasNotes old (take i us) → Pairwise HasNotes new (take (i + 1) us)
notes-more w us i r old new text low there pushed is h =
    let u = get_or us i (list_of none) in
    let own : HasNotes text u = is ∙ ap (λ t. notes_text (annotations t)) (item-is w r u there) in
    subst (λ xs. Pairwise HasNotes xs (take (i + 1) us)) (sym pushed)
    (subst (λ ts. Pairwise HasNotes (old ++ text ∷ []) ts) (sym (take_more us i (list_of none) low)) (pairwise-push HasNotes old (take i us) text u h own))

pub elements-listed : (us : List Tree) → elements (list_of (from_list us)) ≡ Some us
elements-listed us = ap (λ (ts : List Tree). Some ts) (to_from_list us)

-- The texts of terms without annotations, and their beginnings.
use Rattle.std.proofs.Common.{◌≡◌, ℕ, ◌-◌, ◌≤◌, ◌<◌, inl, inr, false, List, [], ◌∷◌, ◌++◌, Option, Some, None, IsSome}
use Rattle.std.proofs.Common.{refl, sym, ap, subst, ◌∙◌, arith, append-nil, length, length-append, take, zero, suc}
use Rattle.std.specs.Prelude.{codes, nat_le, unwrap_or}
use Rattle.std.specs.Option.{option_and_then}
use Rattle.std.proofs.lemmas.Bool.{lt-leb}
use Rattle.std.proofs.lemmas.Bool.Decides.{leb_tells}
use Rattle.rx_term.specs.Kinds.{HasAnns}
use Rattle.rx_term.specs.Store.{Store, anns_of, list_unless_empty, tree_at}
use Rattle.rx_term.specs.Tree.{Tree, Trees, Int, Appl, Items, Hole, annotated, annotations, list_of, more, none}
use Rattle.rx_term.specs.Walks.{held_tree}
use Rattle.rx_term.specs.declared.Term.{Term}
use Rattle.rx_text.specs.Canon.{canon}
use Rattle.rec_run.specs.Output.{notes_text}
use Rattle.rec_run.proofs.SpecLineLemmas.{canon_annotated}
use Rattle.rec_trace.specs.Lines.{cut}
use Rattle.rec_stuck.specs.Inner.Calls.{Begins}
use Rattle.rec_stuck.specs.Stuck.{bare_of}

bare-none : (u : Tree) → annotations (bare_of u) ≡ none
bare-none (Int z anns) = refl
bare-none (Appl name quoted args anns) = refl
bare-none (Items items anns) = refl
bare-none (Hole inner anns) = refl

with-own : (u : Tree) → annotated (bare_of u) (annotations u) ≡ u
with-own (Int z anns) = refl
with-own (Appl name quoted args anns) = refl
with-own (Items items anns) = refl
with-own (Hole inner anns) = refl

both-texts : (u : Tree) → canon u ≡ canon (bare_of u) ++ notes_text (annotations u)
both-texts u = ap canon (sym (with-own u)) ∙ canon_annotated (bare_of u) (annotations u) (bare-none u)

take-front : (xs ys : List ℕ) (n : ℕ) → n ≡ length xs → take n (xs ++ ys) ≡ xs
take-front [] ys n e = rw e refl
take-front (x ∷ xs) ys zero e = absurd (let no : ⊥ = omega (arith, e) in no)
take-front (x ∷ xs) ys (suc n) e = ap (λ z. x ∷ z) (take-front xs ys n (omega (arith, e)))

-- a text but for its annotations
pub without-notes : (u : Tree) (text notes rest : List ℕ) (n : ℕ) → text ≡ canon u → notes ≡ notes_text (annotations u)
    → n ≡ length text - length notes → rest ≡ take n text → rest ≡ canon (bare_of u)
without-notes u text notes rest n is are long front =
    let bare = canon (bare_of u) in
    let more = notes_text (annotations u) in
    let whole : text ≡ bare ++ more = is ∙ both-texts u in
    let a = ap length whole ∙ length-append bare more in
    let b = ap length are in
    front ∙ ap (take n) whole ∙ take-front bare more n (omega (arith, a, b, long))

-- a tree without annotations
bare-same : (u : Tree) → annotations u ≡ none → bare_of u ≡ u
bare-same u e = sym (ap (annotated u) e) ∙ again u
  where
    again : (u : Tree) → annotated u (annotations u) ≡ u
    again (Int z anns) = refl
    again (Appl name quoted args anns) = refl
    again (Items items anns) = refl
    again (Hole inner anns) = refl

no-notes : (ts : Trees) → list_unless_empty ts ≡ None → ts ≡ none
no-notes none e = refl
no-notes (more t ts) e = absurd (cc e)

pub begins-bare : (w : Store) (t : Term) (text : List ℕ) → IsSome (tree_at w t) → HasAnns w t None → Begins (held_tree w t) text
    → Begins (bare_of (held_tree w t)) text
begins-bare w t text held anns h = subst (λ u. Begins u text) (sym (bare-same (held_tree w t) (of (tree_at w t) held anns))) h
  where
    of : (o : Option Tree) → IsSome o → option_and_then anns_of o ≡ None → annotations (unwrap_or o (list_of none)) ≡ none
    of None held e = refl
    of (Some u) held e = no-notes (annotations u) e

pub begins-whole : (u : Tree) (text : List ℕ) → text ≡ canon u → Begins u text
begins-whole u text e = record { front = ([], sym e ∙ sym (append-nil text)); whole = λ short. e }

-- a beginning is cut as the whole text is
take-both : (xs ys : List ℕ) (n : ℕ) → n ≤ length xs → take n (xs ++ ys) ≡ take n xs
take-both xs ys zero le = refl
take-both [] ys (suc n) le = absurd (let no : ⊥ = omega (arith, le) in no)
take-both (x ∷ xs) ys (suc n) le = ap (λ z. x ∷ z) (take-both xs ys n (omega (arith, le)))

pub cut-begins : (u : Tree) (text : List ℕ) → Begins u text → cut (Some 60) text ≡ cut (Some 60) (canon u)
cut-begins u text h = elim (leb_tells (length text) 60) [
  | inl q ↦ ap (cut (Some 60)) (h.whole q.1)
  | inr q ↦ by q.0 q.1
]
  where
    by : nat_le (length text) 60 ≡ false → 60 < length text → cut (Some 60) text ≡ cut (Some 60) (canon u)
    by e above =
        let rest = h.front.0 in
        let whole = h.front.1 in
        let long = ap length whole ∙ length-append text rest in
        let other : nat_le (length (canon u)) 60 ≡ false = lt-leb (length (canon u)) 60 (omega (arith, long, above)) in
        let same : take 57 text ≡ take 57 (canon u) = sym (ap (take 57) whole ∙ take-both text rest 57 (omega (arith, above))) in
        rw (e, other) (ap (λ z. z ++ codes "...") same)

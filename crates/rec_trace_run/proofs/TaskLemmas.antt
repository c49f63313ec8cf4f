-- The traces of terms, one behind the other.
use Rattle.std.proofs.Common.{refl, sym, ap, ap₂, subst, ◌∙◌, arith, append-nil, take_all, take-append-drop}
use Rattle.std.proofs.lemmas.List.{take_more}
use Rattle.std.proofs.lemmas.List.Concat.{flat_map-append}
use Rattle.std.proofs.lemmas.List.Folds.{flat_map-map}
use Rattle.std.specs.Prelude.{ℕ, zero, suc, ◌≡◌, ◌+◌, ◌<◌, ◌≤◌, List, [], ◌∷◌, ◌++◌, Option, drop, flat_map, get_or, length, map, take}
use Rattle.rx_term.specs.Tree.{Tree, none}
use Rattle.rec_syntax.specs.Syntax.{Spec, Term}
use Rattle.rec_sorts.specs.Numbering.{Pairwise}
use Rattle.rec_run.specs.Choice.{given_chosen, own_chosen}
use Rattle.rec_run.specs.Output.{Task, chosen}
use Rattle.rec_run.proofs.ChoiceLemmas.{chosen-alone, chosen-parts, own}
use Rattle.rec_trace.specs.Lines.{joined}
use Rattle.rx_run.specs.declared.ending.RunFault.{RunFault}
use Rattle.rec_trace_run.specs.Inner.Pages.{Breaks, Prints}
use Rattle.rec_trace_run.specs.declared.page.Page.{Page}
use Rattle.rec_trace_run.specs.Inner.Telling.{given_traces}
use Rattle.rec_run.specs.Output.{given_task}
use Rattle.rec_trace_run.specs.Traces.{Shown, task_lines, task_text, traces}
use Rattle.rec_trace_run.proofs.PageLemmas.{breaks-before, breaks-behind, prints-both}

-- ---- texts of items, one behind the other

flat-more : {X : Type 0} (f : X → List ℕ) (xs : List X) (i : ℕ) (d : X) → i < length xs
    → flat_map f (take (i + 1) xs) ≡ flat_map f (take i xs) ++ f (get_or xs i d)
flat-more f xs i d h = ap (flat_map f) (take_more xs i d h) ∙ flat_map-append f (take i xs) (get_or xs i d ∷ [])
    ∙ ap (λ z. flat_map f (take i xs) ++ z) (append-nil (f (get_or xs i d)))

flat-split : {X : Type 0} (f : X → List ℕ) (xs : List X) (k : ℕ) → flat_map f xs ≡ flat_map f (take k xs) ++ flat_map f (drop k xs)
flat-split f xs k = ap (flat_map f) (sym (take-append-drop k xs)) ∙ flat_map-append f (take k xs) (drop k xs)

module _ {W X : Type 0} (contents : W → Option (List ℕ)) (f : X → List ℕ) (xs : List X) where
  -- one more
  pub prints-more : (a b c : Page W) (i : ℕ) (d : X) → i < length xs → Prints contents a b (flat_map f (take i xs))
      → Prints contents b c (f (get_or xs i d)) → Prints contents a c (flat_map f (take (i + 1) xs))
  prints-more a b c i d low h e = subst (λ text. Prints contents a c text) (sym (flat-more f xs i d low))
      (prints-both contents a b c (flat_map f (take i xs)) (f (get_or xs i d)) h e)

  -- all
  pub prints-all : (a b : Page W) (i : ℕ) → length xs ≤ i → Prints contents a b (flat_map f (take i xs)) → Prints contents a b (flat_map f xs)
  prints-all a b i all h = subst (λ text. Prints contents a b text) (ap (flat_map f) (take_all i xs all)) h

  -- a fault within one
  pub breaks-within : (a b c : Page W) (i : ℕ) (d : X) (fault : RunFault) → i < length xs → Prints contents a b (flat_map f (take i xs))
      → Breaks contents b c (f (get_or xs i d)) fault → Breaks contents a c (flat_map f xs) fault
  breaks-within a b c i d fault low h s =
      subst (λ text. Breaks contents a c text fault) (ap (λ z. z ++ flat_map f (drop (i + 1) xs)) (sym (flat-more f xs i d low))
      ∙ sym (flat-split f xs (i + 1)))
      (breaks-before contents a c (flat_map f (take i xs) ++ f (get_or xs i d)) (flat_map f (drop (i + 1) xs)) fault
      (breaks-behind contents a b c (flat_map f (take i xs)) (f (get_or xs i d)) fault h s))

-- ---- the specification's own terms, and given ones

joined-flat : (f : Task → List (List ℕ)) (ts : List Task) → joined (flat_map f ts) ≡ flat_map (λ t. joined (f t)) ts
joined-flat f [] = refl
joined-flat f (t ∷ ts) = flat_map-append (λ l. l) (f t) (flat_map f ts) ∙ ap (λ z. joined (f t) ++ z) (joined-flat f ts)

module _ (source : List ℕ) (y : Spec) (shown : Shown) (n : ℕ) where
  abbrev text : Task → List ℕ
  text t = task_text source y shown n t

  traces-chosen : (us : List Tree) → traces source y us shown n ≡ flat_map text (chosen shown.terms y us)
  traces-chosen us = joined-flat (task_lines source y shown n) (chosen shown.terms y us)

  tasks-text : (ts : List Term) (us : List Tree)
      → flat_map text (map own ts ++ map given_task us) ≡ flat_map (λ (t : Term). text (own t)) ts ++ flat_map (λ u. text (given_task u)) us
  tasks-text ts us = flat_map-append text (map own ts) (map given_task us)
      ∙ ap₂ (λ a b. a ++ b) (flat_map-map text own ts) (flat_map-map text given_task us)

  -- the traces of a specification's own terms
  pub traces-own : traces source y [] shown n
      ≡ flat_map (λ (t : Term). task_text source y shown n (record { term = t; notes = none })) (own_chosen shown.terms y.terms)
  traces-own =
      let ts = own_chosen shown.terms y.terms in
      traces-chosen [] ∙ ap (flat_map text) (chosen-alone shown.terms y) ∙ tasks-text ts [] ∙ append-nil (flat_map (λ (t : Term). text (own t)) ts)

  -- those of given terms stand behind them
  pub traces-both : (us : List Tree)
      → traces source y us shown n ≡ traces source y [] shown n ++ given_traces source y shown n (given_chosen shown.terms (length y.terms) us)
  traces-both us =
      let vs = given_chosen shown.terms (length y.terms) us in
      traces-chosen us ∙ ap (flat_map text) (chosen-parts shown.terms y us) ∙ tasks-text (own_chosen shown.terms y.terms) vs
      ∙ ap (λ z. z ++ given_traces source y shown n vs) (sym traces-own)

-- ---- items that go in pairs

pub pairwise-length : {X Y : Type 0} (P : X → Y → Type 0) (xs : List X) (ys : List Y) → Pairwise P xs ys → length xs ≡ length ys
pairwise-length P [] [] h = refl
pairwise-length P [] (y ∷ ys) h = absurd h
pairwise-length P (x ∷ xs) [] h = absurd h
pairwise-length P (x ∷ xs) (y ∷ ys) h = ap suc (pairwise-length P xs ys h.1)

pub pairwise-at : {X Y : Type 0} (P : X → Y → Type 0) (xs : List X) (ys : List Y) (i : ℕ) (d : X) (e : Y) → Pairwise P xs ys → i < length xs
    → P (get_or xs i d) (get_or ys i e)
pairwise-at P [] ys i d e h low = absurd (omega (arith, low))
pairwise-at P (x ∷ xs) [] i d e h low = absurd h
pairwise-at P (x ∷ xs) (y ∷ ys) zero d e h low = h.0
pairwise-at P (x ∷ xs) (y ∷ ys) (suc i) d e h low = pairwise-at P xs ys i d e h.1 (omega (arith, low))

pub pairwise-push : {X Y : Type 0} (P : X → Y → Type 0) (xs : List X) (ys : List Y) (x : X) (y : Y) → Pairwise P xs ys → P x y
    → Pairwise P (xs ++ x ∷ []) (ys ++ y ∷ [])
pairwise-push P [] [] x y h k = (k, tt)
pairwise-push P [] (b ∷ ys) x y h k = absurd h
pairwise-push P (a ∷ xs) [] x y h k = absurd h
pairwise-push P (a ∷ xs) (b ∷ ys) x y h k = (h.0, pairwise-push P xs ys x y h.1 k)

-- The chosen terms of a run, as parts of its lists of terms.
use Rattle.std.proofs.Common.{◌≡◌, ◌∙◌, ◌+◌, ◌-◌, ◌<◌, ◌≤◌, ℕ, zero, suc, List, [], ◌∷◌, ◌++◌, append-nil, ap, ap₂, arith, drop, get_or, length, refl, subst, sym, take}
use Rattle.std.proofs.Common.{length-append, length-drop}
use Rattle.std.proofs.lemmas.List.{drop-map, get_or-drop, get_or-take, length-map, length-take, take-map}
use Rattle.std.proofs.lemmas.List.Elements.{All-drop, All-take}
use Rattle.std.specs.Prelude.{map, min}
use Rattle.rx_term.specs.Tree.{Tree, none}
use Rattle.rec_syntax.specs.Syntax.{Spec, Term}
use Rattle.rx_run.specs.Bytes.{newlines}
use Rattle.rx_run.proofs.LineFrontLemmas.{NoEnds}
use Rattle.rec_run.specs.Choice.{IsWindow, given_chosen, own_chosen}
use Rattle.rec_run.specs.Output.{Task, chosen, given_task, nth}
use Rattle.rec_run.specs.declared.options.TermChoice.{TermChoice}
use Rattle.rec_run.specs.declared.options.TermChoice.TheVariants.{All, Input, Nth}
use Rattle.rec_run.specs.declared.spec.window.Window.{Window}

abbrev pub own : Term → Task
own t = record { term = t; notes = none }

-- ---- an item by its number

pub nth-none : {X : Type 0} (k : ℕ) → nth {X = X} k [] ≡ []
nth-none zero = refl
nth-none (suc zero) = refl
nth-none (suc (suc i)) = refl

pub nth-map : {X Y : Type 0} (f : X → Y) (k : ℕ) (xs : List X) → nth k (map f xs) ≡ map f (nth k xs)
nth-map f zero xs = refl
nth-map f (suc i) xs = ap (take 1) (drop-map f i xs) ∙ take-map f 1 (drop i xs)

later : {X : Type 0} (a b : ℕ) (ys : List X) → nth (suc a - suc b) ys ≡ nth (a - b) ys
later a b ys = let e : suc a - suc b ≡ a - b = omega arith in ap (λ n. nth n ys) e

nth_of : {X : Type 0} (i : ℕ) (xs ys : List X) → nth (suc i) (xs ++ ys) ≡ nth (suc i) xs ++ nth (suc i - length xs) ys
nth_of i [] ys =
    let e : suc i ≡ suc i - 0 = omega arith in
    ap (λ n. nth n ys) e ∙ ap (λ front. front ++ nth (suc i - 0) ys) (sym (nth-none (suc i)))
nth_of zero (x ∷ xs) ys = ap (λ rest. x ∷ rest) (let e : 0 ≡ suc zero - suc (length xs) = omega arith in ap (λ n. nth n ys) e)
nth_of (suc i) (x ∷ xs) ys = nth_of i xs ys ∙ ap (λ rest. nth (suc i) xs ++ rest) (sym (later (suc i) (length xs) ys))

pub nth-append : {X : Type 0} (k : ℕ) (xs ys : List X) → nth k (xs ++ ys) ≡ nth k xs ++ nth (k - length xs) ys
nth-append zero xs ys = let e : 0 ≡ 0 - length xs = omega arith in ap (λ n. nth n ys) e
nth-append (suc i) xs ys = nth_of i xs ys

-- ---- the chosen terms of a specification, and the chosen input terms

pub given-none : (terms : TermChoice) (before : ℕ) → given_chosen terms before [] ≡ []
given-none All before = refl
given-none Input before = refl
given-none (Nth k) before = nth-none (k - before)

pub chosen-parts : (terms : TermChoice) (y : Spec) (us : List Tree)
    → chosen terms y us ≡ map own (own_chosen terms y.terms) ++ map given_task (given_chosen terms (length y.terms) us)
chosen-parts All y us = refl
chosen-parts Input y us = refl
chosen-parts (Nth k) y us =
    nth-append k (map own y.terms) (map given_task us)
    ∙ ap₂ (λ a b. a ++ b) (nth-map own k y.terms)
    (ap (λ n. nth (k - n) (map given_task us)) (length-map y.terms own) ∙ nth-map given_task (k - length y.terms) us)

-- the specification's own ones
pub chosen-alone : (terms : TermChoice) (y : Spec) → chosen terms y [] ≡ map own (own_chosen terms y.terms) ++ []
chosen-alone terms y = chosen-parts terms y []
    ∙ ap (λ us. map own (own_chosen terms y.terms) ++ map given_task us) (given-none terms (length y.terms))

pub chosen-own : (terms : TermChoice) (y : Spec) → chosen terms y [] ≡ map own (own_chosen terms y.terms)
chosen-own terms y = chosen-alone terms y ∙ append-nil (map own (own_chosen terms y.terms))

pub chosen-both : (terms : TermChoice) (y : Spec) (us : List Tree)
    → chosen terms y us ≡ chosen terms y [] ++ map given_task (given_chosen terms (length y.terms) us)
chosen-both terms y us = chosen-parts terms y us
    ∙ ap (λ front. front ++ map given_task (given_chosen terms (length y.terms) us)) (sym (chosen-own terms y))

pub length-own : (terms : TermChoice) (y : Spec) → length (chosen terms y []) ≡ length (own_chosen terms y.terms)
length-own terms y = ap length (chosen-own terms y) ∙ length-map (own_chosen terms y.terms) own

pub length-both : (terms : TermChoice) (y : Spec) (us : List Tree)
    → length (chosen terms y us) ≡ length (chosen terms y []) + length (given_chosen terms (length y.terms) us)
length-both terms y us =
    let vs = given_chosen terms (length y.terms) us in
    ap length (chosen-both terms y us) ∙ length-append (chosen terms y []) (map given_task vs)
    ∙ ap (λ n. length (chosen terms y []) + n) (length-map vs given_task)

-- the line of no chosen term has a line end before its own
nth_no_ends : (f : Tree → List ℕ) (k : ℕ) (us : List Tree) → NoEnds f us → NoEnds f (nth k us)
nth_no_ends f zero us h = All-take (λ u. newlines (f u) ≡ 0) 0 us h
nth_no_ends f (suc i) us h = All-take (λ u. newlines (f u) ≡ 0) 1 (drop i us) (All-drop (λ u. newlines (f u) ≡ 0) i us h)

pub chosen_no_ends : (f : Tree → List ℕ) (terms : TermChoice) (before : ℕ) (us : List Tree) → NoEnds f us → NoEnds f (given_chosen terms before us)
chosen_no_ends f All before us h = h
chosen_no_ends f Input before us h = h
chosen_no_ends f (Nth k) before us h = nth_no_ends f (k - before) us h

-- ---- ranges

short : {X : Type 0} (xs : List X) (from upto : ℕ) → from ≤ upto → upto ≤ length xs → length (take (upto - from) (drop from xs)) ≡ upto - from
short xs from upto h k =
    let a = length-take (upto - from) (drop from xs) in
    let b = length-drop from xs in
    omega (arith, h, k, a, b)

at : {X : Type 0} (xs : List X) (from most i : ℕ) (d : X) → i < most → get_or (take most (drop from xs)) i d ≡ get_or xs (from + i) d
at xs from most i d h = get_or-take most (drop from xs) i d h ∙ get_or-drop from xs i d

-- the terms of a specification
module _ (terms : TermChoice) (ts : List Term) (count items : ℕ) (w : Window) (same : count ≡ length ts) (is : IsWindow terms count items w) where
  part : own_chosen terms ts ≡ take (w.upto - w.from) (drop w.from ts)
  part = is.own_terms ts (sym same)

  pub own-length : length (own_chosen terms ts) ≡ w.upto - w.from
  own-length = ap length part ∙ short ts w.from w.upto is.ordered (subst (λ n. w.upto ≤ n) same is.within)

  pub own-at : (i : ℕ) (d : Term) → w.from ≤ i → i < w.upto → get_or ts i d ≡ get_or (own_chosen terms ts) (i - w.from) d
  own-at i d low high =
      let less : i - w.from < w.upto - w.from = omega (arith, low, high) in
      let back : w.from + (i - w.from) ≡ i = omega (arith, low) in
      sym (ap (λ xs. get_or xs (i - w.from) d) part ∙ at ts w.from (w.upto - w.from) (i - w.from) d less ∙ ap (λ n. get_or ts n d) back)

-- the input terms
module _ (terms : TermChoice) (before : ℕ) (us : List Tree) (count items : ℕ) (w : Window) (same : count ≡ before) (few : length us ≤ items)
    (is : IsWindow terms count items w) where
  given_part : given_chosen terms before us ≡ take w.most (drop w.skipped us)
  given_part = ap (λ n. given_chosen terms n us) (sym same) ∙ is.input_terms us few

  pub given-length : length (given_chosen terms before us) ≡ min w.most (length us - w.skipped)
  given-length = ap length given_part ∙ length-take w.most (drop w.skipped us) ∙ ap (min w.most) (length-drop w.skipped us)

  pub given-most : length (given_chosen terms before us) ≤ w.most
  given-most = let e = given-length in omega (arith, e)

  pub given-left : (i : ℕ) → length us ≤ i + w.skipped → length (given_chosen terms before us) ≤ i
  given-left i h = let e = given-length in omega (arith, e, h)

  pub given-low : (i : ℕ) → i < w.most → i + w.skipped < length us → i < length (given_chosen terms before us)
  given-low i h k = let e = given-length in omega (arith, e, h, k)

  pub given-at : (i : ℕ) (d : Tree) → i < w.most → get_or us (i + w.skipped) d ≡ get_or (given_chosen terms before us) i d
  given-at i d h =
      let turn : w.skipped + i ≡ i + w.skipped = omega arith in
      sym (ap (λ xs. get_or xs i d) given_part ∙ at us w.skipped w.most i d h ∙ ap (λ n. get_or us n d) turn)

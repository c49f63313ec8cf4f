-- How many letters terms have.
use Rattle.std.proofs.Common.{refl, sym, ap, arith, ◌∙◌, append_assoc, length-append, take, drop, inl, inr}
use Rattle.std.proofs.lemmas.Bool.{cases_eq}
use Rattle.std.proofs.lemmas.List.{drop-take, get_or-drop, get_or-take, take-append-drop, length-drop}
use Rattle.std.proofs.lemmas.List.{length-map, length-reverse, length-take, map-append, take-map, take_all}
use Rattle.std.proofs.Math.Seq.{take-append_seam}
use Rattle.std.specs.Prelude.{ℕ, zero, suc, ◌≡◌, ◌≢◌, ◌≤◌, ◌<◌, ◌+◌, ◌-◌, ◌⊎◌, Bool, true, false, Contains}
use Rattle.std.specs.Prelude.{List, [], ◌∷◌, ◌++◌, Option, Some, None, get_or, is_some, length, map, reverse}
use Rattle.rx_term.specs.Tree.{Tree, Trees, Int, Appl, Items, Hole, none, more}
use Rattle.rec_syntax.specs.Syntax as syntax
use Rattle.rec_syntax.specs.Syntax.{Term, Terms, Apply, Rule, Spec}
use Rattle.rec_sorts.specs.Lookup.{count, is_variable}
use Rattle.rec_sorts.specs.Binding.{Substitution, binds, instances, tree_of}
use Rattle.rec_sorts.specs.Numbering.{AreLetters, Named, named, named_all, named_by}
use Rattle.rec_sorts.specs.SpecRules.{fault}
use Rattle.rec_sorts.specs.declared.letters.Letter.{Letter}
use Rattle.rec_match.specs.Inner.Asking.{stack_on}
use Rattle.rec_match.specs.Bound.{bound, goes_on, opened}
use Rattle.rec_match.proofs.BoundLemmas.{opened_is}
use Rattle.rec_match.proofs.ItemLemmas.{get-front, get-last}
use Rattle.rec_check.specs.Inner.Trials.{AreSizes, asked, names_below}
use Rattle.rec_check.proofs.BackLemmas.{asked_binds}
use Rattle.rec_check.proofs.TrialLemmas.{AreDue, left_bare, some_names}

-- ---- a left side that matches a term has no more letters

abbrev mutual
  -- the nodes of a tree
  nodes : Tree → ℕ
  nodes (Appl n q ts anns) = suc (nodes_all ts)
  nodes t = 1

  nodes_all : Trees → ℕ
  nodes_all none = 0
  nodes_all (more t ts) = nodes t + nodes_all ts

abbrev nodes_on : List Tree → ℕ
nodes_on [] = 0
nodes_on (u ∷ st) = nodes u + nodes_on st

some_nodes : (u : Tree) → 1 ≤ nodes u
some_nodes (Appl n q ts anns) = omega arith
some_nodes (Int z anns) = omega arith
some_nodes (Items items anns) = omega arith
some_nodes (Hole inner anns) = omega arith

nodes_stacked : (us : Trees) (st : List Tree) → nodes_on (stack_on us st) ≡ nodes_all us + nodes_on st
nodes_stacked none st = omega arith
nodes_stacked (more u us) st = let e = nodes_stacked us (u ∷ st) in omega (arith, e)

-- each name that is asked takes a node at least
asked_few : (y : Spec) (ms : List Named) (st : List Tree) (s r : Substitution) → asked y ms st s ≡ Some r → length ms ≤ nodes_on st
asked_few y [] st s r e = omega arith
asked_few y (m ∷ ms) [] s r e = absurd (cc e)
asked_few y (m ∷ ms) (u ∷ st) s r e = by (is_variable y m.name) e (λ q f. asked_few y ms st q r f) (λ us f. asked_few y ms (stack_on us st) s r f)
  where
    taken : (o : Option Substitution) → goes_on o (λ q. asked y ms st q) ≡ Some r
        → ((q : Substitution) → asked y ms st q ≡ Some r → length ms ≤ nodes_on st) → suc (length ms) ≤ nodes u + nodes_on st
    taken None f later = absurd (cc f)
    taken (Some q) f later = let h = later q f in let k = some_nodes u in omega (arith, h, k)

    opens : (o : Option Trees) → opened m.name m.arguments u ≡ o → goes_on o (λ us. asked y ms (stack_on us st) s) ≡ Some r
        → ((us : Trees) → asked y ms (stack_on us st) s ≡ Some r → length ms ≤ nodes_on (stack_on us st)) → suc (length ms) ≤ nodes u + nodes_on st
    opens None g f later = absurd (cc f)
    opens (Some us) g f later =
        let h = later us f in
        let own : suc (nodes_all us) ≡ nodes u = ap nodes (opened_is m.name m.arguments u us g).0 in
        let all = nodes_stacked us st in
        omega (arith, h, own, all)

    by : (b : Bool) → (elim b as (λ _. Option Substitution) [
      | true ↦ goes_on (bound s m.name u) (λ q. asked y ms st q)
      | false ↦ goes_on
          (opened m.name m.arguments u) (λ us. asked y ms (stack_on us st) s)
    ]) ≡ Some r
        → ((q : Substitution) → asked y ms st q ≡ Some r → length ms ≤ nodes_on st)
        → ((us : Trees) → asked y ms (stack_on us st) s ≡ Some r → length ms ≤ nodes_on (stack_on us st)) → suc (length ms) ≤ nodes u + nodes_on st
    by true e first later = taken (bound s m.name u) e first
    by false e first later = opens (opened m.name m.arguments u) refl e later

mutual
  nodes_named : (t : Term) → nodes (tree_of t) ≡ length (named t)
  nodes_named (Apply w ts) =
      let e = nodes_named_all ts in
      let a = length-append (named_all ts) ((let m : Named = record { name = w.bytes; arguments = count ts } in m) ∷ []) in
      omega (arith, e, a)

  nodes_named_all : (ts : Terms) → nodes_all (instances [] ts) ≡ length (named_all ts)
  nodes_named_all syntax.none = refl
  nodes_named_all (syntax.more t ts) =
      let e = nodes_named t in
      let f = nodes_named_all ts in
      let a = length-append (named t) (named_all ts) in
      omega (arith, e, f, a)

pub too_long : (left term : List Letter) → length term < length left → (y : Spec) (r : Rule) (t : Term) → fault y ≡ None → Contains y.rules r
    → AreLetters y left r.left → AreLetters y term t → false ≡ is_some (binds y r.left (tree_of t))
too_long left term few y r t kept there l e = by (asked y (reverse (named r.left)) (tree_of t ∷ []) []) refl
    ∙ asked_binds y r.left (tree_of t) (left_bare y kept r there)
  where
    by : (o : Option Substitution) → asked y (reverse (named r.left)) (tree_of t ∷ []) [] ≡ o → false ≡ is_some o
    by None f = refl
    by (Some s) f =
        let h = asked_few y (reverse (named r.left)) (tree_of t ∷ []) [] s f in
        let a = length-reverse (named r.left) in
        let b = nodes_named t in
        let c : length left ≡ length (named r.left) = sym (length-map left (named_by y)) ∙ ap length l.1 in
        let d : length term ≡ length (named t) = sym (length-map term (named_by y)) ∙ ap length e.1 in
        absurd (let nothing : ⊥ = omega (arith, few, h, a, b, c, d) in nothing)

-- ---- fronts of fronts

pub take_within : {A : Type 0} (n m : ℕ) (xs : List A) → n ≤ m → take n (take m xs) ≡ take n xs
take_within zero m xs le = refl
take_within (suc n) zero xs le = absurd (let nothing : ⊥ = omega (arith, le) in nothing)
take_within (suc n) (suc m) [] le = refl
take_within (suc n) (suc m) (x ∷ xs) le = ap (λ zs. x ∷ zs) (take_within n m xs (omega (arith, le)))

take_plus : {A : Type 0} (n i : ℕ) (xs : List A) → take (n + i) xs ≡ take n xs ++ take i (drop n xs)
take_plus n i xs =
    sym (take-append-drop n (take (n + i) xs))
    ∙ ap (λ zs. zs ++ drop n (take (n + i) xs)) (take_within n (n + i) xs (omega arith))
    ∙ ap (λ zs. take n xs ++ zs) (drop-take n i xs)

-- the letters before the last one of a front
pub before_end : {A : Type 0} (xs : List A) (i : ℕ) → i < length xs → take (length (take (i + 1) xs) - 1) (take (i + 1) xs) ≡ take i xs
before_end xs i lt =
    let long = length-take (i + 1) xs in
    ap (λ (k : ℕ). take k (take (i + 1) xs)) (let same : length (take (i + 1) xs) - 1 ≡ i = omega (arith, long, lt) in same)
    ∙ take_within i (i + 1) xs (omega arith)

-- ---- sizes of the terms that end at letters

pub sizes_front : (letters : List Letter) (sizes : List ℕ) (n : ℕ) → AreSizes letters sizes → AreSizes (take n letters) (take n sizes)
sizes_front letters sizes n h = record {
  long = (let a = length-take n letters in let b = length-take n sizes in let c = h.long in omega (arith, a, b, c));
  each = λ i lt y ms t e.
      let a = length-take n letters in
      let within : i < n = omega (arith, lt, a) in
      get_or-take n sizes i 0 within ∙ h.each i (omega (arith, lt, a)) y ms t
      (ap (map (named_by y)) (sym (take_within (i + 1) n letters (omega (arith, within)))) ∙ e);
}

pub sizes_back : (letters : List Letter) (sizes : List ℕ) (n : ℕ) → AreSizes letters sizes → AreSizes (drop n letters) (drop n sizes)
sizes_back letters sizes n h = record {
  long = (let a = length-drop n letters in let b = length-drop n sizes in let c = h.long in omega (arith, a, b, c));
  each = λ i lt y ms t e.
      let a = length-drop n letters in
      let front : List Named = map (named_by y) (take n letters) in
      get_or-drop n sizes i 0
      ∙ h.each (n + i) (omega (arith, lt, a)) y (front ++ ms) t
      (ap (λ (k : ℕ). map (named_by y) (take k letters)) (let same : (n + i) + 1 ≡ n + (i + 1) = omega arith in same)
      ∙ ap (map (named_by y)) (take_plus n (i + 1) letters)
      ∙ map-append (named_by y) (take n letters) (take (i + 1) (drop n letters))
      ∙ ap (λ ns. front ++ ns) e
      ∙ sym (append_assoc front ms (named t)));
}

pub last_size : (letters : List Letter) (sizes others : List ℕ) (size : ℕ) → AreSizes letters sizes → sizes ≡ others ++ size ∷ []
    → (y : Spec) (ms : List Named) (t : Term) → map (named_by y) letters ≡ ms ++ named t → length letters ≡ length ms + size
last_size letters sizes others size h split y ms t e =
    let long = h.long in
    let own : length sizes ≡ length others + 1 = ap length split ∙ length-append others (size ∷ []) in
    let i : ℕ = length others in
    let whole : take (i + 1) letters ≡ letters = take_all (i + 1) letters (omega (arith, long, own)) in
    let is = h.each i (omega (arith, long, own)) y ms t (ap (map (named_by y)) whole ∙ e) in
    let here : get_or sizes i 0 ≡ size = ap (λ xs. get_or xs i 0) split ∙ get-last others size i 0 refl in
    let total : length letters ≡ length ms + length (named t) = sym (length-map letters (named_by y)) ∙ ap length e ∙ length-append ms (named t) in
    omega (arith, is, here, total)

pub no_size : (letters : List Letter) (sizes : List ℕ) → AreSizes letters sizes → length sizes ≡ 0 → (y : Spec) (ms : List Named) (t : Term)
    → map (named_by y) letters ≡ ms ++ named t → ⊥
no_size letters sizes h empty y ms t e =
    let long = h.long in
    let some = some_names t in
    let total : length letters ≡ length ms + length (named t) = sym (length-map letters (named_by y)) ∙ ap length e ∙ length-append ms (named t) in
    omega (arith, long, empty, some, total)

-- a term less is due before the last one of those
pub due_term : (letters : List Letter) (sizes : List ℕ) (m at due : ℕ) (y : Spec) (ms : List Named) → AreSizes (take m letters) sizes
    → m ≤ length letters → at ≤ m → 0 < at → 0 < due → AreDue letters at due y ms → AreDue letters (at - get_or sizes (at - 1) 0) (due - 1) y ms
due_term letters sizes m at due y ms h within below some left due_at = by due_at.terms due_at.names due_at.counted
  where
    by : (ts : List Term) → map (named_by y) (take at letters) ≡ ms ++ names_below ts → length ts ≡ due
        → AreDue letters (at - get_or sizes (at - 1) 0) (due - 1) y ms
    by [] e counted = absurd (let nothing : ⊥ = omega (arith, left, counted) in nothing)
    by (u ∷ us) e counted =
        let front : List Named = ms ++ names_below us in
        let split : map (named_by y) (take at letters) ≡ front ++ named u = e ∙ sym (append_assoc ms (names_below us) (named u)) in
        let long = length-take m letters in
        let same : take ((at - 1) + 1) (take m letters) ≡ take at letters =
        ap (λ (k : ℕ). take k (take m letters)) (let k : (at - 1) + 1 ≡ at = omega (arith, some) in k) ∙ take_within at m letters below
        in
        let size : get_or sizes (at - 1) 0 ≡ length (named u) = h.each (at - 1) (omega (arith, long, within, below, some)) y front u
        (ap (map (named_by y)) same ∙ split) in
        let a = length-append front (named u) in
        let b = length-take at letters in
        let total : at ≡ length front + length (named u) = (let c : length (take at letters) ≡ length (front ++ named u) =
        sym (length-map (take at letters) (named_by y)) ∙ ap length split in omega (arith, a, b, c, within, below)) in
        let next : at - get_or sizes (at - 1) 0 ≡ length front = omega (arith, size, total) in
        record {
          terms = us;
          names =
              ap (λ (k : ℕ). map (named_by y) (take k letters)) next
              ∙ ap (map (named_by y)) (sym (take_within (length front) at letters (omega (arith, total))))
              ∙ sym (take-map (named_by y) (length front) (take at letters))
              ∙ ap (λ ns. take (length front) ns) split
              ∙ take-append_seam front (named u);
          counted = omega (arith, counted);
        }

pub sizes_start : (letters : List Letter) (sizes : List ℕ) → sizes ≡ [] → AreSizes (take 0 letters) sizes
sizes_start letters sizes e = record { long = ap length e; each = λ i lt y ms t f. absurd (let nothing : ⊥ = omega (arith, lt) in nothing) }

-- one size more
pub sizes_more : (letters : List Letter) (sizes after : List ℕ) (i size : ℕ) → i < length letters → AreSizes (take i letters) sizes → after ≡ sizes ++ size ∷ []
    → ((y : Spec) (ms : List Named) (t : Term) → map (named_by y) (take (i + 1) letters) ≡ ms ++ named t → size ≡ length (named t))
    → AreSizes (take (i + 1) letters) after
sizes_more letters sizes after i size lt h pushed own = record {
  long = (let e = ap length pushed ∙ length-append sizes (size ∷ []) in let a = length-take i letters in let b = length-take (i + 1) letters in
      let c = h.long in omega (arith, e, a, b, c, lt));
  each = λ j below y ms t e. by j below (cases_eq j i) y ms t e;
}
  where
    counted : length sizes ≡ i
    counted = let a = length-take i letters in let c = h.long in omega (arith, a, c, lt)

    by : (j : ℕ) → j < length (take (i + 1) letters) → (j ≡ i) ⊎ (j ≢ i) → (y : Spec) (ms : List Named) (t : Term)
        → map (named_by y) (take (j + 1) (take (i + 1) letters)) ≡ ms ++ named t → get_or after j 0 ≡ length (named t)
    by j below (inl q) y ms t e =
        ap (λ xs. get_or xs j 0) pushed ∙ get-last sizes size j 0 (q ∙ sym counted)
        ∙ own y ms t (ap (map (named_by y)) (sym (take_within (i + 1) (i + 1) letters (omega arith))
        ∙ ap (λ (k : ℕ). take (k + 1) (take (i + 1) letters)) (sym q)) ∙ e)
    by j below (inr d) y ms t e =
        let b = length-take (i + 1) letters in
        let early : j < i = omega (arith, below, b, d) in
        let a = length-take i letters in
        ap (λ xs. get_or xs j 0) pushed ∙ get-front sizes size j 0 (omega (arith, early, counted))
        ∙ h.each j (omega (arith, early, a, lt)) y ms t
        (ap (map (named_by y)) (take_within (j + 1) i letters (omega (arith, early)) ∙ sym (take_within (j + 1) (i + 1) letters (omega (arith, early)))) ∙ e)

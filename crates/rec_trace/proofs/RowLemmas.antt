-- Steps that are made over values.
use Rattle.std.proofs.Common.{◌+◌, ◌-◌, ◌<◌, ◌≤◌, ℕ, arith, refl, sym, ap, subst, ◌∙◌, length, drop, take, get_or}
use Rattle.std.proofs.Common.{inl, inr, append_assoc, length-append, length-drop, take-append-drop}
use Rattle.std.specs.Prelude.{suc, ◌≡◌, List, [], ◌∷◌, ◌++◌, Option, Some, Contains, IsSome, reverse, slice_get, zero}
use Rattle.std.specs.Prelude.{unwrap_or}
use Rattle.std.proofs.lemmas.List.{length-take-le, take-append-le, drop-append-le, take-take, take_more}
use Rattle.std.proofs.lemmas.List.{reverse-append, map-append, get_or-take, length-reverse, length-map, drop_at}
use Rattle.std.proofs.lemmas.List.Elements.{Contains-append_left, Contains-append_right, Contains-append_cases}
use Rattle.std.proofs.lemmas.List.Elements.{Contains-get_or}
use Rattle.std.proofs.lemmas.Option.{slice_get_within, get_or_from_slice_get}
use Rattle.rx_term.proofs.PartsLemmas.{cons_cases, cons_head, cons_tail, parts-self}
use Rattle.rx_term.proofs.StoreLemmas.{some-value}
use Rattle.rx_term.proofs.WalkLemmas.{AllHeld-drop, AllHeld-push, AllHeld-append, AllHeld-take}
use Rattle.rec_sorts.proofs.GivenLetterLemmas.{map-reverse}
use Rattle.rec_match.specs.Inner.Asking.{stack_on}
use Rattle.rec_engine.proofs.FlatLemmas.{size, taken-stacked}
use Rattle.rx_term.specs.Tree.{Tree, from_list, list_of, none}
use Rattle.rx_term.specs.Parts.{parts}
use Rattle.rx_term.specs.Store.{Store, tree_at}
use Rattle.rx_term.specs.Steps.{Keeps}
use Rattle.rx_term.specs.Walks.{AllHeld, held_tree, held_trees}
use Rattle.rx_term.specs.declared.Term.{Term as Reference}
use Rattle.rec_syntax.specs.Syntax.{Spec}
use Rattle.rec_engine.specs.Flat.{taken}
use Rattle.rec_trace.specs.Rows.{AreGiven, AreInRow, AreSteps, IsClear, IsPart, KeepsParts, floor_of, moves_of}
use Rattle.rec_trace.specs.Rows.{source_of, stacked}
use Rattle.rec_trace.specs.States.{Give, Invoke}
use Rattle.rec_sorts.specs.Numbering.{name_of}
use Rattle.rec_sorts.specs.declared.letters.Meaning.TheVariants.{Symbol}
use Rattle.rec_trace.specs.declared.row.Step.{Step}
use Rattle.rec_trace.specs.declared.row.Step.TheVariants as step

-- what is in a part of a list is in it
in-front : (n : ℕ) (vs : List Reference) (t : Reference) → Contains (take n vs) t → Contains vs t
in-front n vs t c = subst (λ xs. Contains xs t) (take-append-drop n vs) (Contains-append_left (take n vs) (drop n vs) t c)

in-back : (n : ℕ) (vs : List Reference) (t : Reference) → Contains (drop n vs) t → Contains vs t
in-back n vs t c = subst (λ xs. Contains xs t) (take-append-drop n vs) (Contains-append_right (take n vs) (drop n vs) t c)

in-reverse : (vs : List Reference) (t : Reference) → Contains (reverse vs) t → Contains vs t
in-reverse [] t c = c
in-reverse (v ∷ vs) t c =
    elim (Contains-append_cases (reverse vs) (v ∷ []) t (subst (λ xs. Contains xs t) (reverse-append (v ∷ []) vs) c)) [
      | inl h ↦ cons_tail v vs t (in-reverse vs t h)
      | inr h ↦ subst (Contains (v ∷ vs)) (last-one h) (cons_head v vs)
    ]
  where
    last-one : Contains (v ∷ []) t → v ≡ t
    last-one h = elim (cons_cases v [] t h) [ inl e ↦ e | inr r ↦ absurd (let lt = r.1 in let k : ⊥ = omega (arith, lt) in k) ]

-- so what is stacked is among the values
stacked-in : (ss : List Step) (vs : List Reference) (t : Reference) → Contains (stacked ss vs) t → Contains vs t
stacked-in [] vs t c = in-reverse vs t c
stacked-in (step.Give u ∷ ss) vs t c = stacked-in ss vs t c
stacked-in (step.GiveLast u at ∷ ss) vs t c = elim (Contains-append_cases (reverse (drop (suc at) vs)) (stacked ss (take at vs)) t c) [
  | inl h ↦ in-back (suc at) vs t (in-reverse (drop (suc at) vs) t h)
  | inr h ↦ in-front at vs t (stacked-in ss (take at vs) t h)
]
stacked-in (step.Invoke f k ∷ ss) vs t c = stacked-in ss vs t c

-- values above those that are out of reach are stacked
pub stacked-more : (ss : List Step) (vs xs : List Reference) → floor_of ss ≤ length vs → stacked ss (vs ++ xs) ≡ reverse xs ++ stacked ss vs
stacked-more [] vs xs le = reverse-append vs xs
stacked-more (step.Give u ∷ ss) vs xs le = stacked-more ss vs xs le
stacked-more (step.GiveLast u at ∷ ss) vs xs le =
    ap (λ us. reverse us ++ stacked ss (take at (vs ++ xs))) (drop-append-le (suc at) vs xs le)
    ∙ ap (λ us. reverse (drop (suc at) vs ++ xs) ++ stacked ss us) (take-append-le at vs xs (omega (arith, le)))
    ∙ ap (λ us. us ++ stacked ss (take at vs)) (reverse-append (drop (suc at) vs) xs)
    ∙ append_assoc (reverse xs) (reverse (drop (suc at) vs)) (stacked ss (take at vs))
stacked-more (step.Invoke f k ∷ ss) vs xs le = stacked-more ss vs xs le

-- only the values out of reach tell what is given
get-take : (vs : List Reference) (at n : ℕ) → at < n → slice_get (take n vs) at ≡ slice_get vs at
get-take [] at zero lt = refl
get-take [] at (suc n) lt = refl
get-take (v ∷ vs) at zero lt = let no : ⊥ = omega (arith, lt) in absurd no
get-take (v ∷ vs) zero (suc n) lt = refl
get-take (v ∷ vs) (suc at) (suc n) lt = get-take vs at n (omega (arith, lt))

same-get : (vs ws : List Reference) (at : ℕ) → take (suc at) vs ≡ take (suc at) ws → slice_get vs at ≡ slice_get ws at
same-get vs ws at e =
    sym (get-take vs at (suc at) (let lt : at < suc at = omega arith in lt)) ∙ ap (λ us. slice_get us at) e
    ∙ get-take ws at (suc at) (let lt : at < suc at = omega arith in lt)

same-front : (vs ws : List Reference) (at : ℕ) → take (suc at) vs ≡ take (suc at) ws → take at vs ≡ take at ws
same-front vs ws at e =
    let le : at ≤ suc at = omega arith in
    sym (take-take at (suc at) vs le) ∙ ap (take at) e ∙ take-take at (suc at) ws le

source-same : (ss : List Step) (vs ws : List Reference) → take (floor_of ss) vs ≡ take (floor_of ss) ws → source_of ss vs ≡ source_of ss ws
source-same [] vs ws e = refl
source-same (step.Give u ∷ ss) vs ws e = source-same ss vs ws e
source-same (step.GiveLast u at ∷ ss) vs ws e = same-get vs ws at e
source-same (step.Invoke f k ∷ ss) vs ws e = source-same ss vs ws e

given-same : (w : Store) (ss : List Step) (vs ws : List Reference) → take (floor_of ss) vs ≡ take (floor_of ss) ws → AreGiven w ss vs → AreGiven w ss ws
given-same w [] vs ws e h = tt
given-same w (step.Give u ∷ ss) vs ws e h = (h.0, sym (source-same ss vs ws e) ∙ h.1, h.2, given-same w ss vs ws e h.3)
given-same w (step.GiveLast u at ∷ ss) vs ws e h =
    (h.0, sym (same-get vs ws at e) ∙ h.1, h.2, subst (AreGiven w ss) (same-front vs ws at e) h.3)
given-same w (step.Invoke f k ∷ ss) vs ws e h = given-same w ss vs ws e h

pub given-more : (w : Store) (ss : List Step) (vs xs : List Reference) → floor_of ss ≤ length vs → AreGiven w ss vs → AreGiven w ss (vs ++ xs)
given-more w ss vs xs le = given-same w ss vs (vs ++ xs) (sym (take-append-le (floor_of ss) vs xs le))

pub given-fewer : (w : Store) (ss : List Step) (vs : List Reference) (n : ℕ) → floor_of ss ≤ n → AreGiven w ss vs → AreGiven w ss (take n vs)
given-fewer w ss vs n le = given-same w ss vs (take n vs) (sym (take-take (floor_of ss) n vs le))

-- where there are more values, calls find enough all the more
pub clear-more : (ss : List Step) (n m : ℕ) → n ≤ m → IsClear ss n → IsClear ss m
clear-more [] n m le h = tt
clear-more (step.Give u ∷ ss) n m le h = clear-more ss (suc n) (suc m) (omega (arith, le)) h
clear-more (step.GiveLast u at ∷ ss) n m le h = (let lt = h.0 in omega (arith, le, lt), h.1, clear-more ss n m le h.2)
clear-more (step.Invoke f k ∷ ss) n m le h =
    (let fits = h.0 in omega (arith, le, fits), clear-more ss (suc (n - k)) (suc (m - k)) (omega (arith, le)) h.1)

one-more : (vs : List Reference) (t : Reference) → length (vs ++ t ∷ []) ≡ suc (length vs)
one-more vs t = length-append vs (t ∷ []) ∙ (let e : length vs + 1 ≡ suc (length vs) = omega arith in e)

part-held : (w : Store) (r t : Reference) → IsPart w r t → IsSome (tree_at w t)
part-held w r t h = subst IsSome (sym h.held) (let yes : IsSome (Some h.tree) = refl in yes)

-- a value on top, where the steps are clear above it
row-more : (y : Spec) (w : Store) (ss : List Step) (vs : List Reference) (t : Reference) → AllHeld w vs → IsSome (tree_at w t) → AreSteps y ss
    → AreGiven w ss vs → floor_of ss ≤ length vs → IsClear ss (suc (length vs)) → AreInRow y w ss (vs ++ t ∷ [])
row-more y w ss vs t held here steps given floor clear = record {
  held = AllHeld-push w vs t held here;
  steps = steps;
  given = given-more w ss vs (t ∷ []) floor given;
  floor = (let e = one-more vs t in omega (arith, floor, e));
  clear = subst (IsClear ss) (sym (one-more vs t)) clear;
}

-- a value came on top, and these steps are left
pub record OneMore (y : Spec) (w : Store) (before ss : List Step) (vs vs' : List Reference) (t : Reference) : Type 0 where
  pub row : AreInRow y w ss vs'
  pub stack : stacked ss vs' ≡ t ∷ stacked before vs

pub gave : (y : Spec) (w : Store) (ss : List Step) (vs : List Reference) (t : Reference) → AreInRow y w (step.Give t ∷ ss) vs
    → OneMore y w (step.Give t ∷ ss) ss vs (vs ++ t ∷ []) t
gave y w ss vs t h = record {
  row = row-more y w ss vs t h.held (part-held w h.given.0 t h.given.2) h.steps h.given.3 h.floor h.clear;
  stack = stacked-more ss vs (t ∷ []) h.floor;
}

pub gave-last : (y : Spec) (w : Store) (ss : List Step) (vs : List Reference) (t : Reference) (at : ℕ) → AreInRow y w (step.GiveLast t at ∷ ss) vs
    → OneMore y w (step.GiveLast t at ∷ ss) ss vs (take at vs ++ (drop (suc at) vs ++ t ∷ [])) t
gave-last y w ss vs t at h =
    let long : length (take at vs) ≡ at = length-take-le at vs (let lt = h.clear.0 in omega (arith, lt)) in
    let floor : floor_of ss ≤ length (take at vs) = (let le = h.clear.1 in omega (arith, le, long)) in
    let count : length (take at vs ++ (drop (suc at) vs ++ t ∷ [])) ≡ length vs =
    length-append (take at vs) (drop (suc at) vs ++ t ∷ []) ∙ (let e = one-more (drop (suc at) vs) t in let d = length-drop (suc at) vs in
    let lt = h.clear.0 in omega (arith, e, d, lt, long)) in
    record {
      row = record {
        held = AllHeld-append w (take at vs) (drop (suc at) vs ++ t ∷ []) (AllHeld-take w vs at h.held)
            (AllHeld-push w (drop (suc at) vs) t (AllHeld-drop w vs (suc at) h.held) (part-held w h.given.0 t h.given.2));
        steps = h.steps;
        given = given-more w ss (take at vs) (drop (suc at) vs ++ t ∷ []) floor h.given.3;
        floor = (let lt = h.clear.0 in let le = h.clear.1 in omega (arith, lt, le, count));
        clear = subst (IsClear ss) (sym count) h.clear.2;
      };
      stack = stacked-more ss (take at vs) (drop (suc at) vs ++ t ∷ []) floor
          ∙ ap (λ us. us ++ stacked ss (take at vs)) (reverse-append (drop (suc at) vs) (t ∷ []));
    }

-- a tree that is held can always come on top
pub put-on : (y : Spec) (w : Store) (ss : List Step) (vs : List Reference) (t : Reference) → AreInRow y w ss vs → IsSome (tree_at w t)
    → OneMore y w ss ss vs (vs ++ t ∷ []) t
put-on y w ss vs t h held = record {
  row = row-more y w ss vs t h.held held h.steps h.given h.floor (clear-more ss (length vs) (suc (length vs)) (let le : length vs ≤ suc (length vs) =
      omega arith in le) h.clear);
  stack = stacked-more ss vs (t ∷ []) h.floor;
}

-- a reference that stays, with its parts
stays-at : (w w' : Store) (rs : List Reference) (r : Reference) → AllHeld w rs → KeepsParts w w' rs → Contains rs r → tree_at w' r ≡ tree_at w r
stays-at w w' rs r held keeps c =
    let x = some-value (tree_at w r) (held r c) in
    keeps r r x.0 c x.1 (subst (λ (o : Option Tree). Contains (parts (unwrap_or o (list_of none))) x.0) (sym x.1) (parts-self x.0)) ∙ sym x.1

held-stays : (w w' : Store) (rs : List Reference) → AllHeld w rs → KeepsParts w w' rs → AllHeld w' rs
held-stays w w' rs held keeps r c = subst IsSome (sym (stays-at w w' rs r held keeps c)) (held r c)

part-stays : (w w' : Store) (rs : List Reference) (r t : Reference) → AllHeld w rs → KeepsParts w w' rs → Contains rs r → IsPart w r t
    → IsPart w' r t × (tree_at w' t ≡ tree_at w t)
part-stays w w' rs r t held keeps c h =
    let is : tree_at w' t ≡ Some h.tree = keeps t r h.tree c h.held h.within in (
      record {
        tree = h.tree;
        held = is;
        within = subst (λ (o : Option Tree). Contains (parts (unwrap_or o (list_of none))) h.tree) (sym (stays-at w w' rs r held keeps c)) h.within;
      },
      is ∙ sym h.held,
    )

-- a place that has a value
at-in : (vs : List Reference) (at : ℕ) (r : Reference) → slice_get vs at ≡ Some r → Contains vs r
at-in vs at r e = subst (Contains vs) (get_or_from_slice_get vs at r r e) (Contains-get_or vs at r (slice_get_within vs at r e))

source-in : (ss : List Step) (vs : List Reference) (r : Reference) → source_of ss vs ≡ Some r → Contains vs r
source-in [] vs r e = absurd (cc e)
source-in (step.Give u ∷ ss) vs r e = source-in ss vs r e
source-in (step.GiveLast u at ∷ ss) vs r e = at-in vs at r e
source-in (step.Invoke f k ∷ ss) vs r e = source-in ss vs r e

keeps-front : (w w' : Store) (n : ℕ) (vs : List Reference) → KeepsParts w w' vs → KeepsParts w w' (take n vs)
keeps-front w w' n vs keeps t r u c = keeps t r u (in-front n vs r c)

-- what is given stays
given-stays : (y : Spec) (w w' : Store) (ss : List Step) (vs : List Reference) → AllHeld w vs → KeepsParts w w' vs → AreGiven w ss vs
    → AreGiven w' ss vs × (moves_of y w' ss ≡ moves_of y w ss)
given-stays y w w' [] vs held keeps h = (tt, refl)
given-stays y w w' (step.Give u ∷ ss) vs held keeps h =
    let part = part-stays w w' vs h.0 u held keeps (source-in ss vs h.0 h.1) h.2 in
    let rest = given-stays y w w' ss vs held keeps h.3 in (
      (h.0, h.1, part.0, rest.0),
      ap (λ (o : Option Tree). Give (unwrap_or o (list_of none)) ∷ moves_of y w' ss) part.1 ∙ ap (λ ms. Give (held_tree w u) ∷ ms) rest.1,
    )
given-stays y w w' (step.GiveLast u at ∷ ss) vs held keeps h =
    let part = part-stays w w' vs h.0 u held keeps (at-in vs at h.0 h.1) h.2 in
    let rest = given-stays y w w' ss (take at vs) (AllHeld-take w vs at held) (keeps-front w w' at vs keeps) h.3 in (
      (h.0, h.1, part.0, rest.0),
      ap (λ (o : Option Tree). Give (unwrap_or o (list_of none)) ∷ moves_of y w' ss) part.1 ∙ ap (λ ms. Give (held_tree w u) ∷ ms) rest.1,
    )
given-stays y w w' (step.Invoke f k ∷ ss) vs held keeps h =
    let rest = given-stays y w w' ss vs held keeps h in
    (rest.0, ap (λ ms. Invoke (name_of y (Symbol f)) k ∷ ms) rest.1)

trees-stay : (w w' : Store) (rs : List Reference) → ((t : Reference) → Contains rs t → tree_at w' t ≡ tree_at w t)
    → held_trees w' rs ≡ held_trees w rs
trees-stay w w' [] h = refl
trees-stay w w' (r ∷ rs) h =
    ap (λ (o : Option Tree). unwrap_or o (list_of none) ∷ held_trees w' rs) (h r (cons_head r rs))
    ∙ ap (λ xs. held_tree w r ∷ xs) (trees-stay w w' rs (λ t c. h t (cons_tail r rs t c)))

stack-stays : (w w' : Store) (ss : List Step) (vs : List Reference) → AllHeld w vs → KeepsParts w w' vs
    → held_trees w' (stacked ss vs) ≡ held_trees w (stacked ss vs)
stack-stays w w' ss vs held keeps =
    trees-stay w w' (stacked ss vs) (λ t c. stays-at w w' vs t held keeps (stacked-in ss vs t c))

-- the stack in two: what is above a place, and what is below
split-stack : (ss : List Step) (vs : List Reference) (n : ℕ) → n ≤ length vs → floor_of ss ≤ n
    → stacked ss vs ≡ reverse (drop n vs) ++ stacked ss (take n vs)
split-stack ss vs n le floor =
    ap (stacked ss) (sym (take-append-drop n vs))
    ∙ stacked-more ss (take n vs) (drop n vs) (let long = length-take-le n vs le in omega (arith, floor, long))

split-trees : (w : Store) (ss : List Step) (vs : List Reference) (n : ℕ) → n ≤ length vs → floor_of ss ≤ n
    → held_trees w (stacked ss vs) ≡ reverse (held_trees w (drop n vs)) ++ held_trees w (stacked ss (take n vs))
split-trees w ss vs n le floor =
    ap (held_trees w) (split-stack ss vs n le floor) ∙ map-append (held_tree w) (reverse (drop n vs)) (stacked ss (take n vs))
    ∙ ap (λ us. us ++ held_trees w (stacked ss (take n vs))) (map-reverse (held_tree w) (drop n vs))

below-top : (w : Store) (ss : List Step) (vs : List Reference) (k : ℕ) → floor_of ss + k ≤ length vs
    → drop k (held_trees w (stacked ss vs)) ≡ held_trees w (stacked ss (take (length vs - k) vs))
below-top w ss vs k fits =
    ap (drop k) (split-trees w ss vs (length vs - k) (let q : length vs - k ≤ length vs = omega arith in q) (omega (arith, fits)))
    ∙ drop_at (reverse (held_trees w (drop (length vs - k) vs))) (held_trees w (stacked ss (take (length vs - k) vs))) k
    (length-reverse (held_trees w (drop (length vs - k) vs)) ∙ length-map (drop (length vs - k) vs) (held_tree w) ∙ (let d = length-drop (length vs - k) vs in
    omega (arith, fits, d)))

-- the values on top, so many, gave way to one
pub record Replaced (y : Spec) (w w' : Store) (ss : List Step) (vs : List Reference) (k : ℕ) (t : Reference) (v : Tree) : Type 0 where
  pub row : AreInRow y w' ss (take (length vs - k) vs ++ t ∷ [])
  pub moves : moves_of y w' ss ≡ moves_of y w ss
  pub stack : held_trees w' (stacked ss (take (length vs - k) vs ++ t ∷ [])) ≡ v ∷ drop k (held_trees w (stacked ss vs))

pub replaced : (y : Spec) (w w' : Store) (f k : ℕ) (ss : List Step) (vs : List Reference) (t : Reference) (v : Tree)
    → AreInRow y w (step.Invoke f k ∷ ss) vs → KeepsParts w w' (take (length vs - k) vs) → tree_at w' t ≡ Some v → Replaced y w w' ss vs k t v
replaced y w w' f k ss vs t v h keeps is =
    let fits = h.clear.0 in
    let le : floor_of ss ≤ length vs - k = omega (arith, fits) in
    let long : length (take (length vs - k) vs) ≡ length vs - k = length-take-le (length vs - k) vs (let q : length vs - k ≤ length vs = omega arith in q) in
    let floor : floor_of ss ≤ length (take (length vs - k) vs) = omega (arith, le, long) in
    let held : AllHeld w (take (length vs - k) vs) = AllHeld-take w vs (length vs - k) h.held in
    let stays = given-stays y w w' ss (take (length vs - k) vs) held keeps (given-fewer w ss vs (length vs - k) le h.given) in
    record {
      row = row-more y w' ss (take (length vs - k) vs) t (held-stays w w' (take (length vs - k) vs) held keeps)
          (subst IsSome (sym is) (let yes : IsSome (Some v) = refl in yes)) h.steps.2 stays.0 floor
          (subst (λ m. IsClear ss (suc m)) (sym long) h.clear.1);
      moves = stays.1;
      stack = ap (held_trees w') (stacked-more ss (take (length vs - k) vs) (t ∷ []) floor)
          ∙ ap (λ (o : Option Tree). unwrap_or o (list_of none) ∷ held_trees w' (stacked ss (take (length vs - k) vs))) is
          ∙ ap (λ us. v ∷ us) (stack-stays w w' ss (take (length vs - k) vs) held keeps ∙ sym (below-top w ss vs k fits));
    }

-- these are the arguments
pub arguments-on-top : (y : Spec) (w : Store) (f k : ℕ) (ss : List Step) (vs : List Reference) → AreInRow y w (step.Invoke f k ∷ ss) vs
    → taken k (held_trees w (stacked ss vs)) none ≡ from_list (held_trees w (drop (length vs - k) vs))
arguments-on-top y w f k ss vs h =
    let fits = h.clear.0 in
    ap (λ st. taken k st none) (split-trees w ss vs (length vs - k) (let q : length vs - k ≤ length vs = omega arith in q) (omega (arith, fits)))
    ∙ ap (λ st. taken k st none) (sym (stack-reverse (held_trees w (drop (length vs - k) vs)) (held_trees w (stacked ss (take (length vs - k) vs)))))
    ∙ taken-stacked (from_list (held_trees w (drop (length vs - k) vs))) (held_trees w (stacked ss (take (length vs - k) vs))) k
    (size-is (held_trees w (drop (length vs - k) vs)) ∙ length-map (drop (length vs - k) vs) (held_tree w) ∙ (let d = length-drop (length vs - k) vs in
    omega (arith, fits, d)))
  where
    stack-reverse : (xs st : List Tree) → stack_on (from_list xs) st ≡ reverse xs ++ st
    stack-reverse [] st = refl
    stack-reverse (x ∷ xs) st = stack-reverse xs (x ∷ st) ∙ sym (append_assoc (reverse xs) (x ∷ []) st)
        ∙ ap (λ us. us ++ st) (sym (reverse-append (x ∷ []) xs))

    size-is : (xs : List Tree) → size (from_list xs) ≡ length xs
    size-is [] = refl
    size-is (x ∷ xs) = ap suc (size-is xs)

-- values on top go, where the steps find enough below
pub cut-values : (y : Spec) (w : Store) (ss : List Step) (vs : List Reference) (n : ℕ) → AreInRow y w ss vs → n ≤ length vs → floor_of ss ≤ n → IsClear ss n
    → AreInRow y w ss (take n vs) × (stacked ss vs ≡ reverse (drop n vs) ++ stacked ss (take n vs))
cut-values y w ss vs n h le floor clear =
    let long : length (take n vs) ≡ n = length-take-le n vs le in (
      record {
        held = AllHeld-take w vs n h.held;
        steps = h.steps;
        given = given-fewer w ss vs n floor h.given;
        floor = omega (arith, floor, long);
        clear = subst (IsClear ss) (sym long) clear;
      },
      split-stack ss vs n le floor,
    )

-- the values below the top one, and that one
pub top-last : (vs : List Reference) (d : Reference) → 0 < length vs → vs ≡ take (length vs - 1) vs ++ get_or vs (length vs - 1) d ∷ []
top-last vs d lt =
    sym (take-all vs) ∙ ap (λ n. take n vs) (let q : length vs ≡ length vs - 1 + 1 = omega (arith, lt) in q)
    ∙ take_more vs (length vs - 1) d (omega (arith, lt))
  where
    take-all : (us : List Reference) → take (length us) us ≡ us
    take-all [] = refl
    take-all (u ∷ us) = ap (λ xs. u ∷ xs) (take-all us)

-- where a value is within reach, the tree on top is the stack's first one
pub top-first : (w : Store) (ss : List Step) (vs : List Reference) (d : Reference) → floor_of ss < length vs
    → (st : List Tree) × (held_trees w (stacked ss vs) ≡ held_tree w (get_or vs (length vs - 1) d) ∷ st)
top-first w ss vs d lt = (
  held_trees w (stacked ss (take (length vs - 1) vs)),
  ap (λ us. held_trees w (stacked ss us)) (top-last vs d (omega (arith, lt)))
      ∙ ap (held_trees w) (stacked-more ss (take (length vs - 1) vs) (get_or vs (length vs - 1) d ∷ [])
      (let long = length-take-le (length vs - 1) vs (let q : length vs - 1 ≤ length vs = omega arith in q) in omega (arith, lt, long))),
)

-- where two are, the one below it is the second one
pub top-second : (w : Store) (ss : List Step) (vs : List Reference) (d : Reference) → floor_of ss + 1 < length vs
    → (st : List Tree) × (held_trees w (stacked ss vs)
    ≡ held_tree w (get_or vs (length vs - 1) d) ∷ held_tree w (get_or vs (length vs - 2) d) ∷ st)
top-second w ss vs d lt =
    let long : length (take (length vs - 1) vs) ≡ length vs - 1 = length-take-le (length vs - 1) vs (let q : length vs - 1 ≤ length vs = omega arith in q) in
    let below = top-first w ss (take (length vs - 1) vs) d (omega (arith, lt, long)) in (
      below.0,
      ap (λ us. held_trees w (stacked ss us)) (top-last vs d (omega (arith, lt)))
          ∙ ap (held_trees w) (stacked-more ss (take (length vs - 1) vs) (get_or vs (length vs - 1) d ∷ []) (omega (arith, lt, long)))
          ∙ ap (λ us. held_tree w (get_or vs (length vs - 1) d) ∷ us) (below.1
          ∙ ap (λ x. held_tree w x ∷ below.0) (ap (λ n. get_or (take (length vs - 1) vs) n d) (let q : length (take (length vs - 1) vs) - 1 ≡ length vs - 2
          = omega (arith, long) in q) ∙ get_or-take (length vs - 1) vs (length vs - 2) d (omega (arith, lt)))),
    )

-- a row over values whose parts stay is the same row
pub record RowStays (y : Spec) (w w' : Store) (ss : List Step) (vs : List Reference) : Type 0 where
  pub row : AreInRow y w' ss vs
  pub moves : moves_of y w' ss ≡ moves_of y w ss
  pub stack : held_trees w' (stacked ss vs) ≡ held_trees w (stacked ss vs)

pub row-stays : (y : Spec) (w w' : Store) (ss : List Step) (vs : List Reference) → AreInRow y w ss vs → KeepsParts w w' vs → RowStays y w w' ss vs
row-stays y w w' ss vs h keeps =
    let stays = given-stays y w w' ss vs h.held keeps h.given in
    record {
      row = record { held = held-stays w w' vs h.held keeps; steps = h.steps; given = stays.0; floor = h.floor; clear = h.clear };
      moves = stays.1;
      stack = stack-stays w w' ss vs h.held keeps;
    }

-- what an engine keeps stays with all its parts
pub parts-kept : (w w' : Store) (rs : List Reference) → AllHeld w rs → Keeps w w' rs → KeepsParts w w' rs
parts-kept w w' rs held keeps t r u c e within =
    let x = some-value (tree_at w r) (held r c) in
    keeps.trees t u e
    (r, (x.0, inr c, x.1, subst (λ (o : Option Tree). Contains (parts (unwrap_or o (list_of none))) u) x.1 within))

-- A loop's turn that collects the least place, places or items.
use Rattle.std.proofs.Common.{refl, sym, ap, ◌∙◌, arith, add-one, drop-cons}
use Rattle.std.proofs.Common.{inl, inr}
use Rattle.std.proofs.lemmas.Bool.{cases_lt}
use Rattle.std.proofs.Common.{subst}
use Rattle.std.proofs.lemmas.List.{drop_all, take_all, take_more}
use Rattle.std.specs.Prelude.{ℕ, ◌≡◌, ◌⊎◌, ◌+◌, ◌-◌, ◌<◌, ◌≤◌, List, [], ◌∷◌, ◌++◌, Option, None, length, map, take, drop, get_or, min}
use Rattle.rec_sorts.specs.Letters.{misplaced, ill_sorted_among}
use Rattle.rec_sorts.specs.Scope.{arguments_at}
use Rattle.rec_sorts.specs.declared.scope.Scope.{Scope}
use Rattle.rec_sorts.specs.declared.terms.Placed.{Placed}
use Rattle.rec_sorts.specs.Least.{earlier, joined}
use Rattle.rec_sorts.specs.Reading.{nowhere, places_over}
use Rattle.rec_sorts.specs.Numbering.{Pairwise}
use Rattle.rec_sorts.specs.declared.places.TermPlaces.{TermPlaces}
use Rattle.rec_sorts.proofs.LeastPlaceLemmas.{earlier_assoc, earlier_none, joined_assoc}
use Rattle.rec_sorts.proofs.StackLemmas.{map-append}

-- the rest of a list begins with the item at the index
pub drop-turn : {X : Type 0} (xs : List X) (i : ℕ) (d : X) → i < length xs → drop i xs ≡ get_or xs i d ∷ drop (i + 1) xs
drop-turn xs i d h = rw (add-one i) (drop-cons xs i d h)

-- one more pair
pub Pairwise-push : {X Y : Type 0} (P : X → Y → Type 0) (xs : List X) (ys : List Y) (x : X) (y : Y) → Pairwise P xs ys → P x y
    → Pairwise P (xs ++ x ∷ []) (ys ++ y ∷ [])
Pairwise-push P [] [] x y h p = (p, tt)
Pairwise-push P (v ∷ xs) (w ∷ ys) x y h p = (h.0, Pairwise-push P xs ys x y h.1 p)
Pairwise-push P [] (w ∷ ys) x y h p = absurd h
Pairwise-push P (v ∷ xs) [] x y h p = absurd h

-- one more item's image
pub map-take_turn : {X Y : Type 0} (f : X → Y) (xs : List X) (i : ℕ) (d : X) → i < length xs → d ≡ get_or xs i d
    → map f (take (i + 1) xs) ≡ map f (take i xs) ++ f d ∷ []
map-take_turn f xs i d h e =
    ap (map f) (take_more xs i d h)
    ∙ map-append f (take i xs) (get_or xs i d ∷ [])
    ∙ ap (λ x. map f (take i xs) ++ f x ∷ []) (sym e)

-- one more item is read
pub Pairwise_turn : {X Y Z : Type 0} (P : X → Y → Type 0) (f : Z → Y) (cs : List Z) (i : ℕ) (d : Z) (xs zs : List X) (x : X) → i < length cs
    → d ≡ get_or cs i d → zs ≡ xs ++ x ∷ []
    → Pairwise P xs (map f (take i cs)) → P x (f d) → Pairwise P zs (map f (take (i + 1) cs))
Pairwise_turn P f cs i d xs zs x h e grown all one =
    subst (λ us. Pairwise P us (map f (take (i + 1) cs))) (sym grown)
    (subst (λ vs. Pairwise P (xs ++ x ∷ []) vs) (sym (map-take_turn f cs i d h e)) (Pairwise-push P xs (map f (take i cs)) x (f d) all one))

-- one more item's places are collected
pub places_turn : {X Y : Type 0} (f : X → Y) (one : Y → TermPlaces) (xs : List X) (i : ℕ) (d : X) (places read new all : TermPlaces) → i < length xs
    → d ≡ get_or xs i d → new ≡ joined places read → read ≡ one (f d)
    → joined places (places_over one (map f (drop i xs))) ≡ all → joined new (places_over one (map f (drop (i + 1) xs))) ≡ all
places_turn f one xs i d places read new all h e grown found before =
    let later = places_over one (map f (drop (i + 1) xs)) in
    ap (λ p. joined p later) (grown ∙ ap (joined places) (found ∙ ap (λ x. one (f x)) e))
    ∙ joined_assoc places (one (f (get_or xs i d))) later
    ∙ ap (λ ys. joined places (places_over one (map f ys))) (sym (drop-turn xs i d h))
    ∙ before

-- all items are read
pub Pairwise_end : {X Y Z : Type 0} (P : X → Y → Type 0) (f : Z → Y) (cs : List Z) (i : ℕ) (xs : List X) → length cs ≤ i
    → Pairwise P xs (map f (take i cs)) → Pairwise P xs (map f cs)
Pairwise_end P f cs i xs past all = subst (λ ds. Pairwise P xs (map f ds)) (take_all i cs past) all

joined_nowhere : (p : TermPlaces) → joined p nowhere ≡ p
joined_nowhere p = λ i. record {
  unknown = earlier_none p.unknown i;
  ill_filled = earlier_none p.ill_filled i;
  ill_sorted = earlier_none p.ill_sorted i;
  ill_headed = earlier_none p.ill_headed i;
  unlike = earlier_none p.unlike i;
  unbound = earlier_none p.unbound i;
  free = earlier_none p.free i;
}

-- the places of all items are collected
pub places_end : {X Y : Type 0} (f : X → Y) (one : Y → TermPlaces) (xs : List X) (i : ℕ) (places all : TermPlaces) → length xs ≤ i
    → joined places (places_over one (map f (drop i xs))) ≡ all → places ≡ all
places_end f one xs i places all past before =
    sym (joined_nowhere places)
    ∙ ap (λ ys. joined places (places_over one (map f ys))) (sym (drop_all i xs past))
    ∙ before

pub misplaced-nothing : (s : Scope) (ps : List Placed) → misplaced s ps [] ≡ None
misplaced-nothing s [] = refl
misplaced-nothing s (p ∷ ps) = refl

misplaced-done : (s : Scope) (ps : List Placed) (ss : List (Option ℕ)) (n : ℕ) → n ≡ min (length ps) (length ss) → misplaced s (drop n ps) (drop n ss) ≡ None
misplaced-done s ps ss n e = by_end (cases_lt (length ps) (length ss))
  where
    by_end : (length ps < length ss) ⊎ (length ss ≤ length ps) → misplaced s (drop n ps) (drop n ss) ≡ None
    by_end (inl h) = ap (λ qs. misplaced s qs (drop n ss)) (drop_all n ps (omega arith))
    by_end (inr h) = ap (λ ts. misplaced s (drop n ps) ts) (drop_all n ss (omega arith)) ∙ misplaced-nothing s (drop n ps)

-- all arguments that have a sort for them are compared
pub misplaced_end : (s : Scope) (ps : List Placed) (ss : List (Option ℕ)) (n : ℕ) (least all : Option ℕ) → n ≡ min (length ps) (length ss)
    → earlier least (misplaced s (drop n ps) (drop n ss)) ≡ all → least ≡ all
misplaced_end s ps ss n least all e h = sym (earlier_none least) ∙ ap (earlier least) (sym (misplaced-done s ps ss n e)) ∙ h

-- one more item's arguments are compared, with the heads of the terms before it
pub ill_sorted_turn : (s : Scope) (letters : List Placed) (i : ℕ) (d : Placed) (heads cut after : List Placed) (base : ℕ)
    (least found new all : Option ℕ) → i < length letters → d ≡ get_or letters i d → base ≡ length heads - d.count
    → found ≡ misplaced s (drop base heads) (arguments_at s d.meaning) → new ≡ earlier least found → cut ≡ take base heads → after ≡ cut ++ d ∷ []
    → earlier least (ill_sorted_among s heads (drop i letters)) ≡ all → earlier new (ill_sorted_among s after (drop (i + 1) letters)) ≡ all
ill_sorted_turn s letters i d heads cut after base least found new all h is at compared grown kept pushed before =
    let later : Option ℕ = ill_sorted_among s (take base heads ++ d ∷ []) (drop (i + 1) letters) in
    ap (λ hs. earlier new (ill_sorted_among s hs (drop (i + 1) letters))) (pushed ∙ ap (λ hs. hs ++ d ∷ []) kept)
    ∙ ap (λ p. earlier p later) (grown ∙ ap (earlier least) compared)
    ∙ earlier_assoc least (misplaced s (drop base heads) (arguments_at s d.meaning)) later
    ∙ ap (λ (n : ℕ). earlier least (earlier (misplaced s (drop n heads) (arguments_at s d.meaning))
    (ill_sorted_among s (take n heads ++ d ∷ []) (drop (i + 1) letters)))) at
    ∙ ap (λ p. earlier least (ill_sorted_among s heads (p ∷ drop (i + 1) letters))) is
    ∙ ap (λ ps. earlier least (ill_sorted_among s heads ps)) (sym (drop-turn letters i d h))
    ∙ before

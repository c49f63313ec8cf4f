-- Lists that grow in a loop by what each item gives.
use Rattle.std.proofs.Common.{sym, ap, subst, arith, inl, inr, ◌∙◌, append_assoc}
use Rattle.std.proofs.lemmas.Bool.{cases_eq}
use Rattle.std.proofs.lemmas.List.{append-nil, take_all}
use Rattle.std.proofs.lemmas.List.Concat.{flat_map-append}
use Rattle.std.specs.Prelude.{ℕ, ◌≡◌, ◌≢◌, ◌⊎◌, ◌+◌, ◌<◌, ◌≤◌, List, [], ◌∷◌, ◌++◌, length, map, flat_map, take, get_or}
use Rattle.rec_match.proofs.ItemLemmas.{get-front, get-last}
use Rattle.rec_sorts.proofs.StackLemmas.{map-append}
use Rattle.rec_sorts.proofs.TurnLemmas.{map-take_turn}

-- one item more gives one more
pub grown_by_one : {A B C : Type 0} (v : A → B) (f : C → B) (xs : List C) (i : ℕ) (x : C) (old now new : List A) (a : A) → i < length xs → x ≡ get_or xs i x
    → map v now ≡ map v old ++ map f (take i xs) → new ≡ now ++ a ∷ [] → v a ≡ f x → map v new ≡ map v old ++ map f (take (i + 1) xs)
grown_by_one v f xs i x old now new a h e before pushed one =
    ap (map v) pushed
    ∙ map-append v now (a ∷ [])
    ∙ ap (λ ys. ys ++ v a ∷ []) before
    ∙ append_assoc (map v old) (map f (take i xs)) (v a ∷ [])
    ∙ ap (λ b. map v old ++ (map f (take i xs) ++ b ∷ [])) one
    ∙ ap (λ ys. map v old ++ ys) (sym (map-take_turn f xs i x h e))

-- all items gave one
pub grown_by_ones : {A B C : Type 0} (v : A → B) (f : C → B) (xs : List C) (i : ℕ) (old new : List A) → length xs ≤ i
    → map v new ≡ map v old ++ map f (take i xs) → map v new ≡ map v old ++ map f xs
grown_by_ones v f xs i old new past before = before ∙ ap (λ ys. map v old ++ map f ys) (take_all i xs past)

-- one item more gives some
pub grown_by_some : {A B C D : Type 0} (v : A → B) (f : D → List B) (g : C → D) (xs : List C) (i : ℕ) (x : C) (old now new : List A) → i < length xs
    → x ≡ get_or xs i x
    → map v now ≡ map v old ++ flat_map f (map g (take i xs)) → map v new ≡ map v now ++ f (g x) → map v new ≡ map v old ++ flat_map f (map g (take (i + 1) xs))
grown_by_some v f g xs i x old now new h e before pushed =
    pushed
    ∙ ap (λ ys. ys ++ f (g x)) before
    ∙ append_assoc (map v old) (flat_map f (map g (take i xs))) (f (g x))
    ∙ ap (λ ys. map v old ++ (flat_map f (map g (take i xs)) ++ ys)) (sym (append-nil (f (g x))))
    ∙ ap (λ ys. map v old ++ ys) (sym (flat_map-append f (map g (take i xs)) (g x ∷ [])))
    ∙ ap (λ ys. map v old ++ flat_map f ys) (sym (map-take_turn g xs i x h e))

-- all items gave some
pub grown_by_all : {A B C D : Type 0} (v : A → B) (f : D → List B) (g : C → D) (xs : List C) (i : ℕ) (old new : List A) → length xs ≤ i
    → map v new ≡ map v old ++ flat_map f (map g (take i xs)) → map v new ≡ map v old ++ flat_map f (map g xs)
grown_by_all v f g xs i old new past before = before ∙ ap (λ ys. map v old ++ flat_map f (map g ys)) (take_all i xs past)

-- grown twice
pub grown_twice : {B : Type 0} (old now new xs ys : List B) → now ≡ old ++ xs → new ≡ now ++ ys → new ≡ old ++ (xs ++ ys)
grown_twice old now new xs ys e f = f ∙ ap (λ zs. zs ++ ys) e ∙ append_assoc old xs ys

-- what holds for each number and its place, for one number more
pub each_more : (P : ℕ → ℕ → Type 0) (ks new : List ℕ) (n k : ℕ) → length ks ≡ n → ((i : ℕ) → i < n → P i (get_or ks i 0)) → new ≡ ks ++ k ∷ [] → P n k
    → (i : ℕ) → i < n + 1 → P i (get_or new i 0)
each_more P ks new n k long each e own i lt = by (cases_eq i n)
  where
    by : (i ≡ n) ⊎ (i ≢ n) → P i (get_or new i 0)
    by (inl q) = subst (λ j. P j (get_or new j 0)) (sym q) (subst (P n) (sym (ap (λ xs. get_or xs n 0) e ∙ get-last ks k n 0 (sym long))) own)
    by (inr d) =
        let below : i < n = omega (arith, lt, d) in
        subst (P i) (sym (ap (λ xs. get_or xs i 0) e ∙ get-front ks k i 0 (omega (arith, below, long)))) (each i below)

-- The requests of bytes: piece by piece, and as the lines of a stream.
use Rattle.std.proofs.Common.{◌≡◌, ℕ, suc, ◌+◌, ◌<◌, ◌≤◌, Bool, true, false, ◌==◌, List, [], ◌∷◌, ◌++◌, Option, Some}
use Rattle.std.proofs.Common.{None, inl, inr, refl, sym, ap, subst, ◌∙◌, append_assoc, length, take, drop, arith}
use Rattle.std.specs.Prelude.{◌⊎◌, cond, codes, not, nat_lt, position}
use Rattle.std.specs.List.{position_or_len}
use Rattle.std.proofs.lemmas.Bool.{eqb-true}
use Rattle.std.proofs.lemmas.Bool.Decides.{nat_tests}
use Rattle.std.proofs.lemmas.List.Sums.{sum_by-append}
use Rattle.rec_sorts.specs.Laws.{Every}
use Rattle.rx_run.specs.Bytes.{newlines}
use Rattle.rec_serve.specs.Conversation.{in_front, requests}
use Rattle.rec_serve.specs.Laws.{IsInLine, RequestsLaw, ended}
use Rattle.rec_serve.specs.Inner.Reading.{all_in_front}

abbrev is_end : ℕ → Bool
is_end b = b == 10

-- the requests of bytes that begin with this one, by whether it is a line end
ended_at : (b : ℕ) (bs : List ℕ) → (b == 10) ≡ true → requests (b ∷ bs) ≡ [] ∷ requests bs
ended_at b bs e = ap (λ t. cond t ([] ∷ requests bs) (in_front b (requests bs))) e

begun_at : (b : ℕ) (bs : List ℕ) → (b == 10) ≡ false → requests (b ∷ bs) ≡ in_front b (requests bs)
begun_at b bs e = ap (λ t. cond t ([] ∷ requests bs) (in_front b (requests bs))) e

-- ---- pieces

-- the bytes before the first line end, by the first byte
first_end : (b : ℕ) (bs : List ℕ) → (b == 10) ≡ true → position_or_len is_end (b ∷ bs) ≡ 0
first_end b bs e = ap (λ t. cond (not t) (1 + position_or_len is_end bs) 0) e

later_end : (b : ℕ) (bs : List ℕ) → (b == 10) ≡ false → position_or_len is_end (b ∷ bs) ≡ 1 + position_or_len is_end bs
later_end b bs e = ap (λ t. cond (not t) (1 + position_or_len is_end bs) 0) e

-- no line end among these bytes: they stand in front of the first request of the rest
inside : (bs rest : List ℕ) → length bs ≤ position_or_len is_end bs → requests (bs ++ rest) ≡ all_in_front bs (requests rest)
inside [] rest h = refl
inside (b ∷ bs) rest h = by (inside bs rest) (b == 10) refl
  where
    by : (length bs ≤ position_or_len is_end bs → requests (bs ++ rest) ≡ all_in_front bs (requests rest)) → (t : Bool) → (b == 10) ≡ t
        → requests (b ∷ (bs ++ rest)) ≡ in_front b (all_in_front bs (requests rest))
    by others true e = absurd (let k = first_end b bs e in omega (arith, h, k))
    by others false e = begun_at b (bs ++ rest) e ∙ ap (in_front b) (others (let k = later_end b bs e in omega (arith, h, k)))

-- a line end behind so many bytes: these are the first request, and the others are those of the rest
up_to : (bs rest : List ℕ) → position_or_len is_end bs < length bs
    → requests (bs ++ rest) ≡ all_in_front (take (position_or_len is_end bs) bs) ([] ∷ requests (drop (position_or_len is_end bs + 1) bs ++ rest))
up_to [] rest h = absurd (omega (arith, h))
up_to (b ∷ bs) rest h = by (up_to bs rest) (b == 10) refl
  where
    by : (position_or_len is_end bs < length bs → requests (bs ++ rest) ≡ all_in_front (take (position_or_len is_end bs) bs)
        ([] ∷ requests (drop (position_or_len is_end bs + 1) bs ++ rest))) → (t : Bool) → (b == 10) ≡ t
        → requests (b ∷ (bs ++ rest)) ≡ all_in_front (take (position_or_len is_end (b ∷ bs)) (b ∷ bs))
        ([] ∷ requests (drop (position_or_len is_end (b ∷ bs) + 1) (b ∷ bs) ++ rest))
    by others true e = rw (first_end b bs e) (ended_at b (bs ++ rest) e)
    by others false e =
        let k = position_or_len is_end bs in
        let first : position_or_len is_end (b ∷ bs) ≡ suc k = later_end b bs e ∙ (let s : 1 + k ≡ suc k = omega arith in s) in
        let later : suc k + 1 ≡ suc (k + 1) = omega arith in
        rw (first, later) (begun_at b (bs ++ rest) e ∙ ap (in_front b) (others (omega (arith, h, first))))

-- the same by what `position` answers
pub none_inside : (bs rest : List ℕ) → position (λ b. b == 10) bs ≡ None → requests (bs ++ rest) ≡ all_in_front bs (requests rest)
none_inside bs rest e = by (nat_lt (position_or_len is_end bs) (length bs)) refl e
  where
    by : (t : Bool) → nat_lt (position_or_len is_end bs) (length bs) ≡ t → ◌≡◌ {A = Option ℕ} (cond t (Some (position_or_len is_end bs)) None) None
        → requests (bs ++ rest) ≡ all_in_front bs (requests rest)
    by true k h = absurd (cc h)
    by false k h = inside bs rest (grind (arith, nat_tests, k))

pub record EndsAt (bs : List ℕ) (i : ℕ) : Type 0 where
  pub low : i < length bs
  pub split : (rest : List ℕ) → requests (bs ++ rest) ≡ all_in_front (take i bs) ([] ∷ requests (drop (i + 1) bs ++ rest))

pub ends_at : (bs : List ℕ) (i : ℕ) → position (λ b. b == 10) bs ≡ Some i → EndsAt bs i
ends_at bs i e = by (nat_lt (position_or_len is_end bs) (length bs)) refl e
  where
    by : (t : Bool) → nat_lt (position_or_len is_end bs) (length bs) ≡ t
        → ◌≡◌ {A = Option ℕ} (cond t (Some (position_or_len is_end bs)) None) (Some i) → EndsAt bs i
    by false k h = absurd (cc h)
    by true k h =
        let low : position_or_len is_end bs < length bs = grind (arith, nat_tests, k) in
        let same : position_or_len is_end bs ≡ i = cc h in
        subst (EndsAt bs) same (record { low = low; split = λ rest. up_to bs rest low })

-- bytes in front of one that stands in front
pub front-append : (xs ys : List ℕ) (rs : List (List ℕ)) → all_in_front (xs ++ ys) rs ≡ all_in_front xs (all_in_front ys rs)
front-append [] ys rs = refl
front-append (x ∷ xs) ys rs = ap (in_front x) (front-append xs ys rs)

-- bytes in front of an empty request are the request
pub front-ended : (xs : List ℕ) (rs : List (List ℕ)) → all_in_front xs ([] ∷ rs) ≡ xs ∷ rs
front-ended [] rs = refl
front-ended (x ∷ xs) rs = ap (in_front x) (front-ended xs rs)

-- bytes in front of no request are one, where there are any
pub front-alone : (xs : List ℕ) → 0 < length xs → all_in_front xs [] ≡ xs ∷ []
front-alone [] h = absurd (omega (arith, h))
front-alone (x ∷ []) h = refl
front-alone (x ∷ y ∷ ys) h = ap (in_front x) (front-alone (y ∷ ys) (omega arith))

-- ---- the lines of a stream

-- only nothing has no request
filled : (b : ℕ) (bs : List ℕ) → requests (b ∷ bs) ≡ [] → ⊥
filled b bs e = by (b == 10) refl
  where
    in_front-filled : (rs : List (List ℕ)) → in_front b rs ≡ [] → ⊥
    in_front-filled [] h = absurd (cc h)
    in_front-filled (r ∷ rs) h = absurd (cc h)

    by : (t : Bool) → (b == 10) ≡ t → ⊥
    by true k = let h = sym (ended_at b bs k) ∙ e in absurd (cc h)
    by false k = in_front-filled (requests bs) (sym (begun_at b bs k) ∙ e)

-- a first request begins with a byte
ended-front : (b : ℕ) (rs : List (List ℕ)) → (rs ≡ [] → ⊥) → ended (in_front b rs) ≡ b ∷ ended rs
ended-front b [] h = absurd (h refl)
ended-front b (r ∷ rs) h = refl

all_of : (bytes : List ℕ) → (ended (requests bytes) ≡ bytes) ⊎ (ended (requests bytes) ≡ bytes ++ codes "\n")
all_of [] = inl refl
all_of (b ∷ bs) = by (all_of bs) (b == 10) refl
  where
    Others : Type 0
    Others = (ended (requests bs) ≡ bs) ⊎ (ended (requests bs) ≡ bs ++ codes "\n")

    Is : List (List ℕ) → Type 0
    Is rs = (ended rs ≡ b ∷ bs) ⊎ (ended rs ≡ (b ∷ bs) ++ codes "\n")

    alone : bs ≡ [] → Is (in_front b (requests bs))
    alone e = inr (ap (λ z. ended (in_front b (requests z))) e ∙ ap (λ z. b ∷ (z ++ codes "\n")) (sym e))

    first : Others → (requests bs ≡ [] → ⊥) → Is (in_front b (requests bs))
    first others some = elim others [
      | inl e ↦ inl (ended-front b (requests bs) some ∙ ap (λ z. b ∷ z) e)
      | inr e ↦ inr (ended-front b (requests bs) some ∙ ap (λ z. b ∷ z) e)
    ]

    begun : Others → (cs : List ℕ) → bs ≡ cs → Is (in_front b (requests bs))
    begun others [] e = alone e
    begun others (c ∷ cs) e = first others (λ h. filled c cs (ap requests (sym e) ∙ h))

    by : Others → (t : Bool) → (b == 10) ≡ t → Is (requests (b ∷ bs))
    by others true e =
        let end : b ≡ 10 = eqb-true b 10 e in
        subst Is (sym (ended_at b bs e)) (elim others [
          | inl h ↦ inl (ap (λ z. 10 ∷ z) h ∙ ap (λ z. z ∷ bs) (sym end))
          | inr h ↦ inr (ap (λ z. 10 ∷ z) h ∙ ap (λ z. z ∷ (bs ++ codes "\n")) (sym end))
        ])
    by others false e = subst Is (sym (begun_at b bs e)) (begun others bs refl)

newlines-first : (b : ℕ) (bs : List ℕ) → newlines (b ∷ bs) ≡ newlines (b ∷ []) + newlines bs
newlines-first b bs = sum_by-append (λ c. cond (c == 10) 1 0) (b ∷ []) bs

-- a byte that is no line end adds none
other_byte : (b : ℕ) (bs : List ℕ) → (b == 10) ≡ false → newlines bs ≡ 0 → newlines (b ∷ bs) ≡ 0
other_byte b bs h k =
    let none : newlines (b ∷ []) ≡ 0 = ap (λ t. 0 + cond t 1 0) h in
    let all = newlines-first b bs in
    omega (arith, k, none, all)

in_lines : (bytes : List ℕ) → Every IsInLine (requests bytes)
in_lines [] = tt
in_lines (b ∷ bs) = by (in_lines bs) (b == 10) refl
  where
    begun : (b == 10) ≡ false → (rs : List (List ℕ)) → Every IsInLine rs → Every IsInLine (in_front b rs)
    begun e [] h = (other_byte b [] e refl, tt)
    begun e (r ∷ rs) h = (other_byte b r e h.0, h.1)

    by : Every IsInLine (requests bs) → (t : Bool) → (b == 10) ≡ t → Every IsInLine (requests (b ∷ bs))
    by others true e = subst (Every IsInLine) (sym (ended_at b bs e)) (refl, others)
    by others false e = subst (Every IsInLine) (sym (begun_at b bs e)) (begun e (requests bs) others)

ended_line : (b : ℕ) (bs : List ℕ) → (b == 10) ≡ true → newlines (b ∷ bs) ≡ 0 → ⊥
ended_line b bs e h =
    let one : newlines (b ∷ []) ≡ 1 = ap (λ t. 0 + cond t 1 0) e in
    let all = newlines-first b bs in
    omega (arith, h, one, all)

others_line : (b : ℕ) (bs : List ℕ) → (b == 10) ≡ false → newlines (b ∷ bs) ≡ 0 → newlines bs ≡ 0
others_line b bs e h =
    let none : newlines (b ∷ []) ≡ 0 = ap (λ t. 0 + cond t 1 0) e in
    let all = newlines-first b bs in
    omega (arith, h, none, all)

-- a line is the first request of what begins with it
line_first : (r rest : List ℕ) → newlines r ≡ 0 → requests (r ++ 10 ∷ rest) ≡ r ∷ requests rest
line_first [] rest h = refl
line_first (b ∷ bs) rest h = by (line_first bs rest) (b == 10) refl
  where
    by : (newlines bs ≡ 0 → requests (bs ++ 10 ∷ rest) ≡ bs ∷ requests rest) → (t : Bool) → (b == 10) ≡ t
        → requests (b ∷ (bs ++ 10 ∷ rest)) ≡ (b ∷ bs) ∷ requests rest
    by others true e = absurd (ended_line b bs e h)
    by others false e = begun_at b (bs ++ 10 ∷ rest) e ∙ ap (in_front b) (others (others_line b bs e h))

back_of : (rs : List (List ℕ)) → Every IsInLine rs → requests (ended rs) ≡ rs
back_of [] h = refl
back_of (r ∷ rs) h = ap requests (append_assoc r (10 ∷ []) (ended rs)) ∙ line_first r (ended rs) h.0 ∙ ap (λ z. r ∷ z) (back_of rs h.1)

pub requests_law_lem : RequestsLaw
requests_law_lem = record { all = all_of; in_line = in_lines; back = back_of }

-- a byte in front of the first of some requests, and others behind them
front_of-append : (b : ℕ) (rs ss : List (List ℕ)) → (rs ≡ [] → ⊥) → in_front b (rs ++ ss) ≡ in_front b rs ++ ss
front_of-append b [] ss h = absurd (h refl)
front_of-append b (r ∷ rs) ss h = refl

ended-filled : (xs ys : List ℕ) → requests (xs ++ 10 ∷ ys) ≡ [] → ⊥
ended-filled [] ys e = filled 10 ys e
ended-filled (x ∷ xs) ys e = filled x (xs ++ 10 ∷ ys) e

-- the requests up to a line end, and those behind it
pub requests-divided : (xs ys : List ℕ) → requests (xs ++ 10 ∷ ys) ≡ requests (xs ++ 10 ∷ []) ++ requests ys
requests-divided [] ys = refl
requests-divided (x ∷ xs) ys = by (requests-divided xs ys) (x == 10) refl
  where
    by : requests (xs ++ 10 ∷ ys) ≡ requests (xs ++ 10 ∷ []) ++ requests ys → (t : Bool) → (x == 10) ≡ t
        → requests (x ∷ (xs ++ 10 ∷ ys)) ≡ requests (x ∷ (xs ++ 10 ∷ [])) ++ requests ys
    by others true e = ended_at x (xs ++ 10 ∷ ys) e ∙ ap (λ z. [] ∷ z) others ∙ ap (λ z. z ++ requests ys) (sym (ended_at x (xs ++ 10 ∷ []) e))
    by others false e =
        begun_at x (xs ++ 10 ∷ ys) e ∙ ap (in_front x) others
        ∙ front_of-append x (requests (xs ++ 10 ∷ [])) (requests ys) (ended-filled xs [])
        ∙ ap (λ z. z ++ requests ys) (sym (begun_at x (xs ++ 10 ∷ []) e))

-- Which lines begin with a digit.
use Rattle.std.proofs.Common.{refl, sym, ap, ◌∙◌, arith}
use Rattle.std.specs.Prelude.{ℕ, zero, suc, ◌+◌, ◌-◌, ◌%◌, ◌^◌, ◌==◌, ◌≡◌, ◌<◌, ◌≤◌, ◌&&◌, ◌||◌, not, Bool}
use Rattle.std.specs.Prelude.{true, false, List, [], ◌∷◌, ◌++◌, codes, decimal, length, nat_eq, nat_le, take}
use Rattle.std.proofs.lemmas.Bool.{eqb-true, leb-true, le-leb, lt-leb}
use Rattle.std.proofs.lemmas.Fmt.{decimal_by_steps}
use Rattle.std.specs.List.{list_all}
use Rattle.rx_term.specs.Name.{plain_name, starts_name, continues_name}
use Rattle.rec_syntax.specs.Syntax.{head}
use Rattle.rx_text.specs.Canon.{canon, canon_all, enclosed, name_text, no_arguments}
use Rattle.rec_trace.specs.Lines.{ends_in, line_of, column_of, cut, spent_text, place_text, begins_with_digit, ValueLineLaw, FiringLineLaw}

and-false : (b : Bool) → b && false ≡ false
and-false true = refl
and-false false = refl

and-first : (a b : Bool) → a && b ≡ true → a ≡ true
and-first true b e = refl
and-first false b e = absurd (cc e)

differs : (b k : ℕ) → (b ≡ k → ⊥) → (b == k) ≡ false
differs b k apart = by (b == k) refl
  where
    by : (c : Bool) → (b == k) ≡ c → (b == k) ≡ false
    by true e = absurd (apart (eqb-true b k e))
    by false e = e

-- a letter or `_` is no digit
no-digit : (b : ℕ) → starts_name b ≡ true → nat_le 48 b && nat_le b 57 ≡ false
no-digit b e = by (nat_le b 57) refl
  where
    by : (c : Bool) → nat_le b 57 ≡ c → nat_le 48 b && nat_le b 57 ≡ false
    by false f = ap (λ c. nat_le 48 b && c) f ∙ and-false (nat_le 48 b)
    by true f =
        let small : b ≤ 57 = leb-true b 57 f in
        let upper : nat_le 65 b ≡ false = lt-leb 65 b (omega (arith, small)) in
        let lower : nat_le 97 b ≡ false = lt-leb 97 b (omega (arith, small)) in
        let other : (b == 95) ≡ false = differs b 95 (λ q. omega (arith, small, q)) in
        let none_of : starts_name b ≡ false = λ i. (upper i && nat_le b 90) || (lower i && nat_le b 122) || other i in
        absurd (cc (sym e ∙ none_of))

-- ---- values

-- a text begins with a byte that is no digit
abbrev BeginsOther : List ℕ → Type 0
BeginsOther [] = ⊥
BeginsOther (b ∷ bs) = nat_le 48 b && nat_le b 57 ≡ false

other-front : (xs ys : List ℕ) → BeginsOther xs → BeginsOther (xs ++ ys)
other-front [] ys h = absurd h
other-front (x ∷ xs) ys h = h

other-false : (xs : List ℕ) → BeginsOther xs → begins_with_digit xs ≡ false
other-false [] h = absurd h
other-false (x ∷ xs) h = h

name-begins : (name : List ℕ) (p : Bool) → plain_name name ≡ p → BeginsOther (name_text name (not p))
name-begins name false e = refl
name-begins [] true e = absurd (cc e)
name-begins (b ∷ bs) true e = no-digit b (and-first (starts_name b) (list_all continues_name bs) e)

pub value_line_law : ValueLineLaw
value_line_law counted n left name ts notes =
    let quoted : Bool = not (plain_name name) in
    let own : List ℕ = name_text name quoted in
    let args : List ℕ = enclosed 40 ts (canon_all ts) 41 (no_arguments name quoted) in
    let anns : List ℕ = enclosed 123 notes (canon_all notes) 125 [] in
    let spent : List ℕ = spent_text counted (n - left) in (
      other-false ((((own ++ args) ++ anns) ++ spent) ++ codes "\n")
          (other-front (((own ++ args) ++ anns) ++ spent) (codes "\n")
          (other-front ((own ++ args) ++ anns) spent (other-front (own ++ args) anns (other-front own args (name-begins name (plain_name name) refl))))),
      refl,
    )

-- ---- firings

digit-first : (n : ℕ) → n < 2 ^ 64 → begins_with_digit (decimal n) ≡ true
digit-first n lt = decimal_by_steps (λ k ds. begins_with_digit ds ≡ true) one more n lt
  where
    one : (k : ℕ) → k < 10 → begins_with_digit ((48 + k) ∷ []) ≡ true
    one k low = both (nat_le 48 (48 + k)) (nat_le (48 + k) 57) (le-leb 48 (48 + k) (omega arith)) (le-leb (48 + k) 57 (omega arith))
      where
        both : (a b : Bool) → a ≡ true → b ≡ true → a && b ≡ true
        both true b p q = q
        both false b p q = absurd (cc p)

    more : (k : ℕ) (ds : List ℕ) → 10 ≤ k → begins_with_digit ds ≡ true → begins_with_digit (ds ++ ((48 + k % 10) ∷ [])) ≡ true
    more k [] le h = absurd (cc h)
    more k (d ∷ ds) le h = h

ends-few : (xs : List ℕ) → ends_in xs ≤ length xs
ends-few [] = omega arith
ends-few (x ∷ xs) = by (nat_eq x 10) (ends-few xs)
  where
    by : (b : Bool) → ends_in xs ≤ length xs → (elim b [ true ↦ suc (ends_in xs) | false ↦ ends_in xs ]) ≤ suc (length xs)
    by true h = omega (arith, h)
    by false h = omega (arith, h)

take-few : (n : ℕ) (xs : List ℕ) → length (take n xs) ≤ length xs
take-few zero xs = by xs
  where
    by : (ys : List ℕ) → length (take zero ys) ≤ length ys
    by [] = omega arith
    by (y ∷ ys) = omega arith
take-few (suc n) [] = omega arith
take-few (suc n) (x ∷ xs) = let h = take-few n xs in omega (arith, h)

front : (xs ys : List ℕ) → begins_with_digit xs ≡ true → begins_with_digit (xs ++ ys) ≡ true
front [] ys h = absurd (cc h)
front (x ∷ xs) ys h = h

placed : (source : List ℕ) (at : ℕ) → length source < 2 ^ 63 → begins_with_digit (place_text (line_of source at) (column_of source at)) ≡ true
placed source at short =
    let few = ends-few (take at source) in
    let cut = take-few at source in
    let low : suc (ends_in (take at source)) < 2 ^ 64 = omega (arith, few, cut, short) in
    let first = digit-first (suc (ends_in (take at source))) low in
    let line : List ℕ = decimal (line_of source at) in
    let column : List ℕ = decimal (column_of source at) in
    front ((line ++ codes ":") ++ column) (codes ": ") (front (line ++ codes ":") column (front line (codes ":") first))

pub firing_line_law : FiringLineLaw
firing_line_law source counted width n f short =
    let at = (head f.found.rule.left).at in
    let place : List ℕ = place_text (line_of source at) (column_of source at) in
    let redex : List ℕ = cut width (canon f.redex) in
    let contractum : List ℕ = cut width (canon f.contractum) in
    let after : List ℕ = cut width (canon f.after) in
    let spent : List ℕ = spent_text counted (n - f.left) in
    let first = placed source at short in (
      front ((((place ++ redex) ++ codes " -> ") ++ contractum) ++ spent) (codes "\n")
          (front (((place ++ redex) ++ codes " -> ") ++ contractum) spent
          (front ((place ++ redex) ++ codes " -> ") contractum (front (place ++ redex) (codes " -> ") (front place redex first)))),
      front ((place ++ after) ++ spent) (codes "\n") (front (place ++ after) spent (front place after first)),
    )

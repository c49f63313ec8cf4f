-- A printed text has bytes from 32 to 126 alone, and no `!` in front.
use Rattle.std.proofs.Common.{◌≡◌, ◌≢◌, ℕ, ◌+◌, ◌/◌, ◌%◌, ◌<◌, ◌≤◌, ◌^◌, suc, true, false, Bool, ◌&&◌, ◌||◌}
use Rattle.std.proofs.Common.{◌==◌, not, cond, List, [], ◌∷◌, ◌++◌, refl, pos, negsuc, ℤ, inl, inr, arith}
use Rattle.std.specs.Prelude.{nat_le, nat_lt, flat_map, decimal, codes, slice_index}
use Rattle.std.specs.Fmt.{signed_decimal}
use Rattle.std.specs.List.{list_all, list_any, AllByRecursion}
use Rattle.std.specs.Str.Parse.{AllDigits, IsNumeral}
use Rattle.std.proofs.lemmas.Fmt.{decimal_is_IsNumeral}
use Rattle.std.proofs.lemmas.Str.Parse.{digit_from_value}
use Rattle.std.proofs.lemmas.List.Folds.{list_all-append}
use Rattle.std.proofs.lemmas.List.Elements.{All-from_recursion}
use Rattle.std.proofs.lemmas.Bool.{le-leb, leb-true}
use Rattle.std.proofs.lemmas.Bool.Decides.{Decides-eqb}
use Rattle.rx_term.specs.Name.{starts_name, continues_name, is_digit, plain_name, is_name, is_empty}
use Rattle.rx_term.specs.Tree.{Tree, Trees, none, more, Int, Appl, Items, Hole, is_i32, is_tree, are_trees}
use Rattle.rx_text.specs.Canon.{canon, canon_all, canon_others, enclosed, name_text, no_arguments, quoted_byte, octal_text}
use Rattle.rx_text.specs.Law.{StaysInLine}
use Rattle.rx_text.proofs.CuttingLemmas.{and_parts, or_cases, letter_above}

-- a byte that can be seen, or a blank
abbrev pub seen : ℕ → Bool
seen b = nat_le 32 b && nat_le b 126

seen_between : (b : ℕ) → 32 ≤ b → b ≤ 126 → seen b ≡ true
seen_between b h k = rw (le-leb 32 b h, le-leb b 126 k) refl

both_seen : (xs ys : List ℕ) → list_all seen xs ≡ true → list_all seen ys ≡ true → list_all seen (xs ++ ys) ≡ true
both_seen xs ys h k = rw (list_all-append seen xs ys, h, k) refl

digits_seen : (ds : List ℕ) → AllDigits 10 ds → list_all seen ds ≡ true
digits_seen [] h = refl
digits_seen (d ∷ ds) h = let k = digit_from_value d h.0 in rw (seen_between d (omega (arith, k.0)) (omega (arith, k.1)), digits_seen ds h.1) refl

integer_seen : (z : ℤ) → is_i32 z ≡ true → list_all seen (signed_decimal z) ≡ true
integer_seen (pos n) h = let k = leb-true (suc n) (2 ^ 31) h in digits_seen (decimal n) (decimal_is_IsNumeral n (omega (arith, k))).0.1
integer_seen (negsuc n) h = let k = leb-true (suc n) (2 ^ 31) h in digits_seen (decimal (suc n)) (decimal_is_IsNumeral (suc n) (omega (arith, k))).0.1

-- letters end at 122
letter_below : (b : ℕ) → starts_name b ≡ true → b ≤ 122
letter_below b h =
    elim (or_cases ((nat_le 65 b && nat_le b 90) || (nat_le 97 b && nat_le b 122)) (b == 95) h) [
      | inl k ↦ elim (or_cases (nat_le 65 b && nat_le b 90) (nat_le 97 b && nat_le b 122) k) [
        | inl l ↦ let m = leb-true b 90 (and_parts (nat_le 65 b) (nat_le b 90) l).1 in omega (arith, m)
        | inr l ↦ leb-true b 122 (and_parts (nat_le 97 b) (nat_le b 122) l).1
      ]
      | inr k ↦ let e : b ≡ 95 = (Decides-eqb b 95).0 k in omega arith
    ]

pub letter_seen : (b : ℕ) → starts_name b ≡ true → seen b ≡ true
letter_seen b h = let k = letter_above b h in let l = letter_below b h in seen_between b (omega (arith, k)) (omega (arith, l))

-- one of a few bytes that are seen
one_of_seen : (b : ℕ) (cs : List ℕ) → list_all seen cs ≡ true → list_any (λ c. b == c) cs ≡ true → seen b ≡ true
one_of_seen b [] h k = absurd (cc k)
one_of_seen b (c ∷ cs) h k =
    let l = and_parts (seen c) (list_all seen cs) h in
    elim (or_cases (b == c) (list_any (λ d. b == d) cs) k) [
      | inl e ↦ rw ((Decides-eqb b c).0 e) l.0
      | inr m ↦ one_of_seen b cs l.1 m
    ]

pub continuing_seen : (b : ℕ) → continues_name b ≡ true → seen b ≡ true
continuing_seen b h =
    elim (or_cases (starts_name b || is_digit b) (list_any (λ c. b == c) (codes "-+*$.")) h) [
      | inl k ↦ elim (or_cases (starts_name b) (is_digit b) k) [
        | inl l ↦ letter_seen b l
        | inr l ↦ let m = and_parts (nat_le 48 b) (nat_le b 57) l in let x = leb-true 48 b m.0 in let y = leb-true b 57 m.1 in
            seen_between b (omega (arith, x)) (omega (arith, y))
      ]
      | inr k ↦ one_of_seen b (codes "-+*$.") refl k
    ]

name_seen : (bs : List ℕ) → list_all continues_name bs ≡ true → list_all seen bs ≡ true
name_seen [] h = refl
name_seen (b ∷ bs) h = let k = and_parts (continues_name b) (list_all continues_name bs) h in rw (continuing_seen b k.0, name_seen bs k.1) refl

octal_seen : (b : ℕ) → b < 256 → list_all seen (octal_text b) ≡ true
octal_seen b h = rw (
  seen_between (48 + b / 64) (omega arith) (omega arith),
  seen_between (48 + b / 8 % 8) (omega arith) (omega arith),
  seen_between (48 + b % 8) (omega arith) (omega arith),
) refl

chosen_seen : (c : Bool) (xs ys : List ℕ) → (c ≡ true → list_all seen xs ≡ true) → (c ≡ false → list_all seen ys ≡ true) → list_all seen (cond c xs ys) ≡ true
chosen_seen true xs ys h k = h refl
chosen_seen false xs ys h k = k refl

quoted_byte_seen : (b : ℕ) → b < 256 → list_all seen (quoted_byte b) ≡ true
quoted_byte_seen b h =
    chosen_seen (b == 34 || b == 92) _ _ (λ e. elim (or_cases (b == 34) (b == 92) e)
    [ inl k ↦ rw ((Decides-eqb b 34).0 k) refl | inr k ↦ rw ((Decides-eqb b 92).0 k) refl ]) (λ _.
    chosen_seen (b == 10) _ _ (λ _. refl) (λ _.
    chosen_seen (b == 9) _ _ (λ _. refl) (λ _.
    chosen_seen (b == 13) _ _ (λ _. refl) (λ _.
    chosen_seen (nat_le 32 b && nat_le b 126) _ _ (λ e. rw e refl) (λ _. octal_seen b h)))))

quoted_seen : (name : List ℕ) → list_all (λ b. nat_lt b 256) name ≡ true → list_all seen (flat_map quoted_byte name) ≡ true
quoted_seen [] h = refl
quoted_seen (b ∷ bs) h = let k = and_parts (nat_lt b 256) (list_all (λ b. nat_lt b 256) bs) h in
    both_seen (quoted_byte b) (flat_map quoted_byte bs) (quoted_byte_seen b (leb-true (suc b) 256 k.0)) (quoted_seen bs k.1)

name_text_seen : (name : List ℕ) (quoted : Bool) → is_name name quoted ≡ true → list_all seen (name_text name quoted) ≡ true
name_text_seen name true h = both_seen (flat_map quoted_byte name) (34 ∷ []) (quoted_seen name (and_parts (list_all (λ b. nat_lt b 256) name) true h).0) refl
name_text_seen [] false h = refl
name_text_seen (b ∷ bs) false h =
    elim (or_cases (plain_name (b ∷ bs)) false (and_parts (list_all (λ b. nat_lt b 256) (b ∷ bs)) (plain_name (b ∷ bs) || false) h).1) [
      | inl k ↦ let l = and_parts (starts_name b) (list_all continues_name bs) k in rw (letter_seen b l.0, name_seen bs l.1) refl
      | inr k ↦ absurd (cc k)
    ]

enclosed_seen : (left : ℕ) (ts : Trees) (text : List ℕ) (right : ℕ) (empty : List ℕ) → seen left ≡ true → seen right ≡ true
    → list_all seen text ≡ true → list_all seen empty ≡ true → list_all seen (enclosed left ts text right empty) ≡ true
enclosed_seen left none text right empty h k l m = m
enclosed_seen left (more t ts) text right empty h k l m = rw h (both_seen text (right ∷ []) l (rw k refl))

no_arguments_seen : (name : List ℕ) (quoted : Bool) → list_all seen (no_arguments name quoted) ≡ true
no_arguments_seen name quoted = chosen_seen (is_empty name && not quoted) (codes "()") [] (λ _. refl) (λ _. refl)

mutual
  canon_seen : (t : Tree) → is_tree t ≡ true → list_all seen (canon t) ≡ true
  canon_seen (Int z anns) h =
      let k = and_parts (is_i32 z) (are_trees anns) h in
      both_seen (signed_decimal z) _ (integer_seen z k.0) (enclosed_seen 123 anns (canon_all anns) 125 [] refl refl (canon_all_seen anns k.1) refl)
  canon_seen (Appl name quoted args anns) h =
      let k = and_parts (is_name name quoted && are_trees args) (are_trees anns) h in
      let l = and_parts (is_name name quoted) (are_trees args) k.0 in
      both_seen (name_text name quoted ++ enclosed 40 args (canon_all args) 41 (no_arguments name quoted)) _
      (both_seen (name_text name quoted) _ (name_text_seen name quoted l.0)
      (enclosed_seen 40 args (canon_all args) 41 (no_arguments name quoted) refl refl (canon_all_seen args l.1) (no_arguments_seen name quoted)))
      (enclosed_seen 123 anns (canon_all anns) 125 [] refl refl (canon_all_seen anns k.1) refl)
  canon_seen (Items items anns) h =
      let k = and_parts (are_trees items) (are_trees anns) h in
      both_seen (canon_all items) _ (canon_all_seen items k.0) (enclosed_seen 123 anns (canon_all anns) 125 [] refl refl (canon_all_seen anns k.1) refl)
  canon_seen (Hole inner anns) h =
      let k = and_parts (is_tree inner) (are_trees anns) h in
      both_seen (canon inner) _ (canon_seen inner k.0) (enclosed_seen 123 anns (canon_all anns) 125 [] refl refl (canon_all_seen anns k.1) refl)

  canon_all_seen : (ts : Trees) → are_trees ts ≡ true → list_all seen (canon_all ts) ≡ true
  canon_all_seen none h = refl
  canon_all_seen (more t ts) h = let k = and_parts (is_tree t) (are_trees ts) h in
      both_seen (canon t) (canon_others ts) (canon_seen t k.0) (canon_others_seen ts k.1)

  canon_others_seen : (ts : Trees) → are_trees ts ≡ true → list_all seen (canon_others ts) ≡ true
  canon_others_seen none h = refl
  canon_others_seen (more t ts) h = let k = and_parts (is_tree t) (are_trees ts) h in
      both_seen (canon t) (canon_others ts) (canon_seen t k.0) (canon_others_seen ts k.1)

no_controls : (xs : List ℕ) → list_all seen xs ≡ true → AllByRecursion (λ b. (b ≢ 10) × (b ≢ 9)) xs
no_controls [] h = tt
no_controls (x ∷ xs) h =
    let k = and_parts (seen x) (list_all seen xs) h in
    let l = leb-true 32 x (and_parts (nat_le 32 x) (nat_le x 126) k.0).0 in
    (((λ e. omega (arith, l)), (λ e. omega (arith, l))), no_controls xs k.1)

-- in front
first_digit : (ds r : List ℕ) → IsNumeral 10 ds → slice_index (ds ++ r) 0 ≢ 33
first_digit [] r h e = omega (arith, h.0)
first_digit (d ∷ ds) r h e = let k = digit_from_value d h.1.0 in omega (arith, k.0, e)

first_integer : (z : ℤ) (r : List ℕ) → is_i32 z ≡ true → slice_index (signed_decimal z ++ r) 0 ≢ 33
first_integer (pos n) r h e = let k = leb-true (suc n) (2 ^ 31) h in first_digit (decimal n) r (decimal_is_IsNumeral n (omega (arith, k))).0 e
first_integer (negsuc n) r h e = omega (arith, e)

first_name : (name : List ℕ) (quoted : Bool) (args anns : Trees) → is_name name quoted ≡ true → slice_index (canon (Appl name quoted args anns)) 0 ≢ 33
first_name name true args anns h e = omega (arith, e)
first_name [] false none anns h e = omega (arith, e)
first_name [] false (more t ts) anns h e = omega (arith, e)
first_name (b ∷ bs) false args anns h e =
    elim (or_cases (plain_name (b ∷ bs)) false (and_parts (list_all (λ b. nat_lt b 256) (b ∷ bs)) (plain_name (b ∷ bs) || false) h).1) [
      | inl k ↦ let l = letter_above b (and_parts (starts_name b) (list_all continues_name bs) k).0 in omega (arith, l, e)
      | inr k ↦ absurd (cc k)
    ]

first_canon : (t : Tree) → is_tree t ≡ true → slice_index (canon t) 0 ≢ 33
first_canon (Int z anns) h e = first_integer z _ (and_parts (is_i32 z) (are_trees anns) h).0 e
first_canon (Appl name quoted args anns) h e =
    first_name name quoted args anns (and_parts (is_name name quoted) (are_trees args)
    (and_parts (is_name name quoted && are_trees args) (are_trees anns) h).0).0 e
first_canon (Items items anns) h e = omega (arith, e)
first_canon (Hole inner anns) h e = omega (arith, e)

pub stays_in_line : StaysInLine
stays_in_line t h = (All-from_recursion _ (canon t) (no_controls (canon t) (canon_seen t h)), first_canon t h)

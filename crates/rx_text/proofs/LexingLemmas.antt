-- The first token at an offset, and the tokens behind it.
use Rattle.std.proofs.Common.{◌≡◌, ℕ, zero, suc, ◌+◌, ◌-◌, ◌≤◌, ◌<◌, ◌^◌, ◌*◌, true, false, Bool, cond, List, [], ◌∷◌, length, drop, take}
use Rattle.std.proofs.Common.{get_or, min, ℤ, pos, neg_ℤ, refl, ap, ◌∙◌, inl, inr, arith, add-zero, add-one, one-add, length-drop}
use Rattle.std.specs.Prelude.{nat_le, nat_lt, IsTrue}
use Rattle.std.specs.List.{list_all, prefix_len}
use Rattle.std.specs.Char.{digit_value}
use Rattle.std.specs.Str.Parse.{digits_value}
use Rattle.std.proofs.lemmas.Int.Digits.{digits_value_more}
use Rattle.std.proofs.lemmas.Bool.{cases_lt, leb-true}
use Rattle.std.proofs.lemmas.Bool.Decides.{nat_tests}
use Rattle.std.proofs.lemmas.List.{drop-drop}
use Rattle.std.proofs.Math.Seq.{drop-cons}
use Rattle.rx_term.specs.Name.{is_digit, starts_name, continues_name, is_allowed}
use Rattle.rx_term.specs.Tree.{is_i32}
use Rattle.rx_text.specs.Token.{Integer, Name, Bad, tokens_from, token_at, is_layout, integer_token, starts_with_digit}
use Rattle.rx_text.specs.Lexemes.{token_of, tokens_after, behind, IsInner, IsToken, AreDigits}
use Rattle.rx_text.specs.declared.lexer.LexemeKind.{LexemeKind}
use Rattle.rx_text.specs.declared.lexer.LexemeKind.TheVariants as kind
use Rattle.rx_text.specs.declared.lexer.LexemeKind.TheVariants.{End}
use Rattle.rx_text.proofs.CuttingLemmas.{and_parts, letter_facts}

pub next_byte : (bytes : List ℕ) (at : ℕ) → at < length bytes → drop at bytes ≡ get_or bytes at 0 ∷ drop (at + 1) bytes
next_byte bytes at h = rw (add-one, drop-cons bytes at 0 h) refl

-- what is left of a token is passed over
tokens_skip : (skip at : ℕ) (bytes : List ℕ) → skip ≤ length bytes → tokens_from skip at bytes ≡ tokens_from 0 (at + skip) (drop skip bytes)
tokens_skip zero at bytes h = rw add-zero refl
tokens_skip (suc skip) at [] h = absurd (omega arith)
tokens_skip (suc skip) at (b ∷ bytes) h =
    let e : 1 + at + skip ≡ at + suc skip = omega arith in
    tokens_skip skip (1 + at) bytes (omega arith) ∙ ap (λ (n : ℕ). tokens_from 0 n (drop skip bytes)) e

behind_inner : (bytes : List ℕ) (k : LexemeKind) (to : ℕ) → IsInner k → behind bytes k to ≡ tokens_after bytes to
behind_inner bytes End to h = absurd h
behind_inner bytes k to h = refl

-- a token, and those behind it
pub token_first : (bytes : List ℕ) (at b to : ℕ) (k : LexemeKind) → drop at bytes ≡ b ∷ drop (at + 1) bytes → is_layout b ≡ false
    → token_of bytes k ≡ (token_at b (drop (at + 1) bytes)).0
    → to ≡ at + 1 + (token_at b (drop (at + 1) bytes)).1 → to ≤ length bytes → at < length bytes → IsInner k
    → tokens_after bytes at ≡ (at, token_of bytes k) ∷ behind bytes k to
token_first bytes at b to k front no_blank token end within below inner =
    let after : List ℕ = drop (at + 1) bytes in
    let skip : ℕ = (token_at b after).1 in
    let fits : skip ≤ length after = omega (arith, length-drop (at + 1) bytes) in
    let e : 1 + at ≡ at + 1 = omega arith in
    let others : tokens_from skip (1 + at) after ≡ tokens_after bytes to =
    rw e (tokens_skip skip (at + 1) after fits ∙ rw (drop-drop skip (at + 1) bytes, end) refl) in
    rw (front, no_blank, others, behind_inner bytes k to inner, token) refl

-- ---- runs of bytes

run_on : (p : ℕ → Bool) (x : ℕ) (xs : List ℕ) (b : Bool) → p x ≡ b → list_all p (take (prefix_len p xs) xs) ≡ true
    → list_all p (take (cond b (1 + prefix_len p xs) 0) (x ∷ xs)) ≡ true
run_on p x xs true e h = rw (one-add (prefix_len p xs), e) h
run_on p x xs false e h = refl

run_all : (p : ℕ → Bool) (xs : List ℕ) → list_all p (take (prefix_len p xs) xs) ≡ true
run_all p [] = refl
run_all p (x ∷ xs) = run_on p x xs (p x) refl (run_all p xs)

-- a byte, and a run behind it
pub word_slice : (bytes : List ℕ) (at b n to : ℕ) → drop at bytes ≡ b ∷ drop (at + 1) bytes → to ≡ at + 1 + n
    → take (to - at) (drop at bytes) ≡ b ∷ take n (drop (at + 1) bytes)
word_slice bytes at b n to front end =
    let width : to - at ≡ suc n = omega arith in
    rw (width, front) refl

-- the same behind an offset
pub run_slice : (bytes : List ℕ) (from n to : ℕ) → to ≡ from + n → take (to - from) (drop from bytes) ≡ take n (drop from bytes)
run_slice bytes from n to end =
    let width : to - from ≡ n = omega arith in
    rw width refl

pub digits_behind : (bytes : List ℕ) (from to : ℕ) → to ≡ from + prefix_len is_digit (drop from bytes) → AreDigits (take (to - from) (drop from bytes))
digits_behind bytes from to end = rw (run_slice bytes from (prefix_len is_digit (drop from bytes)) to end) (run_all is_digit (drop from bytes))

pub digits_from : (bytes : List ℕ) (at b to : ℕ) → drop at bytes ≡ b ∷ drop (at + 1) bytes → is_digit b ≡ true
    → to ≡ at + 1 + prefix_len is_digit (drop (at + 1) bytes) → AreDigits (take (to - at) (drop at bytes))
digits_from bytes at b to front digit end = rw (word_slice bytes at b (prefix_len is_digit (drop (at + 1) bytes)) to front end, digit)
    (run_all is_digit (drop (at + 1) bytes))

-- ---- integers

abbrev pub largest : ℕ
largest = 4294967295

-- a magnitude past the largest one is no integer's
pub clamped : (v : ℕ) → integer_token (pos (min v largest)) ≡ integer_token (pos v)
clamped v = elim (cases_lt largest v) [
  | inl h ↦ (let e : min v largest ≡ largest = omega arith in rw (e, not_below v (2 ^ 31) (omega (arith, h))) refl)
  | inr h ↦ (let e : min v largest ≡ v = omega arith in rw e refl)
]
  where
    not_below : (x y : ℕ) → y ≤ x → nat_lt x y ≡ false
    not_below x y h = grind (arith, nat_tests)

negative_past : (v : ℕ) → largest < v → integer_token (neg_ℤ (pos v)) ≡ Bad
negative_past zero h = absurd (omega (arith, h))
negative_past (suc n) h = let e : nat_lt n (2 ^ 31) ≡ false = grind (arith, nat_tests) in rw e refl

pub clamped_negative : (v : ℕ) → integer_token (neg_ℤ (pos (min v largest))) ≡ integer_token (neg_ℤ (pos v))
clamped_negative v = elim (cases_lt largest v) [
  | inl h ↦ (let e : min v largest ≡ largest = omega arith in rw (e, negative_past v h) refl)
  | inr h ↦ (let e : min v largest ≡ v = omega arith in rw e refl)
]

digit_at : (digits : List ℕ) (i : ℕ) → AreDigits digits → i < length digits → is_digit (get_or digits i 0) ≡ true
digit_at [] i h lt = absurd (omega arith)
digit_at (d ∷ ds) zero h lt = (and_parts (is_digit d) (list_all is_digit ds) h).0
digit_at (d ∷ ds) (suc i) h lt = digit_at ds i (and_parts (is_digit d) (list_all is_digit ds) h).1 (omega arith)

pub digit_bounds : (b : ℕ) → is_digit b ≡ true → (48 ≤ b) × (b ≤ 57)
digit_bounds b h = let k = and_parts (nat_le 48 b) (nat_le b 57) h in (leb-true 48 b k.0, leb-true b 57 k.1)

digit_is : (b : ℕ) → is_digit b ≡ true → digit_value b ≡ b - 48
digit_is b h =
    let k = digit_bounds b h in
    let low : nat_lt b 48 ≡ false = grind (arith, nat_tests) in
    let high : nat_lt b 58 ≡ true = grind (arith, nat_tests) in
    rw (low, high) refl

-- one more digit
pub magnitude_on : (digits : List ℕ) (i v m d r : ℕ) → AreDigits digits → i < length digits → v ≡ min (digits_value 10 (take i digits)) largest
    → m ≡ min (v * 10) largest → d ≡ get_or digits i 0 - 48 → r ≡ min (m + d) largest
    → r ≡ min (digits_value 10 (take (i + 1) digits)) largest
magnitude_on digits i v m d r all lt so_far times digit plus =
    let more : digits_value 10 (take (i + 1) digits) ≡ digits_value 10 (take i digits) * 10 + (get_or digits i 0 - 48) =
    digits_value_more 10 digits i lt ∙ ap (λ x. digits_value 10 (take i digits) * 10 + x) (digit_is (get_or digits i 0) (digit_at digits i all lt)) in
    omega (arith, more)

-- the token of an integer holds one
token_in_range : (bytes : List ℕ) (k : LexemeKind) (z : ℤ) (b : Bool) → is_i32 z ≡ b → token_of bytes k ≡ cond b (Integer z) Bad → IsToken bytes k
token_in_range bytes (kind.Integer y) z true e h = let same : y ≡ z = cc h in rw same e
token_in_range bytes (kind.Integer y) z false e h = absurd (cc h)
token_in_range bytes (kind.Name w) z true e h = absurd (cc h)
token_in_range bytes (kind.Name w) z false e h = absurd (cc h)
token_in_range bytes k z b e h = tt

pub number_is_token : (bytes : List ℕ) (k : LexemeKind) (z : ℤ) → token_of bytes k ≡ integer_token z → IsToken bytes k
number_is_token bytes k z h = token_in_range bytes k z (is_i32 z) refl h

pub number_token : (bytes : List ℕ) (at b to : ℕ) (k : LexemeKind) (m : ℕ) → drop at bytes ≡ b ∷ drop (at + 1) bytes → is_digit b ≡ true
    → to ≡ at + 1 + prefix_len is_digit (drop (at + 1) bytes)
    → m ≡ min (digits_value 10 (take (to - at) (drop at bytes))) largest → token_of bytes k ≡ integer_token (pos m)
    → token_of bytes k ≡ (token_at b (drop (at + 1) bytes)).0
number_token bytes at b to k m front digit end value token =
    let text : take (to - at) (drop at bytes) ≡ b ∷ take (prefix_len is_digit (drop (at + 1) bytes)) (drop (at + 1) bytes) =
    word_slice bytes at b (prefix_len is_digit (drop (at + 1) bytes)) to front end in
    token ∙ ap (λ x. integer_token (pos x)) value ∙ clamped (digits_value 10 (take (to - at) (drop at bytes)))
    ∙ ap (λ ds. integer_token (pos (digits_value 10 ds))) text ∙ rw digit refl

pub negative_token : (bytes : List ℕ) (at to : ℕ) (k : LexemeKind) (m : ℕ) → starts_with_digit (drop (at + 1) bytes) ≡ true
    → to ≡ at + 1 + prefix_len is_digit (drop (at + 1) bytes)
    → m ≡ min (digits_value 10 (take (to - (at + 1)) (drop (at + 1) bytes))) largest → token_of bytes k ≡ integer_token (neg_ℤ (pos m))
    → token_of bytes k ≡ (token_at 45 (drop (at + 1) bytes)).0
negative_token bytes at to k m digit end value token =
    let text = run_slice bytes (at + 1) (prefix_len is_digit (drop (at + 1) bytes)) to end in
    token ∙ ap (λ x. integer_token (neg_ℤ (pos x))) value ∙ clamped_negative (digits_value 10 (take (to - (at + 1)) (drop (at + 1) bytes)))
    ∙ ap (λ ds. integer_token (neg_ℤ (pos (digits_value 10 ds)))) text ∙ rw digit refl

pub digit_next : (bytes : List ℕ) (at : ℕ) → at < length bytes → is_digit (get_or bytes at 0) ≡ true → starts_with_digit (drop at bytes) ≡ true
digit_next bytes at lt h = rw (next_byte bytes at lt) h

-- ---- names

pub name_token : (bytes : List ℕ) (at b to : ℕ) → drop at bytes ≡ b ∷ drop (at + 1) bytes → starts_name b ≡ true
    → to ≡ at + 1 + prefix_len continues_name (drop (at + 1) bytes)
    → Name (take (to - at) (drop at bytes)) false ≡ (token_at b (drop (at + 1) bytes)).0
name_token bytes at b to front letter end =
    let f = letter_facts b letter in
    rw (word_slice bytes at b (prefix_len continues_name (drop (at + 1) bytes)) to front end, f.1, f.2, letter) refl

pub name_allowed : (bytes : List ℕ) (at b to : ℕ) → drop at bytes ≡ b ∷ drop (at + 1) bytes → starts_name b ≡ true
    → to ≡ at + 1 + prefix_len continues_name (drop (at + 1) bytes)
    → IsTrue (is_allowed (take (to - at) (drop at bytes)) false)
name_allowed bytes at b to front letter end =
    rw (word_slice bytes at b (prefix_len continues_name (drop (at + 1) bytes)) to front end, letter, run_all continues_name (drop (at + 1) bytes)) refl

-- How integers and names are cut, whatever follows them that does not go on with them.
use Rattle.std.proofs.Common.{◌≡◌, ℕ, ◌+◌, ◌^◌, suc, true, false, ◌||◌, List, [], ◌∷◌, ◌++◌, refl, pos, negsuc}
use Rattle.std.proofs.Common.{ℤ, neg_ℤ, sym, ap, ◌∙◌, append_assoc, inl, inr, length, arith, length-append}
use Rattle.std.specs.Prelude.{nat_lt, flat_map, decimal}
use Rattle.std.specs.Fmt.{signed_decimal}
use Rattle.std.specs.List.{prefix_len, list_all}
use Rattle.std.specs.Str.Parse.{digits_value, AllDigits, IsNumeral}
use Rattle.std.proofs.lemmas.Fmt.{decimal_is_IsNumeral}
use Rattle.std.proofs.lemmas.Str.Parse.{digit_from_value}
use Rattle.std.proofs.lemmas.Bool.{le-leb, leb-true}
use Rattle.rx_term.specs.Name.{starts_name, continues_name, is_digit, plain_name, is_name}
use Rattle.rx_term.specs.Tree.{is_i32}
use Rattle.rx_text.specs.Token.{Integer, Name}
use Rattle.rx_text.specs.Canon.{name_text, no_arguments, quoted_byte}
use Rattle.rx_text.proofs.CuttingLemmas.{kinds_from, pass, name_cut, number_cut, negative_cut, quoted_reads, and_parts, or_cases}

-- no name and no number goes on here
pub record Stops (r : List ℕ) : Type 0 where
  pub no_name : prefix_len continues_name r ≡ 0
  pub no_digit : prefix_len is_digit r ≡ 0

-- a byte that is in none of them stops both
pub mark_stops : (m : ℕ) (r : List ℕ) → continues_name m ≡ false → is_digit m ≡ false → Stops (m ∷ r)
mark_stops m r h k = record { no_name = rw h refl; no_digit = rw k refl }

-- a decimal is digits
digits_all : (ds : List ℕ) → AllDigits 10 ds → list_all is_digit ds ≡ true
digits_all [] h = refl
digits_all (d ∷ ds) h = let k = digit_from_value d h.0 in rw (le-leb 48 d k.0, le-leb d 57 k.1, digits_all ds h.1) refl

-- an integer, by its sign
natural_cut : (ds r : List ℕ) (n : ℕ) → IsNumeral 10 ds → digits_value 10 ds ≡ n → is_i32 (pos n) ≡ true → Stops r
    → kinds_from 0 (ds ++ r) ≡ Integer (pos n) ∷ kinds_from 0 r
natural_cut [] r n h e f s = absurd (omega (arith, h.0))
natural_cut (d ∷ ds) r n h e f s =
    let k = and_parts (is_digit d) (list_all is_digit ds) (digits_all (d ∷ ds) h.1) in
    number_cut d ds r k.0 k.1 s.no_digit (ap (λ m. is_i32 (pos m)) e ∙ f) ∙ ap (λ m. Integer (pos m) ∷ kinds_from 0 r) e

minus_cut : (ds r : List ℕ) (n : ℕ) → IsNumeral 10 ds → digits_value 10 ds ≡ n → is_i32 (neg_ℤ (pos n)) ≡ true → Stops r
    → kinds_from 0 (45 ∷ ds ++ r) ≡ Integer (neg_ℤ (pos n)) ∷ kinds_from 0 r
minus_cut [] r n h e f s = absurd (omega (arith, h.0))
minus_cut (d ∷ ds) r n h e f s =
    let k = and_parts (is_digit d) (list_all is_digit ds) (digits_all (d ∷ ds) h.1) in
    negative_cut d ds r k.0 k.1 s.no_digit (ap (λ m. is_i32 (neg_ℤ (pos m))) e ∙ f) ∙ ap (λ m. Integer (neg_ℤ (pos m)) ∷ kinds_from 0 r) e

pub integer_cut : (z : ℤ) (r : List ℕ) → is_i32 z ≡ true → Stops r → kinds_from 0 (signed_decimal z ++ r) ≡ Integer z ∷ kinds_from 0 r
integer_cut (pos n) r h s =
    let k = leb-true (suc n) (2 ^ 31) h in
    let d = decimal_is_IsNumeral n (omega (arith, k)) in
    natural_cut (decimal n) r n d.0 d.1 h s
integer_cut (negsuc n) r h s =
    let k = leb-true (suc n) (2 ^ 31) h in
    let d = decimal_is_IsNumeral (suc n) (omega (arith, k)) in
    minus_cut (decimal (suc n)) r (suc n) d.0 d.1 h s

-- a quoted name
quote_pass : (text r : List ℕ) → kinds_from (length text + 1) (text ++ 34 ∷ r) ≡ kinds_from 0 r
quote_pass text r =
    let n : length text + 1 ≡ length (text ++ 34 ∷ []) = sym (length-append text (34 ∷ [])) in
    rw (n, ← append_assoc text (34 ∷ []) r) (pass (text ++ 34 ∷ []) r)

pub quoted_cut : (name r : List ℕ) → list_all (λ b. nat_lt b 256) name ≡ true → kinds_from 0 (name_text name true ++ r) ≡ Name name true ∷ kinds_from 0 r
quoted_cut name r h =
    rw (append_assoc (flat_map quoted_byte name) (34 ∷ []) r, quoted_reads name r h, quote_pass (flat_map quoted_byte name) r) refl

-- a name without quotes that is not empty
plain_parts : (b : ℕ) (bs : List ℕ) → is_name (b ∷ bs) false ≡ true → (starts_name b ≡ true) × (list_all continues_name bs ≡ true)
plain_parts b bs h =
    elim (or_cases (plain_name (b ∷ bs)) false (and_parts (list_all (λ b. nat_lt b 256) (b ∷ bs)) (plain_name (b ∷ bs) || false) h).1) [
      | inl k ↦ and_parts (starts_name b) (list_all continues_name bs) k
      | inr k ↦ absurd (cc k)
    ]

pub unquoted_cut : (b : ℕ) (bs r : List ℕ) → is_name (b ∷ bs) false ≡ true → Stops r → kinds_from 0 ((b ∷ bs) ++ r) ≡ Name (b ∷ bs) false ∷ kinds_from 0 r
unquoted_cut b bs r h s = let k = plain_parts b bs h in name_cut b bs r k.0 k.1 s.no_name

pub no_arguments_quoted : (name : List ℕ) → no_arguments name true ≡ []
no_arguments_quoted [] = refl
no_arguments_quoted (b ∷ bs) = refl

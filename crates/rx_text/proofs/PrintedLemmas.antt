-- The printed text of a tree spells that tree.
use Rattle.std.proofs.Common.{◌≡◌, ℕ, ◌+◌, ◌^◌, suc, true, false, Bool, ◌&&◌, ◌||◌, List, [], ◌∷◌, ◌++◌, refl, pos}
use Rattle.std.proofs.Common.{negsuc, ℤ, neg_ℤ, sym, ap, ◌∙◌, append_assoc, inl, inr, length, arith, length-append}
use Rattle.std.specs.Prelude.{nat_lt, flat_map, decimal}
use Rattle.std.specs.Fmt.{signed_decimal}
use Rattle.std.specs.List.{prefix_len, list_all}
use Rattle.std.specs.Str.Parse.{digits_value, AllDigits, IsNumeral}
use Rattle.std.proofs.lemmas.Fmt.{decimal_is_IsNumeral}
use Rattle.std.proofs.lemmas.Str.Parse.{digit_from_value}
use Rattle.std.proofs.lemmas.List.{append-nil}
use Rattle.std.proofs.lemmas.Bool.{le-leb, leb-true}
use Rattle.rx_term.specs.Name.{starts_name, continues_name, is_digit, plain_name, is_name}
use Rattle.rx_term.specs.Tree.{Tree, Trees, none, more, Int, Appl, Items, Hole, is_i32, is_tree, are_trees}
use Rattle.rx_text.specs.Token.{Token, Integer, Name, Close, CloseBrace, End}
use Rattle.rx_text.specs.Grammar.{Term, Arguments, Annotations, Terms, Others, integer, named, nameless, list, hole}
use Rattle.rx_text.specs.Grammar.{no_parentheses, parentheses, no_braces, braces, no_terms, terms, no_others, comma}
use Rattle.rx_text.specs.Canon.{canon, canon_all, canon_others, enclosed, name_text, no_arguments, quoted_byte}
use Rattle.rx_text.specs.Law.{PrintedSpells}
use Rattle.rx_text.proofs.CuttingLemmas.{kinds_from, kinds_are, pass, name_cut, number_cut, negative_cut, quoted_reads, and_parts, or_cases}

-- no name and no number goes on here
record Stops (r : List ℕ) : Type 0 where
  no_name : prefix_len continues_name r ≡ 0
  no_digit : prefix_len is_digit r ≡ 0

-- a decimal is digits
digits_all : (ds : List ℕ) → AllDigits 10 ds → list_all is_digit ds ≡ true
digits_all [] h = refl
digits_all (d ∷ ds) h =
    let k = digit_from_value d h.0 in
    rw (le-leb 48 d k.0, le-leb d 57 k.1, digits_all ds h.1) refl

-- an integer
digits_cut : (ds r : List ℕ) (n : ℕ) → IsNumeral 10 ds → digits_value 10 ds ≡ n → is_i32 (pos n) ≡ true → Stops r
    → kinds_from 0 (ds ++ r) ≡ Integer (pos n) ∷ kinds_from 0 r
digits_cut [] r n h e f s = absurd (omega (arith, h.0))
digits_cut (d ∷ ds) r n h e f s =
    let k = and_parts (is_digit d) (list_all is_digit ds) (digits_all (d ∷ ds) h.1) in
    number_cut d ds r k.0 k.1 s.no_digit (ap (λ m. is_i32 (pos m)) e ∙ f) ∙ ap (λ m. Integer (pos m) ∷ kinds_from 0 r) e

minus_cut : (ds r : List ℕ) (n : ℕ) → IsNumeral 10 ds → digits_value 10 ds ≡ n → is_i32 (neg_ℤ (pos n)) ≡ true → Stops r
    → kinds_from 0 (45 ∷ ds ++ r) ≡ Integer (neg_ℤ (pos n)) ∷ kinds_from 0 r
minus_cut [] r n h e f s = absurd (omega (arith, h.0))
minus_cut (d ∷ ds) r n h e f s =
    let k = and_parts (is_digit d) (list_all is_digit ds) (digits_all (d ∷ ds) h.1) in
    negative_cut d ds r k.0 k.1 s.no_digit (ap (λ m. is_i32 (neg_ℤ (pos m))) e ∙ f) ∙ ap (λ m. Integer (neg_ℤ (pos m)) ∷ kinds_from 0 r) e

integer_cut : (z : ℤ) (r : List ℕ) → is_i32 z ≡ true → Stops r → kinds_from 0 (signed_decimal z ++ r) ≡ Integer z ∷ kinds_from 0 r
integer_cut (pos n) r h s =
    let k = leb-true (suc n) (2 ^ 31) h in
    let d = decimal_is_IsNumeral n (omega (arith, k)) in
    digits_cut (decimal n) r n d.0 d.1 h s
integer_cut (negsuc n) r h s =
    let k = leb-true (suc n) (2 ^ 31) h in
    let d = decimal_is_IsNumeral (suc n) (omega (arith, k)) in
    minus_cut (decimal (suc n)) r (suc n) d.0 d.1 h s

-- a quoted name
quote_pass : (text r : List ℕ) → kinds_from (length text + 1) (text ++ 34 ∷ r) ≡ kinds_from 0 r
quote_pass text r =
    let n : length text + 1 ≡ length (text ++ 34 ∷ []) = sym (length-append text (34 ∷ [])) in
    rw (n, ← append_assoc text (34 ∷ []) r) (pass (text ++ 34 ∷ []) r)

quoted_cut : (name r : List ℕ) → list_all (λ b. nat_lt b 256) name ≡ true → kinds_from 0 (name_text name true ++ r) ≡ Name name true ∷ kinds_from 0 r
quoted_cut name r h =
    rw (append_assoc (flat_map quoted_byte name) (34 ∷ []) r, quoted_reads name r h, quote_pass (flat_map quoted_byte name) r) refl

-- a name without quotes that is not empty
plain_parts : (b : ℕ) (bs : List ℕ) → is_name (b ∷ bs) false ≡ true → (starts_name b ≡ true) × (list_all continues_name bs ≡ true)
plain_parts b bs h =
    elim (or_cases (plain_name (b ∷ bs)) false (and_parts (list_all (λ b. nat_lt b 256) (b ∷ bs)) (plain_name (b ∷ bs) || false) h).1) [
      | inl k ↦ and_parts (starts_name b) (list_all continues_name bs) k
      | inr k ↦ absurd (cc k)
    ]

unquoted_cut : (b : ℕ) (bs r : List ℕ) → is_name (b ∷ bs) false ≡ true → Stops r → kinds_from 0 ((b ∷ bs) ++ r) ≡ Name (b ∷ bs) false ∷ kinds_from 0 r
unquoted_cut b bs r h s = let k = plain_parts b bs h in name_cut b bs r k.0 k.1 s.no_name

-- annotations and arguments, from the terms within their marks
braces_printed : (anns : Trees) (r : List ℕ) → Terms (kinds_from 0 (canon_all anns ++ 125 ∷ r)) anns (CloseBrace ∷ kinds_from 0 r)
    → Annotations (kinds_from 0 (enclosed 123 anns (canon_all anns) 125 [] ++ r)) anns (kinds_from 0 r)
braces_printed none r h = no_braces
braces_printed (more t ts) r h = braces (rw (append_assoc (canon_all (more t ts)) (125 ∷ []) r) h)

parentheses_printed : (args : Trees) (r : List ℕ) → Terms (kinds_from 0 (canon_all args ++ 41 ∷ r)) args (Close ∷ kinds_from 0 r)
    → Arguments (kinds_from 0 (enclosed 40 args (canon_all args) 41 [] ++ r)) args (kinds_from 0 r)
parentheses_printed none r h = no_parentheses
parentheses_printed (more t ts) r h = parentheses (rw (append_assoc (canon_all (more t ts)) (41 ∷ []) r) h)

-- what stands before annotations stops there
stops_before_braces : (anns : Trees) (r : List ℕ) → Stops r → Stops (enclosed 123 anns (canon_all anns) 125 [] ++ r)
stops_before_braces none r s = s
stops_before_braces (more t ts) r s = record { no_name = refl; no_digit = refl }

stops_before_arguments : (args : Trees) (r : List ℕ) → Stops r → Stops (enclosed 40 args (canon_all args) 41 [] ++ r)
stops_before_arguments none r s = s
stops_before_arguments (more t ts) r s = record { no_name = refl; no_digit = refl }

-- from the same bytes, and from the same tokens
from_bytes : {x y : List ℕ} {t : Tree} {rest : List Token} → x ≡ y → Term (kinds_from 0 y) t rest → Term (kinds_from 0 x) t rest
from_bytes e h = rw e h

from_tokens : {x y rest : List Token} {t : Tree} → x ≡ y → Term y t rest → Term x t rest
from_tokens e h = rw e h

no_arguments_quoted : (name : List ℕ) → no_arguments name true ≡ []
no_arguments_quoted [] = refl
no_arguments_quoted (b ∷ bs) = refl

-- an application, from its arguments and annotations
module _ (args anns : Trees) (r : List ℕ) (s : Stops r) where
  named_printed : (name : List ℕ) (quoted : Bool) → no_arguments name quoted ≡ []
      → ((x : List ℕ) → Stops x → kinds_from 0 (name_text name quoted ++ x) ≡ Name name quoted ∷ kinds_from 0 x)
      → Terms (kinds_from 0 (canon_all args ++ 41 ∷ (enclosed 123 anns (canon_all anns) 125 [] ++ r))) args
      (Close ∷ kinds_from 0 (enclosed 123 anns (canon_all anns) 125 [] ++ r))
      → Terms (kinds_from 0 (canon_all anns ++ 125 ∷ r)) anns (CloseBrace ∷ kinds_from 0 r)
      → Term (kinds_from 0 (canon (Appl name quoted args anns) ++ r)) (Appl name quoted args anns) (kinds_from 0 r)
  named_printed name quoted none_shown cut g k =
      let text = name_text name quoted in
      let behind = enclosed 123 anns (canon_all anns) 125 [] in
      let shown = enclosed 40 args (canon_all args) 41 (no_arguments name quoted) in
      let plain = enclosed 40 args (canon_all args) 41 [] in
      let e : ((text ++ shown) ++ behind) ++ r ≡ text ++ (plain ++ (behind ++ r))
      = append_assoc (text ++ shown) behind r ∙ append_assoc text shown (behind ++ r)
      ∙ ap (λ x. text ++ (enclosed 40 args (canon_all args) 41 x ++ (behind ++ r))) none_shown in
      from_bytes e (from_tokens (cut (plain ++ (behind ++ r)) (stops_before_arguments args (behind ++ r) (stops_before_braces anns r s)))
      (named (parentheses_printed args (behind ++ r) g) (braces_printed anns r k)))

nameless_printed : (args anns : Trees) (r : List ℕ)
    → Terms (kinds_from 0 (canon_all args ++ 41 ∷ (enclosed 123 anns (canon_all anns) 125 [] ++ r))) args
    (Close ∷ kinds_from 0 (enclosed 123 anns (canon_all anns) 125 [] ++ r))
    → Terms (kinds_from 0 (canon_all anns ++ 125 ∷ r)) anns (CloseBrace ∷ kinds_from 0 r)
    → Term (kinds_from 0 (canon (Appl [] false args anns) ++ r)) (Appl [] false args anns) (kinds_from 0 r)
nameless_printed none anns r g k = nameless no_terms (braces_printed anns r k)
nameless_printed (more t ts) anns r g k =
    let behind = enclosed 123 anns (canon_all anns) 125 [] in
    let inside = canon_all (more t ts) in
    let e : ((inside ++ 41 ∷ []) ++ behind) ++ r ≡ inside ++ 41 ∷ (behind ++ r) =
    append_assoc (inside ++ 41 ∷ []) behind r ∙ append_assoc inside (41 ∷ []) (behind ++ r) in
    from_bytes (ap (λ x. 40 ∷ x) e) (nameless g (braces_printed anns r k))

-- by the name
appl_printed : (name : List ℕ) (quoted : Bool) (args anns : Trees) (r : List ℕ) → Stops r → is_name name quoted ≡ true
    → Terms (kinds_from 0 (canon_all args ++ 41 ∷ (enclosed 123 anns (canon_all anns) 125 [] ++ r))) args
    (Close ∷ kinds_from 0 (enclosed 123 anns (canon_all anns) 125 [] ++ r))
    → Terms (kinds_from 0 (canon_all anns ++ 125 ∷ r)) anns (CloseBrace ∷ kinds_from 0 r)
    → Term (kinds_from 0 (canon (Appl name quoted args anns) ++ r)) (Appl name quoted args anns) (kinds_from 0 r)
appl_printed name true args anns r s h g k =
    named_printed args anns r s name true (no_arguments_quoted name) (λ x _. quoted_cut name x (and_parts (list_all (λ b. nat_lt b 256) name) true h).0) g k
appl_printed [] false args anns r s h g k = nameless_printed args anns r g k
appl_printed (b ∷ bs) false args anns r s h g k = named_printed args anns r s (b ∷ bs) false refl (λ x t. unquoted_cut b bs x h t) g k

-- a closing mark or a comma stops
mark_stops : (m : ℕ) (r : List ℕ) → continues_name m ≡ false → is_digit m ≡ false → Stops (m ∷ r)
mark_stops m r h k = record { no_name = rw h refl; no_digit = rw k refl }

-- other terms stop at a comma, or where they end
stops_before_others : (ts : Trees) (r : List ℕ) → Stops r → Stops (canon_others ts ++ r)
stops_before_others none r s = s
stops_before_others (more t ts) r s = mark_stops 44 _ refl refl

mutual
  printed : (t : Tree) (r : List ℕ) → is_tree t ≡ true → Stops r → Term (kinds_from 0 (canon t ++ r)) t (kinds_from 0 r)
  printed (Int z anns) r h s =
      let k = and_parts (is_i32 z) (are_trees anns) h in
      let behind = enclosed 123 anns (canon_all anns) 125 [] in
      from_bytes (append_assoc (signed_decimal z) behind r) (from_tokens (integer_cut z (behind ++ r) k.0 (stops_before_braces anns r s))
      (integer (braces_printed anns r (terms_printed anns (125 ∷ r) k.1 (mark_stops 125 r refl refl)))))
  printed (Appl name quoted args anns) r h s =
      let k = and_parts (is_name name quoted && are_trees args) (are_trees anns) h in
      let l = and_parts (is_name name quoted) (are_trees args) k.0 in
      appl_printed name quoted args anns r s l.0
      (terms_printed args (41 ∷ (enclosed 123 anns (canon_all anns) 125 [] ++ r)) l.1 (mark_stops 41 _ refl refl))
      (terms_printed anns (125 ∷ r) k.1 (mark_stops 125 r refl refl))
  printed (Items items anns) r h s =
      let k = and_parts (are_trees items) (are_trees anns) h in
      let behind = enclosed 123 anns (canon_all anns) 125 [] in
      from_bytes (ap (λ x. 91 ∷ x) (append_assoc (canon_all items) (93 ∷ behind) r))
      (list (terms_printed items (93 ∷ (behind ++ r)) k.0 (mark_stops 93 _ refl refl))
      (braces_printed anns r (terms_printed anns (125 ∷ r) k.1 (mark_stops 125 r refl refl))))
  printed (Hole inner anns) r h s =
      let k = and_parts (is_tree inner) (are_trees anns) h in
      let behind = enclosed 123 anns (canon_all anns) 125 [] in
      from_bytes (ap (λ x. 60 ∷ x) (append_assoc (canon inner) (62 ∷ behind) r))
      (hole (printed inner (62 ∷ (behind ++ r)) k.0 (mark_stops 62 _ refl refl))
      (braces_printed anns r (terms_printed anns (125 ∷ r) k.1 (mark_stops 125 r refl refl))))

  terms_printed : (ts : Trees) (r : List ℕ) → are_trees ts ≡ true → Stops r → Terms (kinds_from 0 (canon_all ts ++ r)) ts (kinds_from 0 r)
  terms_printed none r h s = no_terms
  terms_printed (more t ts) r h s =
      let k = and_parts (is_tree t) (are_trees ts) h in
      terms (from_bytes (append_assoc (canon t) (canon_others ts) r) (printed t (canon_others ts ++ r) k.0 (stops_before_others ts r s)))
      (others_printed ts r k.1 s)

  others_printed : (ts : Trees) (r : List ℕ) → are_trees ts ≡ true → Stops r → Others (kinds_from 0 (canon_others ts ++ r)) ts (kinds_from 0 r)
  others_printed none r h s = no_others
  others_printed (more t ts) r h s =
      let k = and_parts (is_tree t) (are_trees ts) h in
      comma (from_bytes (append_assoc (canon t) (canon_others ts) r) (printed t (canon_others ts ++ r) k.0 (stops_before_others ts r s)))
      (others_printed ts r k.1 s)

pub printed_spells : PrintedSpells
printed_spells t h =
    let k : Term (kinds_from 0 (canon t ++ [])) t (End ∷ []) = printed t [] h (record { no_name = refl; no_digit = refl }) in
    let l : Term (kinds_from 0 (canon t)) t (End ∷ []) = rw append-nil at k in
    rw kinds_are l

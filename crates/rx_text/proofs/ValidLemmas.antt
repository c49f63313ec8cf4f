-- What bytes spell keeps the ranges: its integers fit, and its names are names.
use Rattle.std.proofs.Common.{◌≡◌, ℕ, ◌+◌, ◌-◌, ◌*◌, zero, suc, true, false, Bool, ◌&&◌, ◌||◌, ◌==◌}
use Rattle.std.proofs.Common.{cond, List, [], ◌∷◌, refl, pos, ℤ, neg_ℤ, ap, ◌⊎◌, inl, inr, arith}
use Rattle.std.specs.Prelude.{Option, Some, None, nat_le, nat_lt, take_while, option_map}
use Rattle.std.specs.List.{list_all}
use Rattle.std.specs.Str.Parse.{digits_value}
use Rattle.std.proofs.lemmas.List.Sums.{take_while-cons}
use Rattle.std.proofs.lemmas.Bool.{le-leb, leb-true}
use Rattle.rx_term.specs.Name.{starts_name, continues_name, is_digit, is_name}
use Rattle.rx_term.specs.Tree.{Tree, Trees, is_i32, is_tree, are_trees}
use Rattle.rx_text.specs.Token.{Token, Integer, Name, Open, Close, OpenBracket, CloseBracket, OpenBrace, CloseBrace, Less, Greater, Comma, Bad, token_at}
use Rattle.rx_text.specs.Token.{is_layout, quoted, item, after_item, escape, octal, is_octal, quoted_token, integer_token, mark, starts_with_digit}
use Rattle.rx_text.specs.Grammar.{Term, Arguments, Annotations, Terms, Others, integer, named, nameless, list, hole}
use Rattle.rx_text.specs.Grammar.{no_parentheses, parentheses, no_braces, braces, no_terms, terms, no_others, comma, Spells}
use Rattle.rx_text.proofs.CuttingLemmas.{kinds_from, kinds_are, and_parts, true_or_false}
use Rattle.rx_text.proofs.InLineLemmas.{seen, letter_seen, continuing_seen}

abbrev byte : ℕ → Bool
byte b = nat_lt b 256

-- the integer or the name of a token is in range
abbrev in_range : Token → Bool
in_range (Integer z) = is_i32 z
in_range (Name n q) = is_name n q
in_range _ = true

chosen_in_range : (c : Bool) (x y : Token) → (c ≡ true → in_range x ≡ true) → (c ≡ false → in_range y ≡ true) → in_range (cond c x y) ≡ true
chosen_in_range true x y h k = h refl
chosen_in_range false x y h k = k refl

chosen_pair : (c : Bool) (x y : Token × ℕ) → (c ≡ true → in_range x.0 ≡ true) → (c ≡ false → in_range y.0 ≡ true) → in_range (cond c x y).0 ≡ true
chosen_pair true x y h k = h refl
chosen_pair false x y h k = k refl

integer_in_range : (z : ℤ) → in_range (integer_token z) ≡ true
integer_in_range z = chosen_in_range (is_i32 z) (Integer z) Bad (λ e. e) (λ _. refl)

mark_in_range : (b : ℕ) → in_range (mark b) ≡ true
mark_in_range b =
    chosen_in_range (b == 40) Open _ (λ _. refl) (λ _.
    chosen_in_range (b == 41) Close _ (λ _. refl) (λ _.
    chosen_in_range (b == 91) OpenBracket _ (λ _. refl) (λ _.
    chosen_in_range (b == 93) CloseBracket _ (λ _. refl) (λ _.
    chosen_in_range (b == 123) OpenBrace _ (λ _. refl) (λ _.
    chosen_in_range (b == 125) CloseBrace _ (λ _. refl) (λ _.
    chosen_in_range (b == 60) Less _ (λ _. refl) (λ _.
    chosen_in_range (b == 62) Greater _ (λ _. refl) (λ _.
    chosen_in_range (b == 44) Comma Bad (λ _. refl) (λ _. refl)))))))))

-- plain names
seen_byte : (b : ℕ) → seen b ≡ true → byte b ≡ true
seen_byte b h = let k = leb-true b 126 (and_parts (nat_le 32 b) (nat_le b 126) h).1 in le-leb (suc b) 256 (omega (arith, k))

chosen_all : (c : Bool) (p : ℕ → Bool) (x : ℕ) (xs : List ℕ) → c ≡ p x → list_all p xs ≡ true → list_all p (cond c (x ∷ xs) []) ≡ true
chosen_all true p x xs e h = rw (← e, h) refl
chosen_all false p x xs e h = refl

taken_pass : (p : ℕ → Bool) (xs : List ℕ) → list_all p (take_while p xs) ≡ true
taken_pass p [] = refl
taken_pass p (x ∷ xs) = rw (take_while-cons p x xs) (chosen_all (p x) p x (take_while p xs) refl (taken_pass p xs))

continuing_bytes : (bs : List ℕ) → list_all continues_name bs ≡ true → list_all byte bs ≡ true
continuing_bytes [] h = refl
continuing_bytes (b ∷ bs) h = let k = and_parts (continues_name b) (list_all continues_name bs) h in
    rw (seen_byte b (continuing_seen b k.0), continuing_bytes bs k.1) refl

plain_in_range : (b : ℕ) (bs : List ℕ) → starts_name b ≡ true → list_all continues_name bs ≡ true → is_name (b ∷ bs) false ≡ true
plain_in_range b bs h k = rw (seen_byte b (letter_seen b h), continuing_bytes bs k, h, k) refl

-- quoted names
chosen_item : (c : Bool) (x y : Option (ℕ × ℕ)) (i : ℕ × ℕ) → cond c x y ≡ Some i → (x ≡ Some i → byte i.0 ≡ true)
    → (c ≡ false → y ≡ Some i → byte i.0 ≡ true) → byte i.0 ≡ true
chosen_item true x y i e h k = h e
chosen_item false x y i e h k = k refl e

item_same : {x i : ℕ × ℕ} → ◌≡◌ {A = Option (ℕ × ℕ)} (Some x) (Some i) → x ≡ i
item_same e = cc e

given : (x n : ℕ) (i : ℕ × ℕ) → byte x ≡ true → ◌≡◌ {A = Option (ℕ × ℕ)} (Some (x, n)) (Some i) → byte i.0 ≡ true
given x n i h e = rw (← (ap (λ p. p.0) (item_same e))) h

no_item : {i : ℕ × ℕ} → ◌≡◌ {A = Option (ℕ × ℕ)} None (Some i) → ⊥
no_item e = cc e

octal_byte : (cs : List ℕ) (i : ℕ × ℕ) → octal cs ≡ Some i → byte i.0 ≡ true
octal_byte (b ∷ c ∷ d ∷ bs) i e = go (true_or_false (nat_le 48 b && nat_le b 51 && is_octal c && is_octal d))
  where
    go : ((nat_le 48 b && nat_le b 51 && is_octal c && is_octal d) ≡ true) ⊎ ((nat_le 48 b && nat_le b 51 && is_octal c && is_octal d) ≡ false)
        → byte i.0 ≡ true
    go (inl h) =
        let k = and_parts (nat_le 48 b && nat_le b 51 && is_octal c) (is_octal d) h in
        let l = and_parts (nat_le 48 b && nat_le b 51) (is_octal c) k.0 in
        let m = leb-true b 51 (and_parts (nat_le 48 b) (nat_le b 51) l.0).1 in
        let n = leb-true c 55 (and_parts (nat_le 48 c) (nat_le c 55) l.1).1 in
        let o = leb-true d 55 (and_parts (nat_le 48 d) (nat_le d 55) k.1).1 in
        given (64 * (b - 48) + 8 * (c - 48) + (d - 48)) 3 i (le-leb _ 256 (omega (arith, m, n, o))) (rw h at e)
    go (inr h) = absurd (no_item (rw h at e))
octal_byte (b ∷ c ∷ []) i e = absurd (no_item e)
octal_byte (b ∷ []) i e = absurd (no_item e)
octal_byte [] i e = absurd (no_item e)

escape_byte : (bs : List ℕ) → list_all byte bs ≡ true → (i : ℕ × ℕ) → escape bs ≡ Some i → byte i.0 ≡ true
escape_byte [] h i e = absurd (no_item e)
escape_byte (b ∷ bs) h i e =
    chosen_item (b == 110) _ _ i e (given 10 1 i refl) (λ _ f.
    chosen_item (b == 116) _ _ i f (given 9 1 i refl) (λ _ g.
    chosen_item (b == 114) _ _ i g (given 13 1 i refl) (λ _ k.
    chosen_item (b == 92 || b == 34) _ _ i k (given b 1 i (and_parts (byte b) (list_all byte bs) h).0) (λ _ l. octal_byte (b ∷ bs) i l))))

item_byte : (b : ℕ) (bs : List ℕ) → list_all byte (b ∷ bs) ≡ true → (i : ℕ × ℕ) → item b bs ≡ Some i → byte i.0 ≡ true
item_byte b bs h i e =
    let k = and_parts (byte b) (list_all byte bs) h in
    chosen_item (b == 92) (escape bs) (Some (b, 0)) i e (escape_byte bs k.1 i) (λ _. given b 0 i k.0)

abbrev name_bytes : Option (List ℕ × ℕ) → Bool
name_bytes None = true
name_bytes (Some q) = list_all byte q.0

longer_bytes : (o : Option (List ℕ × ℕ)) → name_bytes o ≡ true → name_bytes (option_map (λ q. (q.0, 1 + q.1)) o) ≡ true
longer_bytes None h = refl
longer_bytes (Some q) h = h

item_bytes : (o : Option (ℕ × ℕ)) (rest : ℕ → Option (List ℕ × ℕ)) → ((i : ℕ × ℕ) → o ≡ Some i → byte i.0 ≡ true)
    → ((n : ℕ) → name_bytes (rest n) ≡ true) → name_bytes (after_item o rest) ≡ true
item_bytes None rest h k = refl
item_bytes (Some i) rest h k = front (rest i.1) (k i.1)
  where
    front : (o : Option (List ℕ × ℕ)) → name_bytes o ≡ true → name_bytes (option_map (λ q. (i.0 ∷ q.0, 1 + q.1)) o) ≡ true
    front None l = refl
    front (Some q) l = rw (h i refl, l) refl

chosen_name : (c : Bool) (x y : Option (List ℕ × ℕ)) → name_bytes x ≡ true → name_bytes y ≡ true → name_bytes (cond c x y) ≡ true
chosen_name true x y h k = h
chosen_name false x y h k = k

quoted_bytes : (skip : ℕ) (bs : List ℕ) → list_all byte bs ≡ true → name_bytes (quoted skip bs) ≡ true
quoted_bytes skip [] h = refl
quoted_bytes (suc skip) (b ∷ bs) h = longer_bytes (quoted skip bs) (quoted_bytes skip bs (and_parts (byte b) (list_all byte bs) h).1)
quoted_bytes zero (b ∷ bs) h =
    chosen_name (b == 34) (Some ([], 1)) (after_item (item b bs) (λ skip. quoted skip bs)) refl
    (item_bytes (item b bs) (λ skip. quoted skip bs) (item_byte b bs h) (λ n. quoted_bytes n bs (and_parts (byte b) (list_all byte bs) h).1))

quoted_in_range : (o : Option (List ℕ × ℕ)) → name_bytes o ≡ true → in_range (quoted_token o).0 ≡ true
quoted_in_range None h = refl
quoted_in_range (Some (name, len)) h = rw h refl

token_in_range : (b : ℕ) (bs : List ℕ) → list_all byte bs ≡ true → in_range (token_at b bs).0 ≡ true
token_in_range b bs h =
    chosen_pair (is_digit b) _ _ (λ _. integer_in_range (pos (digits_value 10 (b ∷ take_while is_digit bs)))) (λ _.
    chosen_pair (b == 45 && starts_with_digit bs) _ _ (λ _. integer_in_range (neg_ℤ (pos (digits_value 10 (take_while is_digit bs))))) (λ _.
    chosen_pair (starts_name b) _ _ (λ e. plain_in_range b (take_while continues_name bs) e (taken_pass continues_name bs)) (λ _.
    chosen_pair (b == 34) (quoted_token (quoted 0 bs)) (mark b, 0) (λ _. quoted_in_range (quoted 0 bs) (quoted_bytes 0 bs h)) (λ _. mark_in_range b))))

-- all tokens of a text
chosen_tokens : (c : Bool) (xs ys : List Token) → list_all in_range xs ≡ true → list_all in_range ys ≡ true → list_all in_range (cond c xs ys) ≡ true
chosen_tokens true xs ys h k = h
chosen_tokens false xs ys h k = k

tokens_in_range : (skip : ℕ) (bs : List ℕ) → list_all byte bs ≡ true → list_all in_range (kinds_from skip bs) ≡ true
tokens_in_range skip [] h = refl
tokens_in_range (suc skip) (b ∷ bs) h = tokens_in_range skip bs (and_parts (byte b) (list_all byte bs) h).1
tokens_in_range zero (b ∷ bs) h =
    let k = (and_parts (byte b) (list_all byte bs) h).1 in
    chosen_tokens (is_layout b) (kinds_from 0 bs) ((token_at b bs).0 ∷ kinds_from (token_at b bs).1 bs) (tokens_in_range 0 bs k)
    (rw (token_in_range b bs k, tokens_in_range (token_at b bs).1 bs k) refl)

-- all of a tree, from the tokens that spell it
both_true : {a b : Bool} → a ≡ true → b ≡ true → (a && b) ≡ true
both_true h k = rw (h, k) refl

after : (t : Token) (ts : List Token) → list_all in_range (t ∷ ts) ≡ true → list_all in_range ts ≡ true
after t ts h = (and_parts (in_range t) (list_all in_range ts) h).1

mutual
  term_valid : {ts rest : List Token} {t : Tree} → Term ts t rest → list_all in_range ts ≡ true → (is_tree t ≡ true) × (list_all in_range rest ≡ true)
  term_valid (integer {z = z} {ts = ts} h) e =
      let r = and_parts (is_i32 z) (list_all in_range ts) e in
      let k = annotations_valid h r.1 in (both_true r.0 k.0, k.1)
  term_valid (named {name = n} {quoted = q} {ts = ts} g h) e =
      let r = and_parts (is_name n q) (list_all in_range ts) e in
      let j = arguments_valid g r.1 in
      let k = annotations_valid h j.1 in (both_true (both_true r.0 j.0) k.0, k.1)
  term_valid (nameless {ts = ts} {us = us} g h) e =
      let j = terms_valid g (after Open ts e) in
      let k = annotations_valid h (after Close us j.1) in (both_true j.0 k.0, k.1)
  term_valid (list {ts = ts} {us = us} g h) e =
      let j = terms_valid g (after OpenBracket ts e) in
      let k = annotations_valid h (after CloseBracket us j.1) in (both_true j.0 k.0, k.1)
  term_valid (hole {ts = ts} {us = us} g h) e =
      let j = term_valid g (after Less ts e) in
      let k = annotations_valid h (after Greater us j.1) in (both_true j.0 k.0, k.1)

  arguments_valid : {ts rest : List Token} {as' : Trees} → Arguments ts as' rest → list_all in_range ts ≡ true
      → (are_trees as' ≡ true) × (list_all in_range rest ≡ true)
  arguments_valid no_parentheses e = (refl, e)
  arguments_valid (parentheses {ts = ts} {us = us} g) e = let j = terms_valid g (after Open ts e) in (j.0, after Close us j.1)

  annotations_valid : {ts rest : List Token} {as' : Trees} → Annotations ts as' rest → list_all in_range ts ≡ true
      → (are_trees as' ≡ true) × (list_all in_range rest ≡ true)
  annotations_valid no_braces e = (refl, e)
  annotations_valid (braces {ts = ts} {us = us} g) e = let j = terms_valid g (after OpenBrace ts e) in (j.0, after CloseBrace us j.1)

  terms_valid : {ts rest : List Token} {as' : Trees} → Terms ts as' rest → list_all in_range ts ≡ true
      → (are_trees as' ≡ true) × (list_all in_range rest ≡ true)
  terms_valid no_terms e = (refl, e)
  terms_valid (terms g o) e =
      let j = term_valid g e in
      let k = others_valid o j.1 in (both_true j.0 k.0, k.1)

  others_valid : {ts rest : List Token} {as' : Trees} → Others ts as' rest → list_all in_range ts ≡ true
      → (are_trees as' ≡ true) × (list_all in_range rest ≡ true)
  others_valid no_others e = (refl, e)
  others_valid (comma {ts = ts} g o) e =
      let j = term_valid g (after Comma ts e) in
      let k = others_valid o j.1 in (both_true j.0 k.0, k.1)

-- what bytes spell is a tree
pub spelt_valid : (bytes : List ℕ) (t : Tree) → list_all byte bytes ≡ true → Spells bytes t → is_tree t ≡ true
spelt_valid bytes t h s = (term_valid s (rw kinds_are (tokens_in_range 0 bytes h))).0

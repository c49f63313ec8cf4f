-- What the text of a line has no line end in.
use Rattle.std.proofs.Common.{◌≡◌, ℕ, zero, suc, ◌+◌, ◌/◌, ◌%◌, ◌<◌, Bool, true, false, not, ◌&&◌, ◌||◌, ◌==◌, cond, List, [], ◌∷◌, ◌++◌, refl, arith}
use Rattle.std.proofs.Common.{filter, fold, map, nat_lt}
use Rattle.std.specs.Prelude.{decimal, codes, flat_map, nat_le, ℤ, pos, negsuc}
use Rattle.std.specs.List.{AllByRecursion, list_all, list_any, position_or_len}
use Rattle.std.specs.Fmt.{digit_glyph, digits, digits_onto, signed_decimal}
use Rattle.std.proofs.lemmas.Bool.Decides.{nat_tests}
use Rattle.std.proofs.lemmas.Bool.{leb-true}
use Rattle.rx_term.specs.Tree.{Tree, Trees, Int, Appl, Items, Hole, none, more, annotated, are_trees, from_list, is_i32, is_tree, tree_eq}
use Rattle.rx_term.specs.Name.{plain_name, is_allowed, is_empty, is_name, starts_name, continues_name}
use Rattle.rx_text.specs.Canon.{canon, canon_all, canon_others, enclosed, name_text, no_arguments, quoted_byte, octal_text}
use Rattle.rx_text.proofs.CuttingLemmas.{and_parts}
use Rattle.rx_text.proofs.InLineLemmas.{seen, letter_seen, continuing_seen}
use Rattle.rx_table.specs.Table.{different, entry, is_shared, numbered, reference, shared, subterms, subterms_all, table, written, written_all}
use Rattle.rx_run.specs.Bytes.{newlines}
use Rattle.rec_run.specs.Output.{notes_text}
use Rattle.rx_run.proofs.NewlineLemmas.{no_ends}
use Rattle.rec_engine.proofs.ValueTreeLemmas.{IsApplied, AreApplied}

above_end : (b : ℕ) (bs : List ℕ) → 10 < b → newlines bs ≡ 0 → newlines (b ∷ bs) ≡ 0
above_end b bs h k = grind (arith, nat_tests, h, k)

seen_above : (b : ℕ) → seen b ≡ true → 10 < b
seen_above b h = let k = leb-true 32 b (and_parts (nat_le 32 b) (nat_le b 126) h).0 in omega (arith, k)

continuing-newlines : (bs : List ℕ) → list_all continues_name bs ≡ true → newlines bs ≡ 0
continuing-newlines [] h = refl
continuing-newlines (b ∷ bs) h = let k = and_parts (continues_name b) (list_all continues_name bs) h in
    above_end b bs (seen_above b (continuing_seen b k.0)) (continuing-newlines bs k.1)

plain-newlines : (name : List ℕ) → plain_name name ≡ true → newlines name ≡ 0
plain-newlines [] h = refl
plain-newlines (b ∷ bs) h = let k = and_parts (starts_name b) (list_all continues_name bs) h in
    above_end b bs (seen_above b (letter_seen b k.0)) (continuing-newlines bs k.1)

octal-newlines : (b : ℕ) → newlines (octal_text b) ≡ 0
octal-newlines b =
    let last = (48 + b % 8) ∷ [] in
    let middle = (48 + b / 8 % 8) ∷ last in
    above_end 92 ((48 + b / 64) ∷ middle) (omega arith) (above_end (48 + b / 64) middle (omega arith)
    (above_end (48 + b / 8 % 8) last (omega arith) (above_end (48 + b % 8) [] (omega arith) refl)))

chosen-newlines : (c : Bool) (xs ys : List ℕ) → (c ≡ true → newlines xs ≡ 0) → (c ≡ false → newlines ys ≡ 0) → newlines (cond c xs ys) ≡ 0
chosen-newlines true xs ys h k = h refl
chosen-newlines false xs ys h k = k refl

marked_above : (b : ℕ) → (b == 34 || b == 92) ≡ true → 10 < b
marked_above b h = grind (arith, nat_tests, h)

quoted_byte-newlines : (b : ℕ) → newlines (quoted_byte b) ≡ 0
quoted_byte-newlines b =
    chosen-newlines (b == 34 || b == 92) _ _ (λ e. above_end 92 (b ∷ []) (omega arith) (above_end b [] (marked_above b e) refl)) (λ _.
    chosen-newlines (b == 10) _ _ (λ _. refl) (λ _.
    chosen-newlines (b == 9) _ _ (λ _. refl) (λ _.
    chosen-newlines (b == 13) _ _ (λ _. refl) (λ _.
    chosen-newlines (nat_le 32 b && nat_le b 126) _ _ (λ e. above_end b [] (seen_above b e) refl) (λ _. octal-newlines b)))))

quoted-newlines : (name : List ℕ) → newlines (flat_map quoted_byte name) ≡ 0
quoted-newlines [] = refl
quoted-newlines (b ∷ bs) = no_ends (quoted_byte b) (flat_map quoted_byte bs) (quoted_byte-newlines b) (quoted-newlines bs)

quoted_name-newlines : (name : List ℕ) → newlines (name_text name true) ≡ 0
quoted_name-newlines name = above_end 34 (flat_map quoted_byte name ++ 34 ∷ []) (omega arith)
    (no_ends (flat_map quoted_byte name) (34 ∷ []) (quoted-newlines name) refl)

or_none : (b : Bool) → b || false ≡ true → b ≡ true
or_none true h = refl
or_none false h = h

name_text-newlines : (name : List ℕ) (quoted : Bool) → quoted ≡ not (plain_name name) → newlines (name_text name quoted) ≡ 0
name_text-newlines name true h = quoted_name-newlines name
name_text-newlines name false h = plain-newlines name (by_flag (plain_name name) h)
  where
    by_flag : (b : Bool) → false ≡ not b → b ≡ true
    by_flag true e = refl
    by_flag false e = absurd (cc e)

enclosed-newlines : (left : ℕ) (ts : Trees) (text : List ℕ) (right : ℕ) (empty : List ℕ) → 10 < left → 10 < right → newlines text ≡ 0
    → newlines empty ≡ 0 → newlines (enclosed left ts text right empty) ≡ 0
enclosed-newlines left none text right empty h k l m = m
enclosed-newlines left (more t ts) text right empty h k l m = above_end left (text ++ right ∷ []) h (no_ends text (right ∷ []) l (above_end right [] k refl))

no_arguments-newlines : (name : List ℕ) (quoted : Bool) → newlines (no_arguments name quoted) ≡ 0
no_arguments-newlines name quoted = chosen-newlines (is_empty name && not quoted) (codes "()") [] (λ _. refl) (λ _. refl)

abbrev mutual
  -- the text of each name in a tree has no line end
  pub IsInLine : Tree → Type 0
  IsInLine (Int z anns) = AreInLine anns
  IsInLine (Appl name quoted args anns) = (newlines (name_text name quoted) ≡ 0) × AreInLine args × AreInLine anns
  IsInLine (Items items anns) = AreInLine items × AreInLine anns
  IsInLine (Hole inner anns) = IsInLine inner × AreInLine anns

  pub AreInLine : Trees → Type 0
  AreInLine none = Unit {0}
  AreInLine (more t ts) = IsInLine t × AreInLine ts

glyph_above : (d : ℕ) → 10 < digit_glyph false d
glyph_above d = grind (arith, nat_tests)

digits_onto-newlines : (k n : ℕ) (acc : List ℕ) → newlines acc ≡ 0 → newlines (digits_onto k 10 false n acc) ≡ 0
digits_onto-newlines zero n acc h = h
digits_onto-newlines (suc k) n acc h =
    let more : newlines (digit_glyph false (n % 10) ∷ acc) ≡ 0 = above_end (digit_glyph false (n % 10)) acc (glyph_above (n % 10)) h in
    chosen-newlines (n / 10 == 0) _ _ (λ _. more) (λ _. digits_onto-newlines k (n / 10) (digit_glyph false (n % 10) ∷ acc) more)

pub decimal-newlines : (n : ℕ) → newlines (decimal n) ≡ 0
unfolding digits
decimal-newlines n = digits_onto-newlines 64 n [] refl

signed-newlines : (z : ℤ) → newlines (signed_decimal z) ≡ 0
signed-newlines (pos n) = decimal-newlines n
signed-newlines (negsuc n) = above_end 45 (decimal (suc n)) (omega arith) (decimal-newlines (suc n))

braces-newlines : (anns : Trees) → newlines (canon_all anns) ≡ 0 → newlines (enclosed 123 anns (canon_all anns) 125 []) ≡ 0
braces-newlines anns h = enclosed-newlines 123 anns (canon_all anns) 125 [] (omega arith) (omega arith) h refl

-- so its text has none
mutual
  pub canon-newlines : (t : Tree) → IsInLine t → newlines (canon t) ≡ 0
  canon-newlines (Int z anns) h =
      no_ends (signed_decimal z) _ (signed-newlines z) (braces-newlines anns (canon_all-newlines anns h))
  canon-newlines (Appl name quoted args anns) h =
      no_ends (name_text name quoted ++ enclosed 40 args (canon_all args) 41 (no_arguments name quoted)) _
      (no_ends (name_text name quoted) _ h.0
      (enclosed-newlines 40 args (canon_all args) 41 _ (omega arith) (omega arith) (canon_all-newlines args h.1) (no_arguments-newlines name quoted)))
      (braces-newlines anns (canon_all-newlines anns h.2))
  canon-newlines (Items items anns) h =
      let braces = enclosed 123 anns (canon_all anns) 125 [] in
      above_end 91 (canon_all items ++ 93 ∷ braces) (omega arith) (no_ends (canon_all items) (93 ∷ braces) (canon_all-newlines items h.0)
      (above_end 93 braces (omega arith) (braces-newlines anns (canon_all-newlines anns h.1))))
  canon-newlines (Hole inner anns) h =
      let braces = enclosed 123 anns (canon_all anns) 125 [] in
      above_end 60 (canon inner ++ 62 ∷ braces) (omega arith) (no_ends (canon inner) (62 ∷ braces) (canon-newlines inner h.0)
      (above_end 62 braces (omega arith) (braces-newlines anns (canon_all-newlines anns h.1))))

  canon_all-newlines : (ts : Trees) → AreInLine ts → newlines (canon_all ts) ≡ 0
  canon_all-newlines none h = refl
  canon_all-newlines (more t ts) h = no_ends (canon t) (canon_others ts) (canon-newlines t h.0) (canon_others-newlines ts h.1)

  canon_others-newlines : (ts : Trees) → AreInLine ts → newlines (canon_others ts) ≡ 0
  canon_others-newlines none h = refl
  canon_others-newlines (more t ts) h = above_end 44 (canon t ++ canon_others ts) (omega arith)
      (no_ends (canon t) (canon_others ts) (canon-newlines t h.0) (canon_others-newlines ts h.1))

-- nor have annotations
pub notes-newlines : (notes : Trees) → AreInLine notes → newlines (notes_text notes) ≡ 0
notes-newlines notes h = braces-newlines notes (canon_all-newlines notes h)

-- ---- trees without line ends

mutual
  pub applied-in_line : (t : Tree) → IsApplied t → IsInLine t
  applied-in_line (Appl name quoted args none) h = (name_text-newlines name quoted h.0, applied_all-in_line args h.2, tt)
  applied-in_line (Appl name quoted args (more t ts)) h = absurd (cc (h.1))
  applied-in_line (Int z anns) h = absurd h
  applied-in_line (Items ts anns) h = absurd h
  applied-in_line (Hole t anns) h = absurd h

  applied_all-in_line : (ts : Trees) → AreApplied ts → AreInLine ts
  applied_all-in_line none h = tt
  applied_all-in_line (more t ts) h = (applied-in_line t h.0, applied_all-in_line ts h.1)

allowed-newlines : (name : List ℕ) (quoted : Bool) → is_allowed name quoted ≡ true → newlines (name_text name quoted) ≡ 0
allowed-newlines name true h = quoted_name-newlines name
allowed-newlines [] false h = refl
allowed-newlines (b ∷ bs) false h = plain-newlines (b ∷ bs) (or_none (plain_name (b ∷ bs)) h)

mutual
  tree-in_line : (t : Tree) → is_tree t ≡ true → IsInLine t
  tree-in_line (Int z anns) h = trees-in_line anns (and_parts (is_i32 z) (are_trees anns) h).1
  tree-in_line (Appl name quoted args anns) h =
      let k = and_parts (is_name name quoted && are_trees args) (are_trees anns) h in
      let l = and_parts (is_name name quoted) (are_trees args) k.0 in (
        allowed-newlines name quoted (and_parts (list_all (λ b. nat_lt b 256) name) (is_allowed name quoted) l.0).1,
        trees-in_line args l.1,
        trees-in_line anns k.1,
      )
  tree-in_line (Items items anns) h =
      let k = and_parts (are_trees items) (are_trees anns) h in (trees-in_line items k.0, trees-in_line anns k.1)
  tree-in_line (Hole inner anns) h =
      let k = and_parts (is_tree inner) (are_trees anns) h in (tree-in_line inner k.0, trees-in_line anns k.1)

  pub trees-in_line : (ts : Trees) → are_trees ts ≡ true → AreInLine ts
  trees-in_line none h = tt
  trees-in_line (more t ts) h = let k = and_parts (is_tree t) (are_trees ts) h in (tree-in_line t k.0, trees-in_line ts k.1)

pub annotated-in_line : (t : Tree) (notes : Trees) → IsInLine t → AreInLine notes → IsInLine (annotated t notes)
annotated-in_line (Int z anns) notes h k = k
annotated-in_line (Appl name quoted args anns) notes h k = (h.0, h.1, k)
annotated-in_line (Items items anns) notes h k = (h.0, k)
annotated-in_line (Hole inner anns) notes h k = (h.0, k)

-- ---- tables

all-both : {X : Type 0} (P : X → Type 0) (xs ys : List X) → AllByRecursion P xs → AllByRecursion P ys → AllByRecursion P (xs ++ ys)
all-both P [] ys h k = k
all-both P (x ∷ xs) ys h k = (h.0, all-both P xs ys h.1 k)

all-chosen : {X : Type 0} (P : X → Type 0) (b : Bool) (xs ys : List X) → AllByRecursion P xs → AllByRecursion P ys → AllByRecursion P (cond b xs ys)
all-chosen P true xs ys h k = h
all-chosen P false xs ys h k = k

-- a list with a new key at its end
abbrev with-key : {X : Type 0} → (X → X → Bool) → List X → X → List X
with-key eq ks x = cond (list_any (eq x) ks) ks (ks ++ x ∷ [])

all-inserted : {X : Type 0} (eq : X → X → Bool) (P : X → Type 0) (ks xs : List X) → AllByRecursion P ks → AllByRecursion P xs
    → AllByRecursion P (fold (with-key eq) ks xs)
all-inserted eq P ks [] h k = h
all-inserted eq P ks (x ∷ xs) h k =
    all-inserted eq P (with-key eq ks x) xs
    (all-chosen P (list_any (eq x) ks) ks (ks ++ x ∷ []) h (all-both P ks (x ∷ []) h (k.0, tt))) k.1

all-filtered : {X : Type 0} (p : X → Bool) (P : X → Type 0) (xs : List X) → AllByRecursion P xs → AllByRecursion P (filter p xs)
all-filtered p P [] h = tt
all-filtered p P (x ∷ xs) h = by (p x) (all-filtered p P xs h.1)
  where
    by : (b : Bool) → AllByRecursion P (filter p xs) → AllByRecursion P (cond b (x ∷ filter p xs) (filter p xs))
    by true later = (h.0, later)
    by false later = later

mutual
  subterms-in_line : (t : Tree) → IsInLine t → AllByRecursion IsInLine (subterms t)
  subterms-in_line (Int z anns) h = all-both IsInLine (subterms_all anns) (Int z anns ∷ []) (inside-in_line anns h) (h, tt)
  subterms-in_line (Appl name quoted args anns) h =
      all-both IsInLine (subterms_all args ++ subterms_all anns) (Appl name quoted args anns ∷ [])
      (all-both IsInLine (subterms_all args) (subterms_all anns) (inside-in_line args h.1) (inside-in_line anns h.2)) (h, tt)
  subterms-in_line (Items items anns) h =
      all-both IsInLine (subterms_all items ++ subterms_all anns) (Items items anns ∷ [])
      (all-both IsInLine (subterms_all items) (subterms_all anns) (inside-in_line items h.0) (inside-in_line anns h.1)) (h, tt)
  subterms-in_line (Hole inner anns) h =
      all-both IsInLine (subterms inner ++ subterms_all anns) (Hole inner anns ∷ [])
      (all-both IsInLine (subterms inner) (subterms_all anns) (subterms-in_line inner h.0) (inside-in_line anns h.1)) (h, tt)

  inside-in_line : (ts : Trees) → AreInLine ts → AllByRecursion IsInLine (subterms_all ts)
  inside-in_line none h = tt
  inside-in_line (more t ts) h =
      all-both IsInLine (subterms t) (subterms_all ts) (subterms-in_line t h.0) (inside-in_line ts h.1)

shared-in_line : (t : Tree) → IsInLine t → AllByRecursion IsInLine (shared t)
shared-in_line t h =
    let qs = different (subterms t) in
    all-filtered (is_shared qs) IsInLine qs (all-inserted tree_eq IsInLine [] (subterms t) tt (subterms-in_line t h))

module _ (ps : List Tree) where
  numbered-in_line : (t e : Tree) → IsInLine e → IsInLine (numbered ps t e)
  numbered-in_line t e h = by (list_any (tree_eq t) ps)
    where
      by : (b : Bool) → IsInLine (cond b (reference (position_or_len (tree_eq t) ps)) e)
      by true = (tt, tt)
      by false = h

  mutual
    entry-in_line : (t : Tree) → IsInLine t → IsInLine (entry ps t)
    entry-in_line (Int z anns) h = written-in_line anns h
    entry-in_line (Appl name quoted args anns) h = (h.0, written-in_line args h.1, written-in_line anns h.2)
    entry-in_line (Items items anns) h = (written-in_line items h.0, written-in_line anns h.1)
    entry-in_line (Hole inner anns) h =
        (((numbered-in_line inner (entry ps inner) (entry-in_line inner h.0), tt), tt), written-in_line anns h.1)

    written-in_line : (ts : Trees) → AreInLine ts → AreInLine (written_all ps ts)
    written-in_line none h = tt
    written-in_line (more t ts) h = (numbered-in_line t (entry ps t) (entry-in_line t h.0), written-in_line ts h.1)

  elements-in_line : (us : List Tree) (t : Tree) → AllByRecursion IsInLine us → IsInLine t
      → AreInLine (from_list (map (entry ps) us ++ written ps t ∷ []))
  elements-in_line [] t h k = (numbered-in_line t (entry ps t) (entry-in_line t k), tt)
  elements-in_line (u ∷ us) t h k = (entry-in_line u h.0, elements-in_line us t h.1 k)

-- the table of a tree without line ends has none
pub table-newlines : (t : Tree) → IsInLine t → newlines (canon (table t)) ≡ 0
table-newlines t h = canon-newlines (table t) (elements-in_line (shared t) (shared t) t (shared-in_line t h) h, tt)

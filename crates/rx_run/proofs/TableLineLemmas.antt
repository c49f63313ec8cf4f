-- The printed form of the table of a valid tree has no line end.
use Rattle.std.proofs.Common.{◌≡◌, ◌≢◌, ℕ, zero, suc, ◌/◌, ◌%◌, Bool, true, false, ◌&&◌, ◌==◌, cond, List, [], ◌∷◌, ◌++◌, refl, arith}
use Rattle.std.proofs.Common.{ℤ, pos, negsuc, map}
use Rattle.std.specs.Prelude.{decimal}
use Rattle.std.specs.Fmt.{digit_glyph, digits, digits_onto, signed_decimal}
use Rattle.std.specs.List.{AllByRecursion, list_any, position_or_len}
use Rattle.std.proofs.lemmas.Bool.Decides.{nat_tests}
use Rattle.rx_term.specs.Name.{is_name}
use Rattle.rx_term.specs.Tree.{Tree, Trees, Int, Appl, Items, Hole, none, more, from_list, list_of, is_i32, is_tree, are_trees, tree_eq}
use Rattle.rx_text.specs.Canon.{canon, canon_all, canon_others, enclosed, name_text, no_arguments}
use Rattle.rx_text.proofs.CuttingLemmas.{and_parts}
use Rattle.rx_text.proofs.InLineLemmas.{stays_in_line}
use Rattle.rx_table.specs.Table.{different, entry, is_shared, numbered, shared, subterms, subterms_all, table, written, written_all}
use Rattle.rx_table.proofs.SubtermLemmas.{all-at, all-both, among-different, among-first, among-right}
use Rattle.rx_table.proofs.TableLemmas.{among-filter}
use Rattle.rx_run.specs.Bytes.{newlines}
use Rattle.rx_run.proofs.NewlineLemmas.{newlines-append, no_ends}
use Rattle.rx_run.proofs.TermDueLemmas.{in_line-newlines, other_byte}

abbrev HasNone : List ℕ → Type 0
HasNone text = newlines text ≡ 0

abbrev IsValid : Tree → Type 0
IsValid t = is_tree t ≡ true

chosen : (b : Bool) (xs ys : List ℕ) → HasNone xs → HasNone ys → HasNone (cond b xs ys)
chosen true xs ys h k = h
chosen false xs ys h k = k

-- ---- numbers and names

glyph_other : (d : ℕ) → digit_glyph false d ≢ 10
glyph_other d = grind (arith, nat_tests)

digits_none : (k n : ℕ) (acc : List ℕ) → HasNone acc → HasNone (digits_onto k 10 false n acc)
digits_none zero n acc h = h
digits_none (suc k) n acc h =
    let more : HasNone (digit_glyph false (n % 10) ∷ acc) = other_byte (digit_glyph false (n % 10)) acc (glyph_other (n % 10)) h in
    chosen (n / 10 == 0) _ _ more (digits_none k (n / 10) (digit_glyph false (n % 10) ∷ acc) more)

pub decimal_none : (n : ℕ) → HasNone (decimal n)
unfolding digits
decimal_none n = digits_none 64 n [] refl

signed_none : (z : ℤ) → HasNone (signed_decimal z)
signed_none (pos n) = decimal_none n
signed_none (negsuc n) = other_byte 45 (decimal (suc n)) (omega arith) (decimal_none (suc n))

-- a valid tree
valid_none : (t : Tree) → is_tree t ≡ true → HasNone (canon t)
valid_none t h = in_line-newlines (canon t) (stays_in_line t h).0

-- a name, and what stands in the place of no arguments
name_none : (name : List ℕ) (quoted : Bool) → is_name name quoted ≡ true → HasNone (name_text name quoted) × HasNone (no_arguments name quoted)
name_none name quoted h =
    let whole = valid_none (Appl name quoted none none) (rw h refl) in
    let outer = newlines-append (name_text name quoted ++ no_arguments name quoted) [] in
    let inner = newlines-append (name_text name quoted) (no_arguments name quoted) in
    (omega (arith, whole, outer, inner), omega (arith, whole, outer, inner))

-- ---- elements

bracketed_none : (left : ℕ) (text : List ℕ) (right : ℕ) (rest : List ℕ) → left ≢ 10 → right ≢ 10 → HasNone text → HasNone rest
    → HasNone (left ∷ text ++ right ∷ rest)
bracketed_none left text right rest l r h k = other_byte left (text ++ right ∷ rest) l (no_ends text (right ∷ rest) h (other_byte right rest r k))

enclosed_none : (left : ℕ) (ts : Trees) (text : List ℕ) (right : ℕ) (empty : List ℕ) → left ≢ 10 → right ≢ 10 → HasNone text → HasNone empty
    → HasNone (enclosed left ts text right empty)
enclosed_none left none text right empty l r h k = k
enclosed_none left (more t ts) text right empty l r h k = bracketed_none left text right [] l r h refl

notes_none : (anns : Trees) → HasNone (canon_all anns) → HasNone (enclosed 123 anns (canon_all anns) 125 [])
notes_none anns h = enclosed_none 123 anns (canon_all anns) 125 [] (omega arith) (omega arith) h refl

others_more : (t : Tree) (ts : Trees) → HasNone (canon t) → HasNone (canon_others ts) → HasNone (canon_others (more t ts))
others_more t ts h k = other_byte 44 (canon t ++ canon_others ts) (omega arith) (no_ends (canon t) (canon_others ts) h k)

numbered_none : (ps : List Tree) (t e : Tree) → HasNone (canon e) → HasNone (canon (numbered ps t e))
numbered_none ps t e h = by (list_any (tree_eq t) ps) refl
  where
    k : ℕ
    k = position_or_len (tree_eq t) ps

    by : (b : Bool) → list_any (tree_eq t) ps ≡ b → HasNone (canon (numbered ps t e))
    by true q = rw q (bracketed_none 60 (decimal k ++ []) 62 [] (omega arith) (omega arith) (no_ends (decimal k) [] (decimal_none k) refl) refl)
    by false q = rw q h

module _ (ps : List Tree) where
  mutual
    entry_none : (t : Tree) → is_tree t ≡ true → HasNone (canon (entry ps t))
    entry_none (Int z anns) h =
        let k = and_parts (is_i32 z) (are_trees anns) h in
        no_ends (signed_decimal z) _ (signed_none z) (notes_none (written_all ps anns) (all_none anns k.1))
    entry_none (Appl name quoted args anns) h =
        let k = and_parts (is_name name quoted && are_trees args) (are_trees anns) h in
        let l = and_parts (is_name name quoted) (are_trees args) k.0 in
        let n = name_none name quoted l.0 in
        let args' = written_all ps args in
        no_ends (name_text name quoted ++ enclosed 40 args' (canon_all args') 41 (no_arguments name quoted)) _
        (no_ends (name_text name quoted) _ n.0
        (enclosed_none 40 args' (canon_all args') 41 (no_arguments name quoted) (omega arith) (omega arith) (all_none args l.1) n.1))
        (notes_none (written_all ps anns) (all_none anns k.1))
    entry_none (Items items anns) h =
        let k = and_parts (are_trees items) (are_trees anns) h in
        bracketed_none 91 (canon_all (written_all ps items)) 93 _ (omega arith) (omega arith) (all_none items k.0) (notes_none (written_all ps anns) (all_none anns k.1))
    entry_none (Hole inner anns) h =
        let k = and_parts (is_tree inner) (are_trees anns) h in
        let item = canon (numbered ps inner (entry ps inner)) in
        bracketed_none 60 (canon (list_of (more (numbered ps inner (entry ps inner)) none))) 62 _ (omega arith) (omega arith)
        (bracketed_none 91 (item ++ []) 93 [] (omega arith) (omega arith)
        (no_ends item [] (numbered_none ps inner (entry ps inner) (entry_none inner k.0)) refl) refl)
        (notes_none (written_all ps anns) (all_none anns k.1))

    all_none : (ts : Trees) → are_trees ts ≡ true → HasNone (canon_all (written_all ps ts))
    all_none none h = refl
    all_none (more t ts) h =
        let k = and_parts (is_tree t) (are_trees ts) h in
        no_ends (canon (numbered ps t (entry ps t))) _ (numbered_none ps t (entry ps t) (entry_none t k.0)) (others_none ts k.1)

    others_none : (ts : Trees) → are_trees ts ≡ true → HasNone (canon_others (written_all ps ts))
    others_none none h = refl
    others_none (more t ts) h =
        let k = and_parts (is_tree t) (are_trees ts) h in
        others_more (numbered ps t (entry ps t)) (written_all ps ts) (numbered_none ps t (entry ps t) (entry_none t k.0)) (others_none ts k.1)

  elements_none : (us : List Tree) (t : Tree) → AllByRecursion IsValid us → IsValid t → HasNone (canon_others (from_list (map (entry ps) us ++ written ps t ∷ [])))
  elements_none [] t h k = others_more (written ps t) none (numbered_none ps t (entry ps t) (entry_none t k)) refl
  elements_none (u ∷ us) t h k = others_more (entry ps u) (from_list (map (entry ps) us ++ written ps t ∷ [])) (entry_none u h.0) (elements_none us t h.1 k)

-- the text of some trees ends the text of each after a comma
first_none : (ts : Trees) → HasNone (canon_others ts) → HasNone (canon_all ts)
first_none none h = refl
first_none (more t ts) h = let both = newlines-append (44 ∷ []) (canon_all (more t ts)) in omega (arith, both, h)

-- ---- the shared parts of a valid tree are valid

mutual
  valid-subterms : (t : Tree) → IsValid t → AllByRecursion IsValid (subterms t)
  valid-subterms (Int z anns) h =
      let k = and_parts (is_i32 z) (are_trees anns) h in
      all-both IsValid (subterms_all anns) (Int z anns ∷ []) (valid-inside anns k.1) (h, tt)
  valid-subterms (Appl name quoted args anns) h =
      let k = and_parts (is_name name quoted && are_trees args) (are_trees anns) h in
      let l = and_parts (is_name name quoted) (are_trees args) k.0 in
      all-both IsValid (subterms_all args ++ subterms_all anns) (Appl name quoted args anns ∷ [])
      (all-both IsValid (subterms_all args) (subterms_all anns) (valid-inside args l.1) (valid-inside anns k.1)) (h, tt)
  valid-subterms (Items items anns) h =
      let k = and_parts (are_trees items) (are_trees anns) h in
      all-both IsValid (subterms_all items ++ subterms_all anns) (Items items anns ∷ [])
      (all-both IsValid (subterms_all items) (subterms_all anns) (valid-inside items k.0) (valid-inside anns k.1)) (h, tt)
  valid-subterms (Hole inner anns) h =
      let k = and_parts (is_tree inner) (are_trees anns) h in
      all-both IsValid (subterms inner ++ subterms_all anns) (Hole inner anns ∷ [])
      (all-both IsValid (subterms inner) (subterms_all anns) (valid-subterms inner k.0) (valid-inside anns k.1)) (h, tt)

  valid-inside : (ts : Trees) → are_trees ts ≡ true → AllByRecursion IsValid (subterms_all ts)
  valid-inside none h = tt
  valid-inside (more t ts) h =
      let k = and_parts (is_tree t) (are_trees ts) h in
      all-both IsValid (subterms t) (subterms_all ts) (valid-subterms t k.0) (valid-inside ts k.1)

each-among : (ts : List Tree) → ((t : Tree) → list_any (tree_eq t) ts ≡ true → IsValid t) → AllByRecursion IsValid ts
each-among [] h = tt
each-among (t ∷ ts) h = (h t (among-first t ts), each-among ts (λ u there. h u (among-right u (t ∷ []) ts there)))

valid-shared : (t : Tree) → IsValid t → AllByRecursion IsValid (shared t)
valid-shared t h =
    let qs = different (subterms t) in
    each-among (shared t) (λ u there. all-at IsValid (subterms t) u (valid-subterms t h)
    (among-different u (subterms t) (among-filter (is_shared qs) u qs there).1))

pub table_none : (t : Tree) → IsValid t → HasNone (canon (table t))
table_none t h =
    let ps = shared t in
    let elements = from_list (map (entry ps) ps ++ written ps t ∷ []) in
    bracketed_none 91 (canon_all elements) 93 [] (omega arith) (omega arith) (first_none elements (elements_none ps ps t (valid-shared t h) h)) refl

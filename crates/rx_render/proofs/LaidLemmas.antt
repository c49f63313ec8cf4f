-- The text over several lines has the tokens of the printed text.
use Rattle.std.proofs.Common.{◌≡◌, ℕ, ◌+◌, zero, suc, true, false, Bool, ◌&&◌, List, [], ◌∷◌, ◌++◌, refl, sym, ap, subst, ◌∙◌, append_assoc, append-nil}
use Rattle.std.specs.Prelude.{if◌then◌else◌, nat_lt, replicate}
use Rattle.std.specs.Fmt.{signed_decimal}
use Rattle.std.specs.List.{list_all}
use Rattle.rx_term.specs.Name.{is_name}
use Rattle.rx_term.specs.Tree.{Tree, Trees, none, more, Int, Appl, Items, Hole, is_i32, is_tree, are_trees}
use Rattle.rx_text.specs.Token.{Token, Integer, Name, Open, Close, OpenBracket, CloseBracket, OpenBrace, CloseBrace, Less, Greater, Comma}
use Rattle.rx_text.specs.Grammar.{SpelledBy}
use Rattle.rx_text.specs.Canon.{canon, canon_all, canon_others, enclosed, name_text, no_arguments}
use Rattle.rx_text.proofs.CuttingLemmas.{kinds_from, kinds_are, and_parts}
use Rattle.rx_text.proofs.PrintedLemmas.{printed_spells}
use Rattle.rx_render.proofs.CutLemmas.{Stops, integer_cut, quoted_cut, unquoted_cut, mark_stops, no_arguments_quoted}
use Rattle.rx_render.specs.Laid.{new_line, between, block, fits, unless_fits, laid_at, laid_all, laid_others, laid}
use Rattle.rx_render.specs.Layout.{body_laid, notes_laid, spread_laid}
use Rattle.rx_render.specs.declared.layout.Indentation.{Indentation}
use Rattle.rx_render.specs.Law.{LaidSpells}

-- both are cut into the same tokens
abbrev Same : List ℕ → List ℕ → Type 0
Same x y = kinds_from 0 x ≡ kinds_from 0 y

-- layout stands for no token
blanks_cut : (m : ℕ) (r : List ℕ) → Same (replicate m 32 ++ r) r
blanks_cut zero r = refl
blanks_cut (suc m) r = blanks_cut m r

line_cut : (m : ℕ) (r : List ℕ) → Same (new_line m ++ r) r
line_cut m r = blanks_cut m r

-- names and numbers stop at a line feed
line_stops : (m : ℕ) (r : List ℕ) → Stops (new_line m ++ r)
line_stops m r = mark_stops 10 (replicate m 32 ++ r) refl refl

-- two texts that are cut alike, whatever follows them alike
abbrev Alike : List ℕ → List ℕ → Type 0
Alike text plain = (x y : List ℕ) → Stops x → Stops y → Same x y → Same (text ++ x) (plain ++ y)

-- a mark and its token
abbrev Cuts : ℕ → Token → Type 0
Cuts mark t = (x : List ℕ) → kinds_from 0 (mark ∷ x) ≡ t ∷ kinds_from 0 x

-- what stands between two marks
module _ (n m left right : ℕ) (t u : Token) (opens : Cuts left t) (closes : Cuts right u) (stops : (x : List ℕ) → Stops (right ∷ x)) where
  between_cut : (text r : List ℕ) → kinds_from 0 (between n m left text right ++ r) ≡ t ∷ kinds_from 0 (text ++ (new_line m ++ (right ∷ r)))
  between_cut text r =
      let a = new_line (m + n) in
      let b = new_line m in
      let e : (((a ++ text) ++ b) ++ (right ∷ [])) ++ r ≡ a ++ (text ++ (b ++ (right ∷ r))) =
      append_assoc ((a ++ text) ++ b) (right ∷ []) r ∙ append_assoc (a ++ text) b (right ∷ r) ∙ append_assoc a text (b ++ (right ∷ r)) in
      opens ((((a ++ text) ++ b) ++ (right ∷ [])) ++ r) ∙ ap (λ ts. t ∷ ts) (ap (kinds_from 0) e ∙ line_cut (m + n) (text ++ (b ++ (right ∷ r))))

  between_same : (text plain r q : List ℕ) → Alike text plain → Same r q → Same (between n m left text right ++ r) (left ∷ (plain ++ (right ∷ q)))
  between_same text plain r q inside e =
      let ends : Same (new_line m ++ (right ∷ r)) (right ∷ q) = line_cut m (right ∷ r) ∙ closes r ∙ ap (λ ts. u ∷ ts) e ∙ sym (closes q) in
      between_cut text r ∙ ap (λ ts. t ∷ ts) (inside (new_line m ++ (right ∷ r)) (right ∷ q) (line_stops m (right ∷ r)) (stops q) ends)
      ∙ sym (opens (plain ++ (right ∷ q)))

  block_same : (ts : Trees) (text plain empty r q : List ℕ) → Alike text plain → Same (empty ++ r) (empty ++ q) → Same r q
      → Same (block n m left ts text right empty ++ r) (enclosed left ts plain right empty ++ q)
  block_same none text plain empty r q inside shown e = shown
  block_same (more v vs) text plain empty r q inside shown e =
      between_same text plain r q inside e ∙ ap (λ x. kinds_from 0 (left ∷ x)) (sym (append_assoc plain (right ∷ []) q))

-- what stands before annotations or arguments stops there
block_stops : (n m : ℕ) (anns : Trees) (text r : List ℕ) → Stops r → Stops (block n m 123 anns text 125 [] ++ r)
block_stops n m none text r s = s
block_stops n m (more t ts) text r s = record { no_name = refl; no_digit = refl }

plain_stops : (anns : Trees) (text r : List ℕ) → Stops r → Stops (enclosed 123 anns text 125 [] ++ r)
plain_stops none text r s = s
plain_stops (more t ts) text r s = record { no_name = refl; no_digit = refl }

arguments_stop : (n m : ℕ) (args : Trees) (text r : List ℕ) → Stops r → Stops (block n m 40 args text 41 [] ++ r)
arguments_stop n m none text r s = s
arguments_stop n m (more t ts) text r s = record { no_name = refl; no_digit = refl }

plain_arguments_stop : (args : Trees) (text r : List ℕ) → Stops r → Stops (enclosed 40 args text 41 [] ++ r)
plain_arguments_stop none text r s = s
plain_arguments_stop (more t ts) text r s = record { no_name = refl; no_digit = refl }

-- an application, from what stands behind its name
module _ (n m : ℕ) (args : Trees) (text plain b d r q : List ℕ) (inside : Alike text plain) (left : Stops (b ++ r)) (right : Stops (d ++ q))
    (behind : Same (b ++ r) (d ++ q)) where
  arguments_same : (empty : List ℕ) → Same (empty ++ (b ++ r)) (empty ++ (d ++ q))
      → Same (block n m 40 args text 41 empty ++ (b ++ r)) (enclosed 40 args plain 41 empty ++ (d ++ q))
  arguments_same empty shown = block_same n m 40 41 Open Close (λ x. refl) (λ x. refl) (λ x. mark_stops 41 x refl refl) args text plain empty (b ++ r)
      (d ++ q) inside shown behind

  named_same : (name : List ℕ) (quoted : Bool) → no_arguments name quoted ≡ []
      → ((x : List ℕ) → Stops x → kinds_from 0 (name_text name quoted ++ x) ≡ Name name quoted ∷ kinds_from 0 x)
      → Same (((name_text name quoted ++ block n m 40 args text 41 (no_arguments name quoted)) ++ b) ++ r)
      (((name_text name quoted ++ enclosed 40 args plain 41 (no_arguments name quoted)) ++ d) ++ q)
  named_same name quoted none_shown cut =
      let word = name_text name quoted in
      let x = block n m 40 args text 41 [] in
      let y = enclosed 40 args plain 41 [] in
      let e : ((word ++ block n m 40 args text 41 (no_arguments name quoted)) ++ b) ++ r ≡ word ++ (x ++ (b ++ r)) =
      ap (λ z. ((word ++ block n m 40 args text 41 z) ++ b) ++ r) none_shown ∙ append_assoc (word ++ x) b r ∙ append_assoc word x (b ++ r) in
      let f : ((word ++ enclosed 40 args plain 41 (no_arguments name quoted)) ++ d) ++ q ≡ word ++ (y ++ (d ++ q)) =
      ap (λ z. ((word ++ enclosed 40 args plain 41 z) ++ d) ++ q) none_shown ∙ append_assoc (word ++ y) d q ∙ append_assoc word y (d ++ q) in
      ap (kinds_from 0) e ∙ cut (x ++ (b ++ r)) (arguments_stop n m args text (b ++ r) left)
      ∙ ap (λ ts. Name name quoted ∷ ts) (arguments_same [] behind) ∙ sym (cut (y ++ (d ++ q)) (plain_arguments_stop args plain (d ++ q) right))
      ∙ ap (kinds_from 0) (sym f)

  application_same : (name : List ℕ) (quoted : Bool) → is_name name quoted ≡ true
      → Same (((name_text name quoted ++ block n m 40 args text 41 (no_arguments name quoted)) ++ b) ++ r)
      (((name_text name quoted ++ enclosed 40 args plain 41 (no_arguments name quoted)) ++ d) ++ q)
  application_same name true h = named_same name true (no_arguments_quoted name) (λ x s.
      quoted_cut name x (and_parts (list_all (λ b. nat_lt b 256) name) true h).0)
  application_same (c ∷ cs) false h = named_same (c ∷ cs) false refl (λ x s. unquoted_cut c cs x h s)
  application_same [] false h =
      let shown : List ℕ = 40 ∷ 41 ∷ [] in
      ap (kinds_from 0) (append_assoc (block n m 40 args text 41 shown) b r) ∙ arguments_same shown (ap (λ ts. Open ∷ Close ∷ ts) behind)
      ∙ ap (kinds_from 0) (sym (append_assoc (enclosed 40 args plain 41 shown) d q))

-- other terms stop at a comma, or where they end
others_stop : (l : Indentation) (m : ℕ) (ts : Trees) (r : List ℕ) → Stops r → Stops (laid_others l m ts ++ r)
others_stop l m none r s = s
others_stop l m (more t ts) r s = mark_stops 44 _ refl refl

plain_others_stop : (ts : Trees) (r : List ℕ) → Stops r → Stops (canon_others ts ++ r)
plain_others_stop none r s = s
plain_others_stop (more t ts) r s = mark_stops 44 _ refl refl

-- a printed text goes on alike before texts that are cut alike, if some text is cut as it is
plain_same : (text plain : List ℕ) → Alike text plain → Alike plain plain
plain_same text plain a x y s p e = sym (a x x s s refl) ∙ a x y s p e

-- it is chosen if it fits
choice_same : (b : Bool) (text plain : List ℕ) → Alike text plain → Alike (if b then plain else text) plain
choice_same true text plain a = plain_same text plain a
choice_same false text plain a = a

fitting_same : (l : Indentation) (m : ℕ) (t : Tree) (text : List ℕ) → Alike text (canon t) → Alike (unless_fits l m t text) (canon t)
fitting_same l m t text a = choice_same (fits l.width m t) text (canon t) a

-- annotations and items, from what stands between their marks
notes_same : (l : Indentation) (m : ℕ) (anns : Trees) → Alike (laid_all l (m + l.indent) anns) (canon_all anns)
    → Alike (notes_laid l m anns) (enclosed 123 anns (canon_all anns) 125 [])
notes_same l m anns inside r q s p e =
    block_same l.indent m 123 125 OpenBrace CloseBrace (λ x. refl) (λ x. refl) (λ x. mark_stops 125 x refl refl) anns (laid_all l (m + l.indent) anns)
    (canon_all anns) [] r q inside e e

items_same : (l : Indentation) (m : ℕ) (items : Trees) → Alike (laid_all l (m + l.indent) items) (canon_all items) → (r q : List ℕ) → Same r q
    → Same (block l.indent m 91 items (laid_all l (m + l.indent) items) 93 (91 ∷ 93 ∷ []) ++ r) (91 ∷ (canon_all items ++ (93 ∷ q)))
items_same l m none inside r q e = ap (λ ts. OpenBracket ∷ CloseBracket ∷ ts) e
items_same l m (more t ts) inside r q e =
    between_same l.indent m 91 93 OpenBracket CloseBracket (λ x. refl) (λ x. refl) (λ x. mark_stops 93 x refl refl) (laid_all l (m + l.indent) (more t ts))
    (canon_all (more t ts)) r q inside e

mutual
  tree_same : (l : Indentation) (m : ℕ) (t : Tree) → is_tree t ≡ true → Alike (laid_at l m t) (canon t)
  tree_same l m (Int z anns) h = fitting_same l m (Int z anns) (spread_laid l m (Int z anns)) (λ r q s p e.
      let k = and_parts (is_i32 z) (are_trees anns) h in
      let b = notes_laid l m anns in
      let d = enclosed 123 anns (canon_all anns) 125 [] in
      ap (kinds_from 0) (append_assoc (signed_decimal z) b r)
      ∙ integer_cut z (b ++ r) k.0 (block_stops l.indent m anns (laid_all l (m + l.indent) anns) r s)
      ∙ ap (λ ts. Integer z ∷ ts) (notes_same l m anns (trees_same l (m + l.indent) anns k.1) r q s p e)
      ∙ sym (integer_cut z (d ++ q) k.0 (plain_stops anns (canon_all anns) q p)) ∙ ap (kinds_from 0) (sym (append_assoc (signed_decimal z) d q)))
  tree_same l m (Appl name quoted args anns) h =
      fitting_same l m (Appl name quoted args anns) (spread_laid l m (Appl name quoted args anns)) (λ r q s p e.
      let k = and_parts (is_name name quoted && are_trees args) (are_trees anns) h in
      let i = and_parts (is_name name quoted) (are_trees args) k.0 in
      application_same l.indent m args (laid_all l (m + l.indent) args) (canon_all args) (notes_laid l m anns) (enclosed 123 anns (canon_all anns) 125 []) r q
      (trees_same l (m + l.indent) args i.1) (block_stops l.indent m anns (laid_all l (m + l.indent) anns) r s) (plain_stops anns (canon_all anns) q p)
      (notes_same l m anns (trees_same l (m + l.indent) anns k.1) r q s p e) name quoted i.0)
  tree_same l m (Items items anns) h = fitting_same l m (Items items anns) (spread_laid l m (Items items anns)) (λ r q s p e.
      let k = and_parts (are_trees items) (are_trees anns) h in
      let a = body_laid l m (Items items anns) in
      let b = notes_laid l m anns in
      let d = enclosed 123 anns (canon_all anns) 125 [] in
      ap (kinds_from 0) (append_assoc a b r) ∙ items_same l m items (trees_same l (m + l.indent) items k.0) (b ++ r) (d ++ q)
      (notes_same l m anns (trees_same l (m + l.indent) anns k.1) r q s p e) ∙ ap (λ x. kinds_from 0 (91 ∷ x)) (sym (append_assoc (canon_all items) (93 ∷ d) q)))
  tree_same l m (Hole inner anns) h = fitting_same l m (Hole inner anns) (spread_laid l m (Hole inner anns)) (λ r q s p e.
      let k = and_parts (is_tree inner) (are_trees anns) h in
      let a = body_laid l m (Hole inner anns) in
      let b = notes_laid l m anns in
      let d = enclosed 123 anns (canon_all anns) 125 [] in
      ap (kinds_from 0) (append_assoc a b r)
      ∙ between_same l.indent m 60 62 Less Greater (λ x. refl) (λ x. refl) (λ x. mark_stops 62 x refl refl) (laid_at l (m + l.indent) inner) (canon inner)
      (b ++ r) (d ++ q) (tree_same l (m + l.indent) inner k.0) (notes_same l m anns (trees_same l (m + l.indent) anns k.1) r q s p e)
      ∙ ap (λ x. kinds_from 0 (60 ∷ x)) (sym (append_assoc (canon inner) (62 ∷ d) q)))

  trees_same : (l : Indentation) (m : ℕ) (ts : Trees) → are_trees ts ≡ true → Alike (laid_all l m ts) (canon_all ts)
  trees_same l m none h r q s p e = e
  trees_same l m (more t ts) h r q s p e =
      let k = and_parts (is_tree t) (are_trees ts) h in
      ap (kinds_from 0) (append_assoc (laid_at l m t) (laid_others l m ts) r)
      ∙ tree_same l m t k.0 (laid_others l m ts ++ r) (canon_others ts ++ q) (others_stop l m ts r s) (plain_others_stop ts q p)
      (others_same l m ts k.1 r q s p e)
      ∙ ap (kinds_from 0) (sym (append_assoc (canon t) (canon_others ts) q))

  others_same : (l : Indentation) (m : ℕ) (ts : Trees) → are_trees ts ≡ true → Alike (laid_others l m ts) (canon_others ts)
  others_same l m none h r q s p e = e
  others_same l m (more t ts) h r q s p e =
      let k = and_parts (is_tree t) (are_trees ts) h in
      let a = new_line m in
      let b = laid_at l m t in
      let c = laid_others l m ts in
      let f : ((a ++ b) ++ c) ++ r ≡ a ++ (b ++ (c ++ r)) = append_assoc (a ++ b) c r ∙ append_assoc a b (c ++ r) in
      ap (λ ts. Comma ∷ ts) (
      ap (kinds_from 0) f ∙ line_cut m (b ++ (c ++ r)) ∙ tree_same l m t k.0 (c ++ r) (canon_others ts ++ q) (others_stop l m ts r s)
      (plain_others_stop ts q p) (others_same l m ts k.1 r q s p e)
      ∙ ap (kinds_from 0) (sym (append_assoc (canon t) (canon_others ts) q)))

-- so it spells what the printed text does
pub laid_spells : LaidSpells
laid_spells l t h =
    let stop : Stops [] = record { no_name = refl; no_digit = refl } in
    let e : kinds_from 0 (laid l t ++ []) ≡ kinds_from 0 (canon t ++ []) = tree_same l 0 t h [] [] stop stop refl in
    let f : kinds_from 0 (laid l t) ≡ kinds_from 0 (canon t) = ap (kinds_from 0) (sym (append-nil (laid l t))) ∙ e ∙ ap (kinds_from 0) (append-nil (canon t)) in
    subst (λ ts. SpelledBy ts t) (sym (kinds_are (laid l t) ∙ f ∙ sym (kinds_are (canon t)))) (printed_spells t h)

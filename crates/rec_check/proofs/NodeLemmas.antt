-- Loops over nodes with their bytes.
use Rattle.std.proofs.Common.{refl, sym, ap, subst, ◌∙◌, arith, append_assoc, eq-eqb, inl, inr}
use Rattle.std.proofs.lemmas.Bool.{cases_lt, eqb-true}
use Rattle.std.proofs.lemmas.List.{append-nil, drop_all, length-map}
use Rattle.std.specs.Prelude.{ℕ, zero, suc, ◌≡◌, ◌-◌, ◌+◌, ◌<◌, ◌≤◌, ◌⊎◌, Bool, true, false, nat_eq, List, [], ◌∷◌, ◌++◌, Option}
use Rattle.std.specs.Prelude.{Some, None, option_map, length, map, take, drop, get_or, slice_get, min}
use Rattle.rec_syntax.specs.Tokens as syntax
use Rattle.rec_syntax.specs.Syntax.{Spec, head, arguments}
use Rattle.rec_syntax.specs.Lexemes.{word_of}
use Rattle.rec_syntax.specs.Nodes as nodes
use Rattle.rec_syntax.specs.Nodes.{flat, term_count}
use Rattle.rec_syntax.specs.Parts.{IsTerm, node_of, term_of, words_of}
use Rattle.rec_syntax.specs.declared.lexer.Span.{Span}
use Rattle.rec_syntax.specs.declared.parts.Node.{Node}
use Rattle.rec_syntax.specs.declared.parts.Term.{Term}
use Rattle.rec_sorts.proofs.StackLemmas.{map-append}
use Rattle.rec_sorts.proofs.TurnLemmas.{drop-turn}
use Rattle.rec_check.specs.Lookups.{argument_sorts}
use Rattle.rec_check.specs.Named.{as_word, as_words, as_nodes}
use Rattle.rec_check.specs.Walks.{misfits, misfits_of, ill_sorted_among}
use Rattle.rec_check.specs.declared.located.Word.{Word}
use Rattle.rec_check.specs.declared.located.Counted.{Counted}
use Rattle.rec_check.proofs.WalkLemmas.{flat-last, misfits-nothing}

misfits-done : (y : Spec) (source : List ℕ) (hs : List Word) (ss : List Span) (n : ℕ) → n ≡ min (length hs) (length ss)
    → misfits y (as_words (drop n hs)) (words_of source (drop n ss)) ≡ []
misfits-done y source hs ss n e = by_end (cases_lt (length hs) (length ss))
  where
    by_end : (length hs < length ss) ⊎ (length ss ≤ length hs) → misfits y (as_words (drop n hs)) (words_of source (drop n ss)) ≡ []
    by_end (inl h) = ap (λ ws. misfits y (as_words ws) (words_of source (drop n ss))) (drop_all n hs (omega arith))
    by_end (inr h) = ap (λ ws. misfits y (as_words (drop n hs)) (words_of source ws)) (drop_all n ss (omega arith)) ∙ misfits-nothing y (as_words (drop n hs))

-- all heads that have a sort for them were compared
pub misfits_end : (y : Spec) (source : List ℕ) (hs : List Word) (ss : List Span) (n : ℕ) (found all : List syntax.Word) → n ≡ min (length hs) (length ss)
    → found ++ misfits y (as_words (drop n hs)) (words_of source (drop n ss)) ≡ all → found ≡ all
misfits_end y source hs ss n found all e h = sym (append-nil found) ∙ ap (λ ws. found ++ ws) (sym (misfits-done y source hs ss n e)) ∙ h

map-take : {X Y : Type 0} (f : X → Y) (n : ℕ) (xs : List X) → map f (take n xs) ≡ take n (map f xs)
map-take f zero xs = refl
map-take f (suc n) [] = refl
map-take f (suc n) (x ∷ xs) = ap (λ ys. f x ∷ ys) (map-take f n xs)

map-drop : {X Y : Type 0} (f : X → Y) (n : ℕ) (xs : List X) → map f (drop n xs) ≡ drop n (map f xs)
map-drop f zero xs = refl
map-drop f (suc n) [] = refl
map-drop f (suc n) (x ∷ xs) = map-drop f n xs

-- as many heads as sorts, or not
misfits-by : (y : Spec) (source : List ℕ) (hs : List Word) (ss : List Span) (b : Bool) → nat_eq (length hs) (length ss) ≡ b
    → misfits_of y (as_words hs) (words_of source ss)
    ≡ (elim b as (λ _. List syntax.Word) [ true ↦ misfits y (as_words hs) (words_of source ss) | false ↦ [] ])
misfits-by y source hs ss b e =
    ap (λ (t : Bool). elim t as (λ _. List syntax.Word) [ true ↦ misfits y (as_words hs) (words_of source ss) | false ↦ [] ])
    (ap (λ (n : ℕ). nat_eq n (length (words_of source ss))) (length-map hs as_word)
    ∙ ap (λ (n : ℕ). nat_eq (length hs) n) (length-map ss (word_of source)) ∙ e)

pub misfits_even : (y : Spec) (source : List ℕ) (hs : List Word) (ss : List Span) → length hs ≡ length ss
    → misfits y (as_words hs) (words_of source ss) ≡ misfits_of y (as_words hs) (words_of source ss)
misfits_even y source hs ss e = sym (misfits-by y source hs ss true (eq-eqb (length hs) (length ss) e))

pub misfits_uneven : (y : Spec) (source : List ℕ) (hs : List Word) (ss : List Span) → (length hs ≡ length ss → ⊥)
    → [] ≡ misfits_of y (as_words hs) (words_of source ss)
misfits_uneven y source hs ss h = by (nat_eq (length hs) (length ss)) refl
  where
    by : (b : Bool) → nat_eq (length hs) (length ss) ≡ b → [] ≡ misfits_of y (as_words hs) (words_of source ss)
    by true e = absurd (h (eqb-true (length hs) (length ss) e))
    by false e = sym (misfits-by y source hs ss false e)

-- one node more
pub ill_sorted_item : (y : Spec) (ns : List Counted) (i : ℕ) (d : Counted) (heads after : List Word) (base : ℕ) (found new all : List syntax.Word)
    → i < length ns → base ≡ length heads - (get_or ns i d).count
    → new ≡ found ++ misfits_of y (as_words (drop base heads)) (argument_sorts y (get_or ns i d).word.bytes.now)
    → after ≡ take base heads ++ (get_or ns i d).word ∷ []
    → found ++ ill_sorted_among y (as_words heads) (as_nodes (drop i ns)) ≡ all → new ++ ill_sorted_among y (as_words after) (as_nodes (drop (i + 1) ns)) ≡ all
ill_sorted_item y ns i d heads after base found new all h at grown pushed before =
    let n : Counted = get_or ns i d in
    let hs : List syntax.Word = as_words heads in
    let rest : List nodes.Node = as_nodes (drop (i + 1) ns) in
    let sorts : List syntax.Word = argument_sorts y n.word.bytes.now in
    let stack : ℕ → List syntax.Word = λ b. take b hs ++ as_word n.word ∷ [] in
    let same_base : base ≡ length hs - n.count = at ∙ ap (λ (k : ℕ). k - n.count) (sym (length-map heads as_word)) in
    let cut : as_words after ≡ stack base = ap as_words pushed ∙ map-append as_word (take base heads) (n.word ∷ [])
    ∙ ap (λ ws. ws ++ as_word n.word ∷ []) (map-take as_word base heads) in
    let more : new ≡ found ++ misfits_of y (drop base hs) sorts = grown ∙ ap (λ ws. found ++ misfits_of y ws sorts) (map-drop as_word base heads) in
    ap (λ ws. new ++ ill_sorted_among y ws rest) cut
    ∙ ap (λ ws. ws ++ ill_sorted_among y (stack base) rest) more
    ∙ append_assoc found (misfits_of y (drop base hs) sorts) (ill_sorted_among y (stack base) rest)
    ∙ ap (λ (b : ℕ). found ++ (misfits_of y (drop b hs) sorts ++ ill_sorted_among y (stack b) rest)) same_base
    ∙ ap (λ ms. found ++ ill_sorted_among y hs (as_nodes ms)) (sym (drop-turn ns i d h))
    ∙ before

-- the same, where an item is known by an equation
pub ill_sorted_next : (y : Spec) (ns : List Counted) (i : ℕ) (n : Counted) (heads after : List Word) (found new all : List syntax.Word)
    → i < length ns → n ≡ get_or ns i n
    → new ≡ found ++ misfits_of y (as_words (drop (length heads - n.count) heads)) (argument_sorts y n.word.bytes.now)
    → after ≡ take (length heads - n.count) heads ++ n.word ∷ []
    → found ++ ill_sorted_among y (as_words heads) (as_nodes (drop i ns)) ≡ all → new ++ ill_sorted_among y (as_words after) (as_nodes (drop (i + 1) ns)) ≡ all
ill_sorted_next y ns i n heads after found new all h is grown pushed before =
    ill_sorted_item y ns i n heads after (length heads - (get_or ns i n).count) found new all h refl
    (subst (λ (m : Counted). new ≡ found ++ misfits_of y (as_words (drop (length heads - m.count) heads)) (argument_sorts y m.word.bytes.now)) is grown)
    (subst (λ (m : Counted). after ≡ take (length heads - m.count) heads ++ m.word ∷ []) is pushed)
    before

slice_get-map : {X Y : Type 0} (f : X → Y) (xs : List X) (i : ℕ) → slice_get (map f xs) i ≡ option_map f (slice_get xs i)
slice_get-map f [] i = refl
slice_get-map f (x ∷ xs) zero = refl
slice_get-map f (x ∷ xs) (suc i) = slice_get-map f xs i

some_word : (a b : nodes.Node) → ◌≡◌ {A = Option nodes.Node} (Some a) (Some b) → a.word ≡ b.word
some_word a b e = ap (λ (o : Option nodes.Node). elim o as (λ _. syntax.Word) [ Some n ↦ n.word | None ↦ a.word ]) e

-- the head of a term is its last node's word
pub head_is : (source : List ℕ) (t : Term) → IsTerm source t → (ns : List Node) → ns ≡ t.nodes.items → (n : Node)
    → slice_get ns (length ns - 1) ≡ Some n → word_of source n.word ≡ head (term_of source t)
head_is source t h ns e n last =
    let tree = term_of source t in
    let spelled : map (node_of source) ns ≡ flat tree = ap (map (node_of source)) e ∙ h.flat in
    let long : length (map (node_of source) ns) ≡ length ns = length-map ns (node_of source) in
    let found : slice_get (map (node_of source) ns) (length ns - 1) ≡ Some (node_of source n) =
    slice_get-map (node_of source) ns (length ns - 1) ∙ ap (option_map (node_of source)) last in
    let same : ◌≡◌ {A = Option nodes.Node} (Some (node_of source n)) (Some (record { word = head tree; count = term_count (arguments tree) })) =
    sym found ∙ ap (λ (k : ℕ). slice_get (map (node_of source) ns) (k - 1)) (sym long) ∙ ap (λ ms. slice_get ms (length ms - 1)) spelled ∙ flat-last tree in
    some_word (node_of source n) (record { word = head tree; count = term_count (arguments tree) }) same

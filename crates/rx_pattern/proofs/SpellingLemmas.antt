-- The steps of a pattern spell it, and so do those that are left, from any step on.
use Rattle.std.proofs.Common.{ℕ, ◌≡◌, Bool, true, false, List, [], ◌∷◌, Option, Some, None, cond, refl, sym, ap, ◌∙◌, ◌⊎◌, inl, inr}
use Rattle.std.specs.Prelude.{bytes_eq, codes, is_some, map}
use Rattle.std.proofs.lemmas.Slice.Eq.{bytes_eq-Decides}
use Rattle.rx_term.specs.Tree.{Tree, Trees, none, more, Int, Appl, Items, Hole, is_none}
use Rattle.rx_term.proofs.TreeLemmas.{both_parts}
use Rattle.rx_pattern.specs.Pattern.{PlaceholderKind, AnyTerm, AnyInt, AnyStr, AnyAppl, AnyPlaceholder, AnyList, kind_named, kind_of}
use Rattle.rx_pattern.specs.Pattern.{is_rest, is_list_kind, knows_placeholders, all_known, has_plain_placeholders, all_plain}
use Rattle.rx_pattern.specs.Code.{Step, Number, Named, Listing, Holding, End, Item, Rest, code, code_of_all}
use Rattle.rx_pattern.specs.Code.{Piece, One, Several, word_of, placeholder, assembled, pieces}
use Rattle.rx_pattern.specs.Nodes.{step_of, tree_of_nodes, AreNodes}
use Rattle.rx_pattern.specs.declared.nodes.Node.{Node}

-- ---- words

-- a choice by a test of a word
named_or : (word : List ℕ) (text : List ℕ) (kind : PlaceholderKind) (others : Option PlaceholderKind) (k : PlaceholderKind)
    → cond (bytes_eq word text) (Some kind) others ≡ Some k → ((word ≡ text) × (kind ≡ k)) ⊎ (others ≡ Some k)
named_or word text kind others k e = by_test (bytes_eq word text) refl e where
  by_test : (b : Bool) → bytes_eq word text ≡ b → cond b (Some kind) others ≡ Some k → ((word ≡ text) × (kind ≡ k)) ⊎ (others ≡ Some k)
  by_test true q f = inl ((bytes_eq-Decides word text).0 q, cc)
  by_test false q f = inr f

chosen : (word : List ℕ) (text : List ℕ) (kind k : PlaceholderKind) → text ≡ word_of kind → (word ≡ text) × (kind ≡ k) → word ≡ word_of k
chosen word text kind k e h = h.0 ∙ e ∙ ap word_of h.1

pub named_word : (word : List ℕ) (k : PlaceholderKind) → kind_named word ≡ Some k → word ≡ word_of k
named_word word k e =
    elim (named_or word (codes "term") AnyTerm _ k e) [
      | inl h ↦ chosen word _ AnyTerm k refl h
      | inr e1 ↦
          elim (named_or word (codes "int") AnyInt _ k e1) [
            | inl h ↦ chosen word _ AnyInt k refl h
            | inr e2 ↦
                elim (named_or word (codes "str") AnyStr _ k e2) [
                  | inl h ↦ chosen word _ AnyStr k refl h
                  | inr e3 ↦
                      elim (named_or word (codes "appl") AnyAppl _ k e3) [
                        | inl h ↦ chosen word _ AnyAppl k refl h
                        | inr e4 ↦
                            elim (named_or word (codes "placeholder") AnyPlaceholder _ k e4) [
                              | inl h ↦ chosen word _ AnyPlaceholder k refl h
                              | inr e5 ↦
                                  elim (named_or word (codes "list") AnyList None k e5) [
                                    | inl h ↦ chosen word _ AnyList k refl h
                                    | inr e6 ↦ absurd
                                        (let z : ⊥ = cc in z)
                                  ]
                            ]
                      ]
                ]
          ]
    ]

inside_is : (inner : Tree) (k : PlaceholderKind) → kind_of inner ≡ Some k → inner ≡ Appl (word_of k) false none none
inside_is (Appl word false none none) k e = ap (λ (n : List ℕ). Appl n false none none) (named_word word k e)
inside_is (Appl word true args anns) k e = absurd (let z : ⊥ = cc in z)
inside_is (Appl word false (more t ts) anns) k e = absurd (let z : ⊥ = cc in z)
inside_is (Appl word false none (more t ts)) k e = absurd (let z : ⊥ = cc in z)
inside_is (Int y anns) k e = absurd (let z : ⊥ = cc in z)
inside_is (Items items anns) k e = absurd (let z : ⊥ = cc in z)
inside_is (Hole inner anns) k e = absurd (let z : ⊥ = cc in z)

-- a known placeholder without annotations is that of its kind
pub placeholder_is : (inner : Tree) (k : PlaceholderKind) (anns : Trees) → kind_of inner ≡ Some k → is_none anns ≡ true → Hole inner anns ≡ placeholder k
placeholder_is inner k none e n = ap (λ (t : Tree). Hole t none) (inside_is inner k e)
placeholder_is inner k (more t ts) e n = absurd (let z : ⊥ = cc in z)

pub kind_word : (k : PlaceholderKind) → kind_of (Appl (word_of k) false none none) ≡ Some k
kind_word AnyTerm = refl
kind_word AnyInt = refl
kind_word AnyStr = refl
kind_word AnyAppl = refl
kind_word AnyPlaceholder = refl
kind_word AnyList = refl

some_kind : (o : Option PlaceholderKind) → is_some o ≡ true → (k : PlaceholderKind) × (o ≡ Some k)
some_kind None e = absurd (let z : ⊥ = cc in z)
some_kind (Some k) e = (k, refl)

list_kind : (o : Option PlaceholderKind) → is_list_kind o ≡ true → o ≡ Some AnyList
list_kind (Some AnyList) e = refl
list_kind None e = absurd (let z : ⊥ = cc in z)
list_kind (Some AnyTerm) e = absurd (let z : ⊥ = cc in z)
list_kind (Some AnyInt) e = absurd (let z : ⊥ = cc in z)
list_kind (Some AnyStr) e = absurd (let z : ⊥ = cc in z)
list_kind (Some AnyAppl) e = absurd (let z : ⊥ = cc in z)
list_kind (Some AnyPlaceholder) e = absurd (let z : ⊥ = cc in z)

-- a last `<list>` without annotations, and nothing after it
pub rest_is : (p : Tree) (ps : Trees) → is_rest p ps ≡ true → has_plain_placeholders p ≡ true → (p ≡ placeholder AnyList) × (ps ≡ none)
rest_is (Hole inner anns) none e plain =
    (placeholder_is inner AnyList anns (list_kind (kind_of inner) (both_parts (is_list_kind (kind_of inner)) true e).0) plain, refl)
rest_is (Hole inner anns) (more t ts) e plain = absurd (let f = (both_parts (is_list_kind (kind_of inner)) false e).1 in let z : ⊥ = cc in z)
rest_is (Int y anns) ps e plain = absurd (let z : ⊥ = cc in z)
rest_is (Appl name quoted args anns) ps e plain = absurd (let z : ⊥ = cc in z)
rest_is (Items items anns) ps e plain = absurd (let z : ⊥ = cc in z)

-- ---- the pieces of a code

test_of : (b : Bool) → (b ≡ true) ⊎ (b ≡ false)
test_of true = inl refl
test_of false = inr refl

mutual
  pub pieces-code : (p : Tree) (rest : List Step) → knows_placeholders p ≡ true → has_plain_placeholders p ≡ true → pieces (code p rest) ≡ One p ∷ pieces rest
  pieces-code (Int y anns) rest k h = rw (pieces-code_of_all anns rest k h) refl
  pieces-code (Appl name quoted args anns) rest k h =
      let kk = both_parts _ _ k in
      let hh = both_parts _ _ h in
      ap (assembled (Named name quoted)) (pieces-code_of_all args (code_of_all anns rest) kk.0 hh.0
      ∙ ap (λ (ps : List Piece). Several args ∷ ps) (pieces-code_of_all anns rest kk.1 hh.1))
  pieces-code (Items items anns) rest k h =
      let kk = both_parts _ _ k in
      let hh = both_parts _ _ h in
      ap (assembled Listing) (pieces-code_of_all items (code_of_all anns rest) kk.0 hh.0
      ∙ ap (λ (ps : List Piece). Several items ∷ ps) (pieces-code_of_all anns rest kk.1 hh.1))
  pieces-code (Hole inner anns) rest k h =
      let kk = both_parts _ _ k in
      let kind = some_kind (kind_of inner) kk.0 in
      rw kind.1 (ap (λ (t : Tree). One t ∷ pieces rest) (sym (placeholder_is inner kind.0 anns kind.1 h)))

  pub pieces-code_of_all : (ps : Trees) (rest : List Step) → all_known ps ≡ true → all_plain ps ≡ true → pieces (code_of_all ps rest) ≡ Several ps ∷ pieces rest
  pieces-code_of_all none rest k h = refl
  pieces-code_of_all (more p ps) rest k h =
      let kk = both_parts _ _ k in
      let hh = both_parts _ _ h in
      elim (test_of (is_rest p ps)) [
        | inl r ↦ (let is = rest_is p ps r hh.0 in rw r (ap (λ (ts : Trees). Several ts ∷ pieces rest) (λ i. more (sym is.0 i) (sym is.1 i))))
        | inr r ↦ rw r (ap (assembled Item) (pieces-code p (code_of_all ps rest) kk.0 hh.0
            ∙ ap (λ (qs : List Piece). One p ∷ qs) (pieces-code_of_all ps rest kk.1 hh.1)))
      ]

-- ---- what is left

-- the steps of pieces
abbrev pub spell : List Piece → List Step
spell [] = []
spell (One p ∷ ps) = code p (spell ps)
spell (Several ts ∷ ps) = code_of_all ts (spell ps)

-- the steps are those of the pieces that they spell
pub record IsSpelt (steps : List Step) : Type 0 where
  pub spelt : spell (pieces steps) ≡ steps

-- what a step joins is there
abbrev pub CanJoin : Step → List Piece → Type 0
CanJoin (Number y) (Several anns ∷ ps) = Unit {0}
CanJoin (Named name quoted) (Several args ∷ Several anns ∷ ps) = Unit {0}
CanJoin Listing (Several items ∷ Several anns ∷ ps) = Unit {0}
CanJoin (Holding (Some kind)) ps = Unit {0}
CanJoin End ps = Unit {0}
CanJoin Item (One t ∷ Several ts ∷ ps) = is_rest t ts ≡ false
CanJoin Rest ps = Unit {0}
CanJoin s ps = ⊥

first_same : {x y : Step} {xs ys : List Step} → x ∷ xs ≡ y ∷ ys → (x ≡ y) × (xs ≡ ys)
first_same e = (cc, cc)

-- the others after one step
abbrev Next : Step → List Piece → List Step → Type 0
Next s qs ns = (spell qs ≡ ns) × CanJoin s qs

next_item : (t : Tree) (ts : Trees) (ps : List Piece) (ns : List Step) (b : Bool) → is_rest t ts ≡ b
    → cond b (Rest ∷ spell ps) (Item ∷ code t (code_of_all ts (spell ps))) ≡ Item ∷ ns → Next Item (One t ∷ Several ts ∷ ps) ns
next_item t ts ps ns true r e = absurd (let f = (first_same e).0 in let z : ⊥ = cc in z)
next_item t ts ps ns false r e = ((first_same e).1, r)

nothing : {s : Step} {ns : List Step} → [] ≡ s ∷ ns → ⊥
nothing e = cc

next : (s : Step) (qs : List Piece) (ns : List Step) → spell (assembled s qs) ≡ s ∷ ns → Next s qs ns
next (Number y) (Several anns ∷ ps) ns e = ((first_same e).1, tt)
next (Named name quoted) (Several args ∷ Several anns ∷ ps) ns e = ((first_same e).1, tt)
next Listing (Several items ∷ Several anns ∷ ps) ns e = ((first_same e).1, tt)
next (Holding (Some kind)) ps ns e = ((first_same e).1, tt)
next End ps ns e = ((first_same e).1, tt)
next Item (One t ∷ Several ts ∷ ps) ns e = next_item t ts ps ns (is_rest t ts) refl e
next Rest ps ns e = ((first_same e).1, tt)
next (Number y) [] ns e = absurd (nothing e)
next (Number y) (One t ∷ ps) ns e = absurd (nothing e)
next (Named name quoted) [] ns e = absurd (nothing e)
next (Named name quoted) (One t ∷ ps) ns e = absurd (nothing e)
next (Named name quoted) (Several args ∷ []) ns e = absurd (nothing e)
next (Named name quoted) (Several args ∷ One t ∷ ps) ns e = absurd (nothing e)
next Listing [] ns e = absurd (nothing e)
next Listing (One t ∷ ps) ns e = absurd (nothing e)
next Listing (Several items ∷ []) ns e = absurd (nothing e)
next Listing (Several items ∷ One t ∷ ps) ns e = absurd (nothing e)
next (Holding None) ps ns e = absurd (nothing e)
next Item [] ns e = absurd (nothing e)
next Item (Several ts ∷ ps) ns e = absurd (nothing e)
next Item (One t ∷ []) ns e = absurd (nothing e)
next Item (One t ∷ One u ∷ ps) ns e = absurd (nothing e)

-- from any step on
pub can_join : (s : Step) (ns : List Step) → IsSpelt (s ∷ ns) → CanJoin s (pieces ns)
can_join s ns h = (next s (pieces ns) ns h.spelt).1

pub still_spelt : (s : Step) (ns : List Step) → IsSpelt (s ∷ ns) → IsSpelt ns
still_spelt s ns h = record { spelt = (next s (pieces ns) ns h.spelt).0 }

-- ---- nodes

pub one_piece : (nodes : List Node) → AreNodes nodes → pieces (map step_of nodes) ≡ One (tree_of_nodes nodes) ∷ []
one_piece nodes h = let p = both_parts _ _ h.pattern in ap pieces h.code ∙ pieces-code (tree_of_nodes nodes) [] p.0 p.1

pub all_spelt : (nodes : List Node) → AreNodes nodes → IsSpelt (map step_of nodes)
all_spelt nodes h = record { spelt = ap spell (one_piece nodes h) ∙ sym h.code }

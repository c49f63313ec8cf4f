-- A turn of the loop that makes a term of a pattern's nodes, from the last one on.
use Rattle.std.proofs.Common.{ℕ, suc, zero, ◌+◌, ◌-◌, ◌<◌, ◌≤◌, ◌≡◌, Bool, true, false, List, [], ◌∷◌, ◌++◌, Option, Some, None}
use Rattle.std.proofs.Common.{IsSome, length, map, drop, get_or, refl, sym, ap, ◌∙◌, subst, arith, eq-eqb, inl, inr, ◌⊎◌}
use Rattle.std.specs.Prelude.{unwrap_or}
use Rattle.rx_term.specs.Name.{is_allowed}
use Rattle.rx_term.specs.Tree.{Tree, Trees, none, more, Int, Appl, Items, Hole, is_tree, are_trees, items_of}
use Rattle.rx_term.specs.Store.{Store, tree_at}
use Rattle.rx_term.specs.Steps.{Grows}
use Rattle.rx_term.specs.declared.Term.{Term}
use Rattle.rx_term.proofs.StoreLemmas.{Grows-refl, Grows-trans}
use Rattle.rx_term.proofs.TreeLemmas.{both_parts}
use Rattle.rx_term.specs.Walks.{HaveTrees}
use Rattle.rx_pattern.specs.Pattern.{PlaceholderKind, kind_of, is_rest}
use Rattle.rx_pattern.specs.Filling as filling
use Rattle.rx_pattern.specs.Filling.{Blank, blanks, blanks_of_all, blank_of, filled, filled_all, takes, made}
use Rattle.rx_pattern.specs.Code.{Step, Number, Named, Listing, Holding, End, Item, Rest, code, code_of_all, Piece, One, Several, assembled, pieces}
use Rattle.rx_pattern.specs.Nodes.{step_of, tree_of_nodes, AreNodes}
use Rattle.rx_pattern.specs.Subjects.{OnStack, Stands}
use Rattle.rx_pattern.specs.Making.{is_blank, takes_as, blanks_of_step, blanks_of_steps, IsMisfit, HasParts, IsValid}
use Rattle.rx_pattern.specs.declared.nodes.Node.{Node}
use Rattle.rx_pattern.proofs.UndoLemmas.{Takes, misfit-Takes}
use Rattle.rx_pattern.proofs.StackLemmas.{push, pop}
use Rattle.rx_pattern.proofs.SpellingLemmas.{IsSpelt, CanJoin, can_join, still_spelt, one_piece, all_spelt}
use Rattle.rx_pattern.proofs.MatchLemmas.{next_step}
use Rattle.rx_pattern.proofs.FittingLemmas.{HaveTrees-length, tree_there, one_blank, no_blank}

-- patterns with their blanks filled, from left to right
abbrev pub filled_pieces : List Piece → List Tree → List Piece
filled_pieces [] bs = []
filled_pieces (One p ∷ ps) bs = let f = filled p bs in One f.0 ∷ filled_pieces ps f.1
filled_pieces (Several ts ∷ ps) bs = let f = filled_all ts bs in Several f.0 ∷ filled_pieces ps f.1

-- a step that is no blank joins what is filled
fills-joined : (s : Step) (qs : List Piece) (bs : List Tree) → CanJoin s qs → is_blank s ≡ false
    → (filled_pieces (assembled s qs) bs ≡ assembled s (filled_pieces qs bs)) × HasParts s (filled_pieces qs bs)
fills-joined (Number z) (Several anns ∷ ps) bs c e = (refl, tt)
fills-joined (Named name quoted) (Several args ∷ Several anns ∷ ps) bs c e = (refl, tt)
fills-joined Listing (Several items ∷ Several anns ∷ ps) bs c e = (refl, tt)
fills-joined End qs bs c e = (refl, tt)
fills-joined Item (One p ∷ Several ps ∷ qs) bs c e = (rw c refl, tt)
fills-joined (Holding (Some kind)) qs bs c e = absurd (let z : ⊥ = cc in z)
fills-joined Rest qs bs c e = absurd (let z : ⊥ = cc in z)
fills-joined (Holding None) qs bs c e = absurd c
fills-joined (Number z) [] bs c e = absurd c
fills-joined (Number z) (One t ∷ ps) bs c e = absurd c
fills-joined (Named name quoted) [] bs c e = absurd c
fills-joined (Named name quoted) (One t ∷ ps) bs c e = absurd c
fills-joined (Named name quoted) (Several args ∷ []) bs c e = absurd c
fills-joined (Named name quoted) (Several args ∷ One t ∷ ps) bs c e = absurd c
fills-joined Listing [] bs c e = absurd c
fills-joined Listing (One t ∷ ps) bs c e = absurd c
fills-joined Listing (Several items ∷ []) bs c e = absurd c
fills-joined Listing (Several items ∷ One t ∷ ps) bs c e = absurd c
fills-joined Item [] bs c e = absurd c
fills-joined Item (Several ts ∷ ps) bs c e = absurd c
fills-joined Item (One t ∷ []) bs c e = absurd c
fills-joined Item (One t ∷ One u ∷ ps) bs c e = absurd c

rest_stands : (b : Tree) → takes filling.Rest b ≡ true → (w : Store) (r : Term) → tree_at w r ≡ Some b → Stands w (Some r) (Several (items_of b))
rest_stands (Items items none) e w r h = (none, h)
rest_stands (Items items (more t ts)) e w r h = absurd (let z : ⊥ = cc in z)
rest_stands (Int z anns) e w r h = absurd (let y : ⊥ = cc in y)
rest_stands (Appl name quoted args anns) e w r h = absurd (let z : ⊥ = cc in z)
rest_stands (Hole inner anns) e w r h = absurd (let z : ⊥ = cc in z)

-- a blank takes its tree
fills-blank : (s : Step) (qs : List Piece) (b : Tree) (bs : List Tree) → is_blank s ≡ true → takes_as s b ≡ true
    → (v : Piece) × (filled_pieces (assembled s qs) (b ∷ bs) ≡ v ∷ filled_pieces qs bs) × ((w : Store) (r : Term) → tree_at w r ≡ Some b → Stands w (Some r) v)
fills-blank (Holding (Some kind)) qs b bs e t = (One b, refl, λ w r h. h)
fills-blank Rest qs b bs e t = (Several (items_of b), refl, rest_stands b t)
fills-blank (Holding None) qs b bs e t = absurd (let z : ⊥ = cc in z)
fills-blank (Number y) qs b bs e t = absurd (let z : ⊥ = cc in z)
fills-blank (Named name quoted) qs b bs e t = absurd (let z : ⊥ = cc in z)
fills-blank Listing qs b bs e t = absurd (let z : ⊥ = cc in z)
fills-blank End qs b bs e t = absurd (let z : ⊥ = cc in z)
fills-blank Item qs b bs e t = absurd (let z : ⊥ = cc in z)

-- ---- the blanks of a code are those of the tree

test_of : (b : Bool) → (b ≡ true) ⊎ (b ≡ false)
test_of true = inl refl
test_of false = inr refl

append_assoc_blanks : (xs ys zs : List Blank) → (xs ++ ys) ++ zs ≡ xs ++ (ys ++ zs)
append_assoc_blanks [] ys zs = refl
append_assoc_blanks (x ∷ xs) ys zs = ap (λ (l : List Blank). x ∷ l) (append_assoc_blanks xs ys zs)

held_blank : (inner : Tree) (o : Option PlaceholderKind) → kind_of inner ≡ o → blanks_of_step (Holding o) ≡ blank_of o
held_blank inner None e = refl
held_blank inner (Some k) e = refl

mutual
  blanks-code : (p : Tree) (rest : List Step) → blanks_of_steps (code p rest) ≡ blanks p ++ blanks_of_steps rest
  blanks-code (Int z anns) rest = blanks-code_of_all anns rest
  blanks-code (Appl name quoted args anns) rest =
      blanks-code_of_all args (code_of_all anns rest) ∙ ap (λ (l : List Blank). blanks_of_all args ++ l) (blanks-code_of_all anns rest)
      ∙ sym (append_assoc_blanks (blanks_of_all args) (blanks_of_all anns) (blanks_of_steps rest))
  blanks-code (Items items anns) rest =
      blanks-code_of_all items (code_of_all anns rest) ∙ ap (λ (l : List Blank). blanks_of_all items ++ l) (blanks-code_of_all anns rest)
      ∙ sym (append_assoc_blanks (blanks_of_all items) (blanks_of_all anns) (blanks_of_steps rest))
  blanks-code (Hole inner anns) rest = ap (λ (l : List Blank). l ++ blanks_of_steps rest) (held_blank inner (kind_of inner) refl)

  blanks-code_of_all : (ps : Trees) (rest : List Step) → blanks_of_steps (code_of_all ps rest) ≡ blanks_of_all ps ++ blanks_of_steps rest
  blanks-code_of_all none rest = refl
  blanks-code_of_all (more p ps) rest = elim (test_of (is_rest p ps)) [
    | inl r ↦ rw r refl
    | inr r ↦ rw r (blanks-code p (code_of_all ps rest) ∙ ap (λ (l : List Blank). blanks p ++ l) (blanks-code_of_all ps rest)
        ∙ sym (append_assoc_blanks (blanks p) (blanks_of_all ps) (blanks_of_steps rest)))
  ]

append_nil_blanks : (xs : List Blank) → xs ++ [] ≡ xs
append_nil_blanks [] = refl
append_nil_blanks (x ∷ xs) = ap (λ (l : List Blank). x ∷ l) (append_nil_blanks xs)

pub blanks-nodes : (nodes : List Node) → AreNodes nodes → blanks_of_steps (map step_of nodes) ≡ blanks (tree_of_nodes nodes)
blanks-nodes nodes h = ap blanks_of_steps h.code ∙ blanks-code (tree_of_nodes nodes) [] ∙ append_nil_blanks (blanks (tree_of_nodes nodes))

-- ---- names

abbrev AllValid : List Step → Type 0
AllValid [] = Unit {0}
AllValid (s ∷ steps) = IsValid s × AllValid steps

held_valid : (o : Option PlaceholderKind) → IsValid (Holding o)
held_valid None = tt
held_valid (Some k) = tt

mutual
  valid-code : (p : Tree) (rest : List Step) → is_tree p ≡ true → AllValid rest → AllValid (code p rest)
  valid-code (Int z anns) rest e h = (tt, valid-code_of_all anns rest (both_parts _ _ e).1 h)
  valid-code (Appl name quoted args anns) rest e h =
      let a = both_parts _ _ e in
      let b = both_parts _ _ a.0 in
      let c = both_parts _ (is_allowed name quoted) b.0 in
      (c.1, valid-code_of_all args (code_of_all anns rest) b.1 (valid-code_of_all anns rest a.1 h))
  valid-code (Items items anns) rest e h =
      let a = both_parts _ _ e in
      (tt, valid-code_of_all items (code_of_all anns rest) a.0 (valid-code_of_all anns rest a.1 h))
  valid-code (Hole inner anns) rest e h = (held_valid (kind_of inner), h)

  valid-code_of_all : (ps : Trees) (rest : List Step) → are_trees ps ≡ true → AllValid rest → AllValid (code_of_all ps rest)
  valid-code_of_all none rest e h = (tt, h)
  valid-code_of_all (more p ps) rest e h =
      let a = both_parts _ _ e in
      elim (test_of (is_rest p ps)) [
        | inl r ↦ rw r (tt, h)
        | inr r ↦ rw r (tt, valid-code p (code_of_all ps rest) a.0 (valid-code_of_all ps rest a.1 h))
      ]

-- ---- from any node on

record Good (nodes : List Node) : Type 0 where
  spelt : IsSpelt (map step_of nodes)
  valid : AllValid (map step_of nodes)

good_tail : (n : Node) (nodes : List Node) → Good (n ∷ nodes) → Good nodes
good_tail n nodes h = record { spelt = still_spelt (step_of n) (map step_of nodes) h.spelt; valid = h.valid.1 }

good_drop : (i : ℕ) (nodes : List Node) → Good nodes → Good (drop i nodes)
good_drop zero nodes h = h
good_drop (suc i) [] h = h
good_drop (suc i) (n ∷ nodes) h = good_drop i nodes (good_tail n nodes h)

all_good : (nodes : List Node) → AreNodes nodes → Good nodes
all_good nodes h = record { spelt = all_spelt nodes h; valid = subst AllValid (sym h.code) (valid-code (tree_of_nodes nodes) [] h.valid tt) }

takes-length : (ss : List Blank) (bs : List Tree) → Takes ss bs → length ss ≡ length bs
takes-length [] [] h = refl
takes-length (s ∷ ss) (b ∷ bs) h = ap suc (takes-length ss bs h.1)
takes-length [] (b ∷ bs) h = absurd h
takes-length (s ∷ ss) [] h = absurd h

takes_tail : (ss : List Blank) (s : Blank) (bs : List Tree) → Takes (s ∷ ss) bs
    → (b : Tree) × ((cs : List Tree) × (bs ≡ b ∷ cs) × (takes s b ≡ true) × Takes ss cs)
takes_tail ss s (b ∷ bs) h = (b, (bs, refl, h.0, h.1))
takes_tail ss s [] h = absurd h

-- from any node on, each blank takes the tree that is left for it
aligned : (i : ℕ) (nodes : List Node) (bs : List Tree) → Takes (blanks_of_steps (map step_of nodes)) bs
    → (k : ℕ) × (k + length (blanks_of_steps (map step_of (drop i nodes))) ≡ length bs) × Takes (blanks_of_steps (map step_of (drop i nodes))) (drop k bs)
aligned zero nodes bs h = let n = takes-length (blanks_of_steps (map step_of nodes)) bs h in (0, omega arith, h)
aligned (suc i) [] bs h = let n = takes-length [] bs h in (0, omega arith, h)
aligned (suc i) (n ∷ nodes) bs h = elim (test_of (is_blank (step_of n))) [
  | inl y ↦ (
      let x = one_blank (step_of n) y in
      let t = takes_tail (blanks_of_steps (map step_of nodes)) x.0 bs (subst (λ (l : List Blank). Takes (l ++ blanks_of_steps (map step_of nodes)) bs) x.1 h) in
      let r = aligned i nodes t.1.0 t.1.3 in
      let e : length bs ≡ suc (length t.1.0) = ap length t.1.1 in
      (suc r.0, omega (arith, r.1), subst (λ (l : List Tree). Takes (blanks_of_steps (map step_of (drop i nodes))) (drop (suc r.0) l)) (sym t.1.1) r.2))
  | inr other ↦ aligned i nodes bs (subst (λ (l : List Blank). Takes (l ++ blanks_of_steps (map step_of nodes)) bs) (no_blank (step_of n) other) h)
]

-- ---- the trees of the terms

abbrev pub trees_of : Store → List Term → List Tree
trees_of w [] = []
trees_of w (r ∷ rs) = unwrap_or (tree_at w r) (Items none none) ∷ trees_of w rs

pub trees_are : (w : Store) (rs : List Term) (bs : List Tree) → HaveTrees w rs bs → bs ≡ trees_of w rs
trees_are w [] [] h = refl
trees_are w (r ∷ rs) (b ∷ bs) h = λ i. first i ∷ trees_are w rs bs h.1 i where
  first : b ≡ unwrap_or (tree_at w r) (Items none none)
  first = rw h.0 refl
trees_are w [] (b ∷ bs) h = absurd h
trees_are w (r ∷ rs) [] h = absurd h

-- what is required of the terms
pub fitting : (w : Store) (rs : List Term) (ss : List Blank) (bs : List Tree) → HaveTrees w rs bs → IsMisfit None ss bs
    → HaveTrees w rs (trees_of w rs) × Takes ss (trees_of w rs) × (length rs ≡ length ss)
fitting w rs ss bs h m =
    let e = trees_are w rs bs h in
    let n = HaveTrees-length w rs bs h in
    (subst (HaveTrees w rs) e h, subst (Takes ss) e (misfit-Takes ss bs (eq-eqb (length bs) (length ss) m.0) m.1), n ∙ m.0)

-- ---- the loop

pub no_nodes : (nodes : List Node) → drop (length nodes) nodes ≡ []
no_nodes [] = refl
no_nodes (n ∷ nodes) = no_nodes nodes

module _ (nodes : List Node) (are : AreNodes nodes) (at : ℕ) (n : Node) (lt : at < length nodes) (is : n ≡ get_or nodes at n) where
  abbrev others : List Step
  others = map step_of (drop (at + 1) nodes)

  steps : map step_of (drop at nodes) ≡ step_of n ∷ others
  steps = next_step nodes at n lt is

  joins : CanJoin (step_of n) (pieces others)
  joins = can_join (step_of n) others (subst IsSpelt steps (good_drop at nodes (all_good nodes are)).spelt)

  pub turn_valid : IsValid (step_of n)
  turn_valid = (subst AllValid steps (good_drop at nodes (all_good nodes are)).valid).0

  blanks_are : blanks_of_steps (map step_of (drop at nodes)) ≡ blanks_of_step (step_of n) ++ blanks_of_steps others
  blanks_are = ap blanks_of_steps steps

  module _ (w : Store) (stack : List (Option Term)) (left : ℕ) (all : List Tree)
      (on : OnStack (Stands w) stack (filled_pieces (pieces others) (drop left all))) (counted : left + length (blanks_of_steps others) ≡ length all) where
    module _ (bare : is_blank (step_of n) ≡ false) where
      pub turn_parts : (ps : List Piece) × OnStack (Stands w) stack ps × HasParts (step_of n) ps
      turn_parts = (filled_pieces (pieces others) (drop left all), on, (fills-joined (step_of n) (pieces others) (drop left all) joins bare).1)

      pub turn_join : (new : Store) (after : List (Option Term)) → ((ps : List Piece) → OnStack (Stands w) stack ps → HasParts (step_of n) ps
          → OnStack (Stands new) after (assembled (step_of n) ps)) → OnStack (Stands new) after
          (filled_pieces (pieces (map step_of (drop at nodes))) (drop left all))
      turn_join new after made =
          let f = fills-joined (step_of n) (pieces others) (drop left all) joins bare in
          let m = made (filled_pieces (pieces others) (drop left all)) on f.1 in
          let e : filled_pieces (pieces (map step_of (drop at nodes))) (drop left all) ≡ assembled (step_of n)
          (filled_pieces (pieces others) (drop left all)) = ap (λ (ss : List Step). filled_pieces (pieces ss) (drop left all)) steps ∙ f.0 in
          subst (OnStack (Stands new) after) (sym e) m

      pub still_counted : left + length (blanks_of_steps (map step_of (drop at nodes))) ≡ length all
      still_counted = let e : blanks_of_steps (map step_of (drop at nodes)) ≡ blanks_of_steps others =
          blanks_are ∙ ap (λ (l : List Blank). l ++ blanks_of_steps others) (no_blank (step_of n) bare) in let f = ap length e in omega arith

    module _ (yes' : is_blank (step_of n) ≡ true) (all_taken : Takes (blanks_of_steps (map step_of nodes)) all) where
      x : (x : Blank) × (blanks_of_step (step_of n) ≡ x ∷ []) × ((t : Tree) → takes_as (step_of n) t ≡ takes x t)
      x = one_blank (step_of n) yes'

      blanks_here : blanks_of_steps (map step_of (drop at nodes)) ≡ x.0 ∷ blanks_of_steps others
      blanks_here = blanks_are ∙ ap (λ (l : List Blank). l ++ blanks_of_steps others) x.1

      place : (k : ℕ) × (k + length (blanks_of_steps (map step_of (drop at nodes))) ≡ length all)
          × Takes (blanks_of_steps (map step_of (drop at nodes))) (drop k all)
      place = aligned at nodes all all_taken

      here : left ≡ suc place.0
      here = let e = ap length blanks_here in let p = place.1 in omega arith

      pub some_left : 0 < left
      some_left = let e = here in omega arith

      pub one_counted : (left - 1) + length (blanks_of_steps (map step_of (drop at nodes))) ≡ length all
      one_counted = let e = here in let p = place.1 in omega arith

      taken : (b : Tree) × ((cs : List Tree) × (drop place.0 all ≡ b ∷ cs) × (takes x.0 b ≡ true) × Takes (blanks_of_steps others) cs)
      taken = takes_tail (blanks_of_steps others) x.0 (drop place.0 all) (subst (λ (l : List Blank). Takes l (drop place.0 all)) blanks_here place.2)

      pub turn_blank : (old : Store) (args : List Term) (r : Term) (after : List (Option Term)) → Grows old w → HaveTrees old args all
          → r ≡ get_or args (left - 1) r → after ≡ stack ++ Some r ∷ []
          → OnStack (Stands w) after (filled_pieces (pieces (map step_of (drop at nodes))) (drop (left - 1) all))
      turn_blank old args r after g held arg grown =
          let k : left - 1 ≡ place.0 = let e = here in omega arith in
          let len = HaveTrees-length old args all held in
          let p = place.1 in
          let q = ap length blanks_here in
          let t = tree_there old args all place.0 r held (omega arith) (arg ∙ ap (λ (j : ℕ). get_or args j r) k) in
          let same_list : t.0 ∷ drop (suc place.0) all ≡ taken.0 ∷ taken.1.0 = sym t.2 ∙ taken.1.1 in
          let same_tree : t.0 ≡ taken.0 = cc in
          let takes_it : takes_as (step_of n) t.0 ≡ true = x.2 t.0 ∙ ap (takes x.0) same_tree ∙ taken.1.2 in
          let f = fills-blank (step_of n) (pieces others) t.0 (drop left all) yes' takes_it in
          let rest : drop (left - 1) all ≡ t.0 ∷ drop left all = ap (λ (j : ℕ). drop j all) k ∙ t.2 ∙ ap (λ (j : ℕ). t.0 ∷ drop j all) (sym here) in
          let e : filled_pieces (pieces (map step_of (drop at nodes))) (drop (left - 1) all) ≡ f.0 ∷ filled_pieces (pieces others) (drop left all)
          = ap (λ (ss : List Step). filled_pieces (pieces ss) (drop (left - 1) all)) steps
          ∙ ap (λ (bs : List Tree). filled_pieces (assembled (step_of n) (pieces others)) bs) rest ∙ f.1 in
          subst (OnStack (Stands w) after) (sym e) (push (Stands w) stack after (Some r) f.0 (filled_pieces (pieces others) (drop left all)) grown
          (f.2 w r (g.trees r t.0 t.1)) on)

-- the terms are as many as the blanks, and each blank takes its tree
pub record Fits (old : Store) (nodes : List Node) (args : List Term) : Type 0 where
  pub held : HaveTrees old args (trees_of old args)
  pub taken : Takes (blanks_of_steps (map step_of nodes)) (trees_of old args)
  pub same : length args ≡ length (blanks_of_steps (map step_of nodes))

pub fits_all : (old : Store) (nodes : List Node) (args : List Term) (bs : List Tree) → HaveTrees old args bs
    → IsMisfit None (blanks_of_steps (map step_of nodes)) bs → Fits old nodes args
fits_all old nodes args bs h m = let f = fitting old args (blanks_of_steps (map step_of nodes)) bs h m in record { held = f.0; taken = f.1; same = f.2 }

-- the terms that are left to the left, and what the nodes from here on make of the others
pub record Filling (old w : Store) (nodes : List Node) (args : List Term) (stack : List (Option Term)) (at left : ℕ) : Type 0 where
  pub within : at ≤ length nodes
  pub left_within : left ≤ length args
  pub held : OnStack (Stands w) stack (filled_pieces (pieces (map step_of (drop at nodes))) (drop left (trees_of old args)))
  pub counted : left + length (blanks_of_steps (map step_of (drop at nodes))) ≡ length (trees_of old args)
  pub grows : Grows old w
  pub fits : Fits old nodes args

pub back : (old w : Store) (nodes : List Node) (args : List Term) (stack : List (Option Term)) (at left : ℕ) → 0 < at
    → Filling old w nodes args stack at left → Filling old w nodes args stack ((at - 1) + 1) left
back old w nodes args stack at left pos h = let e : at ≡ (at - 1) + 1 = omega arith in subst (λ (k : ℕ). Filling old w nodes args stack k left) e h

pub begun : (old : Store) (nodes : List Node) (args : List Term) (stack : List (Option Term)) → Fits old nodes args → stack ≡ []
    → Filling old old nodes args stack (length nodes) (length args)
begun old nodes args stack f e =
    let z = no_nodes nodes in
    record {
      within = omega arith;
      left_within = omega arith;
      held = subst (λ (ns : List Node). OnStack (Stands old) stack (filled_pieces (pieces (map step_of ns)) (drop (length args) (trees_of old args))))
          (sym z) (rw e tt);
      counted = subst (λ (ns : List Node). length args + length (blanks_of_steps (map step_of ns)) ≡ length (trees_of old args)) (sym z) (let n =
          HaveTrees-length old args (trees_of old args) f.held in omega arith);
      grows = Grows-refl old;
      fits = f;
    }

module _ (old w : Store) (nodes : List Node) (args : List Term) (stack : List (Option Term)) (at left : ℕ) (n : Node) (are : AreNodes nodes)
    (h : Filling old w nodes args stack (at + 1) left) (is : n ≡ get_or nodes at n) where
  lt : at < length nodes
  lt = let e = h.within in omega arith

  pub left_some : is_blank (step_of n) ≡ true → 0 < left
  left_some y = some_left nodes are at n lt is w stack left (trees_of old args) h.held h.counted y h.fits.taken

  pub parts_there : is_blank (step_of n) ≡ false → (ps : List Piece) × OnStack (Stands w) stack ps × HasParts (step_of n) ps
  parts_there e = turn_parts nodes are at n lt is w stack left (trees_of old args) h.held h.counted e

  pub valid_there : IsValid (step_of n)
  valid_there = turn_valid nodes are at n lt is

  pub blank_on : is_blank (step_of n) ≡ true → (r : Term) (after : List (Option Term)) → r ≡ get_or args (left - 1) r → after ≡ stack ++ Some r ∷ []
      → Filling old w nodes args after at (left - 1)
  blank_on y r after arg grown = record {
    within = let e = h.within in omega arith;
    left_within = let e = h.left_within in omega arith;
    held = turn_blank nodes are at n lt is w stack left (trees_of old args) h.held h.counted y h.fits.taken old args r after h.grows h.fits.held arg grown;
    counted = one_counted nodes are at n lt is w stack left (trees_of old args) h.held h.counted y h.fits.taken;
    grows = h.grows;
    fits = h.fits;
  }

  pub join_on : is_blank (step_of n) ≡ false → (new : Store) (after : List (Option Term)) → Grows w new
      → ((ps : List Piece) → OnStack (Stands w) stack ps → HasParts (step_of n) ps → OnStack (Stands new) after (assembled (step_of n) ps))
      → Filling old new nodes args after at left
  join_on e new after g made = record {
    within = let e = h.within in omega arith;
    left_within = h.left_within;
    held = turn_join nodes are at n lt is w stack left (trees_of old args) h.held h.counted e new after made;
    counted = still_counted nodes are at n lt is w stack left (trees_of old args) h.held h.counted e;
    grows = Grows-trans h.grows g;
    fits = h.fits;
  }

-- the one tree
pub ended : (w : Store) (nodes : List Node) (stack : List (Option Term)) (left : ℕ) (all : List Tree) → AreNodes nodes
    → left + length (blanks_of_steps (map step_of nodes)) ≡ length all → length all ≡ length (blanks_of_steps (map step_of nodes))
    → OnStack (Stands w) stack (filled_pieces (pieces (map step_of nodes)) (drop left all))
    → OnStack (Stands w) stack (One (filled (tree_of_nodes nodes) all).0 ∷ [])
ended w nodes stack left all are counted len on =
    let z : left ≡ 0 = omega arith in
    let e : filled_pieces (pieces (map step_of nodes)) (drop left all) ≡ One (filled (tree_of_nodes nodes) all).0 ∷ [] =
    ap (λ (ps : List Piece). filled_pieces ps (drop left all)) (one_piece nodes are)
    ∙ ap (λ (k : ℕ). One (filled (tree_of_nodes nodes) (drop k all)).0 ∷ []) z in
    subst (OnStack (Stands w) stack) e on

-- no node is left
pub all_filled : (old w : Store) (nodes : List Node) (args : List Term) (stack rest : List (Option Term)) (x : Option Term) (at left : ℕ)
    → AreNodes nodes → at ≡ 0 → Filling old w nodes args stack at left → stack ≡ rest ++ x ∷ []
    → Stands w x (One (filled (tree_of_nodes nodes) (trees_of old args)).0)
all_filled old w nodes args stack rest x at left are z h e =
    let k = subst (λ (i : ℕ). Filling old w nodes args stack i left) z h in
    let n = HaveTrees-length old args (trees_of old args) h.fits.held in
    let s = h.fits.same in
    (pop (Stands w) stack rest x (One (filled (tree_of_nodes nodes) (trees_of old args)).0) [] e
    (ended w nodes stack left (trees_of old args) are k.counted (omega arith) k.held)).0

pub stack_there : (old w : Store) (nodes : List Node) (args : List Term) (stack : List (Option Term)) (at left : ℕ) → AreNodes nodes → at ≡ 0
    → Filling old w nodes args stack at left → 0 < length stack
stack_there old w nodes args [] at left are z h =
    let k = subst (λ (i : ℕ). Filling old w nodes args [] i left) z h in
    let n = HaveTrees-length old args (trees_of old args) h.fits.held in
    let s = h.fits.same in
    absurd (ended w nodes [] left (trees_of old args) are k.counted (omega arith) k.held)
stack_there old w nodes args (x ∷ stack) at left are z h = omega arith

pub some_made : (w : Store) (x : Option Term) (t : Tree) → Stands w x (One t) → IsSome x
some_made w None t st = absurd st
some_made w (Some r) t st = refl

pub made_tree : (old w : Store) (nodes : List Node) (args : List Term) (x : Option Term) (r : Term) (bs : List Tree)
    → Stands w x (One (filled (tree_of_nodes nodes) (trees_of old args)).0) → x ≡ Some r → HaveTrees old args bs
    → tree_at w r ≡ Some (filled (tree_of_nodes nodes) bs).0
made_tree old w nodes args x r bs st is held =
    let there : tree_at w r ≡ Some (filled (tree_of_nodes nodes) (trees_of old args)).0 = rw is at st in
    there ∙ ap (λ (cs : List Tree). let o : Option Tree = Some (filled (tree_of_nodes nodes) cs).0 in o) (sym (trees_are old args bs held))

-- Whether terms go into the blanks of nodes.
use Rattle.std.proofs.Common.{ℕ, suc, zero, ◌+◌, ◌<◌, ◌≤◌, ◌≡◌, Bool, true, false, not, List, [], ◌∷◌, ◌++◌, Option}
use Rattle.std.proofs.Common.{Some, None, IsSome, length, drop, get_or, refl, sym, ap, ◌∙◌, subst, arith, add-one}
use Rattle.std.specs.Prelude.{option_map, is_some}
use Rattle.rx_term.specs.Tree.{Tree, Trees, none, more, Int, Appl, Items, Hole, annotations}
use Rattle.rx_term.specs.Store.{Store, tree_at, list_unless_empty}
use Rattle.rx_term.specs.Kinds.{HasAnns}
use Rattle.rx_term.specs.Walks.{HaveTrees}
use Rattle.rx_term.specs.declared.Term.{Term}
use Rattle.rx_pattern.specs.Pattern.{fits, AnyList}
use Rattle.rx_pattern.proofs.StackLemmas.{listed_notes}
use Rattle.rx_pattern.specs.Filling as filling
use Rattle.rx_pattern.specs.Filling.{Blank, misfit, takes}
use Rattle.rx_pattern.specs.Code.{Step, Number, Named, Listing, Holding, End, Item, Rest}
use Rattle.rx_pattern.specs.Making.{is_blank, takes_as, blanks_of_step}

-- the first misfit of all blanks, by those that are left
abbrev moved : ℕ → Option ℕ → Option ℕ
moved n o = option_map (λ k. n + k) o

pub record Looking (all left : List Blank) (at : ℕ) (bs : List Tree) : Type 0 where
  pub same : misfit all bs ≡ moved at (misfit left (drop at bs))

moved_zero : (o : Option ℕ) → o ≡ moved 0 o
moved_zero None = refl
moved_zero (Some k) = ap (λ (n : ℕ). let o : Option ℕ = Some n in o) (omega arith)

moved_more : (at : ℕ) (o : Option ℕ) → moved at (moved 1 o) ≡ moved (at + 1) o
moved_more at None = refl
moved_more at (Some k) = ap (λ (n : ℕ). let o : Option ℕ = Some n in o) (omega arith)

pub begun : (blanks : List Blank) (bs : List Tree) → Looking blanks blanks 0 bs
begun blanks bs = record { same = moved_zero (misfit blanks bs) }

-- a blank, by the test
pub one_blank : (s : Step) → is_blank s ≡ true → (x : Blank) × (blanks_of_step s ≡ x ∷ []) × ((t : Tree) → takes_as s t ≡ takes x t)
one_blank (Holding (Some kind)) e = (_, refl, λ t. refl)
one_blank Rest e = (_, refl, λ t. refl)
one_blank (Holding None) e = absurd (let z : ⊥ = cc in z)
one_blank (Number z) e = absurd (let y : ⊥ = cc in y)
one_blank (Named name quoted) e = absurd (let z : ⊥ = cc in z)
one_blank Listing e = absurd (let z : ⊥ = cc in z)
one_blank End e = absurd (let z : ⊥ = cc in z)
one_blank Item e = absurd (let z : ⊥ = cc in z)

pub no_blank : (s : Step) → is_blank s ≡ false → blanks_of_step s ≡ []
no_blank (Holding (Some kind)) e = absurd (let z : ⊥ = cc in z)
no_blank Rest e = absurd (let z : ⊥ = cc in z)
no_blank (Holding None) e = refl
no_blank (Number z) e = refl
no_blank (Named name quoted) e = refl
no_blank Listing e = refl
no_blank End e = refl
no_blank Item e = refl

-- references and their trees
pub HaveTrees-length : (w : Store) (rs : List Term) (bs : List Tree) → HaveTrees w rs bs → length rs ≡ length bs
HaveTrees-length w [] [] h = refl
HaveTrees-length w (r ∷ rs) (b ∷ bs) h = ap suc (HaveTrees-length w rs bs h.1)
HaveTrees-length w [] (b ∷ bs) h = absurd h
HaveTrees-length w (r ∷ rs) [] h = absurd h

pub tree_there : (w : Store) (rs : List Term) (bs : List Tree) (k : ℕ) (r : Term) → HaveTrees w rs bs → k < length rs → r ≡ get_or rs k r
    → (b : Tree) × (tree_at w r ≡ Some b) × (drop k bs ≡ b ∷ drop (suc k) bs)
tree_there w (x ∷ rs) (b ∷ bs) zero r h lt e = (b, rw e h.0, refl)
tree_there w (x ∷ rs) (b ∷ bs) (suc k) r h lt e = let t = tree_there w rs bs k r h.1 (omega arith) e in (t.0, t.1, t.2)
tree_there w [] [] k r h lt e = absurd (omega arith)
tree_there w [] (b ∷ bs) k r h lt e = absurd h
tree_there w (x ∷ rs) [] k r h lt e = absurd h

-- one blank more was looked at
first_takes : (x : Blank) (blanks : List Blank) (b : Tree) (bs : List Tree) → takes x b ≡ true → misfit (x ∷ blanks) (b ∷ bs) ≡ moved 1 (misfit blanks bs)
first_takes x blanks b bs e = rw e refl

first_misfit : (x : Blank) (blanks : List Blank) (b : Tree) (bs : List Tree) → takes x b ≡ false → misfit (x ∷ blanks) (b ∷ bs) ≡ Some 0
first_misfit x blanks b bs e = rw e refl

module _ (w : Store) (all left : List Blank) (s : Step) (at : ℕ) (args : List Term) (r : Term) (bs : List Tree) (blank : is_blank s ≡ true)
    (held : HaveTrees w args bs) (lt : at < length args) (is : r ≡ get_or args at r)
    (h : Looking all (blanks_of_step s ++ left) at bs) (b : Bool) (test : (u : Tree) → tree_at w r ≡ Some u → b ≡ takes_as s u) where
  x : (x : Blank) × (blanks_of_step s ≡ x ∷ []) × ((t : Tree) → takes_as s t ≡ takes x t)
  x = one_blank s blank

  there : (u : Tree) × (tree_at w r ≡ Some u) × (drop at bs ≡ u ∷ drop (at + 1) bs)
  there = let t = tree_there w args bs at r held lt is in (t.0, t.1, t.2 ∙ ap (λ (n : ℕ). t.0 ∷ drop n bs) (sym (add-one at)))

  taken : takes x.0 there.0 ≡ b
  taken = sym (x.2 there.0) ∙ sym (test there.0 there.1)

  so_far : misfit all bs ≡ moved at (misfit (x.0 ∷ left) (there.0 ∷ drop (at + 1) bs))
  so_far = h.same ∙ ap (λ (ss : List Blank). moved at (misfit (ss ++ left) (drop at bs))) x.1
      ∙ ap (λ (cs : List Tree). moved at (misfit (x.0 ∷ left) cs)) there.2

  pub blank_on : b ≡ true → Looking all left (at + 1) bs
  blank_on e = record {
    same = so_far ∙ ap (moved at) (first_takes x.0 left there.0 (drop (at + 1) bs) (taken ∙ e))
        ∙ moved_more at (misfit left (drop (at + 1) bs));
  }

  pub blank_off : b ≡ false → misfit all bs ≡ Some at
  blank_off e = so_far ∙ ap (moved at) (first_misfit x.0 left there.0 (drop (at + 1) bs) (taken ∙ e))
      ∙ ap (λ (n : ℕ). let o : Option ℕ = Some n in o) (omega arith)

pub other_on : (all left : List Blank) (s : Step) (at : ℕ) (bs : List Tree) → is_blank s ≡ false → Looking all (blanks_of_step s ++ left) at bs
    → Looking all left at bs
other_on all left s at bs e h = record { same = h.same ∙ ap (λ (ss : List Blank). moved at (misfit (ss ++ left) (drop at bs))) (no_blank s e) }

pub ended : (all : List Blank) (at : ℕ) (bs : List Tree) → Looking all [] at bs → misfit all bs ≡ None
ended all at bs h = h.same

-- a list without annotations
rest_taken : (u : Tree) → fits AnyList u ≡ true → (b : Bool) → (annotations u ≡ none → b ≡ true)
    → ((t : Tree) (ts : Trees) → annotations u ≡ more t ts → b ≡ false) → b ≡ takes filling.Rest u
rest_taken (Items items none) e b yes' no' = yes' refl
rest_taken (Items items (more t ts)) e b yes' no' = no' t ts refl
rest_taken (Int z anns) e b yes' no' = absurd (let y : ⊥ = cc in y)
rest_taken (Appl name quoted args anns) e b yes' no' = absurd (let y : ⊥ = cc in y)
rest_taken (Hole inner anns) e b yes' no' = absurd (let y : ⊥ = cc in y)

not_false : (b : Bool) → not b ≡ false → b ≡ true
not_false true e = refl
not_false false e = absurd (let z : ⊥ = cc in z)

not_true : (b : Bool) → not b ≡ true → b ≡ false
not_true false e = refl
not_true true e = absurd (let z : ⊥ = cc in z)

pub takes_rest : (w : Store) (t : Term) (u : Tree) (a : Option Term) (b c : Bool) → tree_at w t ≡ Some u → c ≡ fits AnyList u → c ≡ true
    → HasAnns w t a → is_some a ≡ not b → b ≡ takes filling.Rest u
takes_rest w t u None b c e f y notes n = rest_taken u (sym f ∙ y) b (λ q. not_false b (sym n)) (λ v vs q.
    absurd (let l = listed_notes w t u None e notes in let z : ⊥ = cc in z))
takes_rest w t u (Some r) b c e f y notes n = rest_taken u (sym f ∙ y) b (λ q. absurd (noted_list (annotations u) q (rw e at notes))) (λ v vs q.
    not_true b (sym n)) where
      noted_list : (ts : Trees) → ts ≡ none → IsSome (list_unless_empty ts) × (tree_at w r ≡ list_unless_empty ts) → ⊥
      noted_list none q h = let i = h.0 in cc
      noted_list (more v vs) q h = cc

pub takes_no_rest : (u : Tree) (c : Bool) → c ≡ fits AnyList u → c ≡ false → c ≡ takes filling.Rest u
takes_no_rest (Items items anns) c f n = absurd (let z : ⊥ = cc in z)
takes_no_rest (Int z anns) c f n = n
takes_no_rest (Appl name quoted args anns) c f n = n
takes_no_rest (Hole inner anns) c f n = n

-- ---- the loop

pub same_at : (xs : List Term) (k : ℕ) (d e : Term) → k < length xs → get_or xs k d ≡ get_or xs k e
same_at [] k d e h = absurd (omega arith)
same_at (x ∷ xs) zero d e h = refl
same_at (x ∷ xs) (suc k) d e h = same_at xs k d e (omega arith)

pub place_blank : (at n : ℕ) (s : Step) (left here : List Blank) → here ≡ blanks_of_step s ++ left → is_blank s ≡ true → at + length here ≡ n
    → (at < n) × (at + 1 + length left ≡ n)
place_blank at n s left here e y counted =
    let x = one_blank s y in
    let f : here ≡ x.0 ∷ left = e ∙ ap (λ (ss : List Blank). ss ++ left) x.1 in
    let k = ap length f in
    (omega arith, omega arith)

pub place_other : (at n : ℕ) (s : Step) (left here : List Blank) → here ≡ blanks_of_step s ++ left → is_blank s ≡ false → at + length here ≡ n
    → at + length left ≡ n
place_other at n s left here e other counted = let k = ap length (e ∙ ap (λ (ss : List Blank). ss ++ left) (no_blank s other)) in omega arith

-- the invariant of the loop
pub record Checking (w : Store) (all left : List Blank) (args : List Term) (at i : ℕ) : Type 0 where
  pub within : at ≤ i
  pub counted : at + length left ≡ length args
  pub fits : (bs : List Tree) → HaveTrees w args bs → Looking all left at bs

module _ (w : Store) (all here left : List Blank) (s : Step) (args : List Term) (at i : ℕ) (steps : here ≡ blanks_of_step s ++ left)
    (h : Checking w all here args at i) where
  looking : (bs : List Tree) → HaveTrees w args bs → Looking all (blanks_of_step s ++ left) at bs
  looking bs held = subst (λ (ss : List Blank). Looking all ss at bs) steps (h.fits bs held)

  module _ (blank : is_blank s ≡ true) where
    pub at_place : at < length args
    at_place = (place_blank at (length args) s left here steps blank h.counted).0

    module _ (d : Term) (b : Bool) (test : (u : Tree) → tree_at w (get_or args at d) ≡ Some u → b ≡ takes_as s u) where
      is : get_or args at d ≡ get_or args at (get_or args at d)
      is = same_at args at d (get_or args at d) at_place

      pub turn_taken : b ≡ true → Checking w all left args (at + 1) (i + 1)
      turn_taken y = record {
        within = let e = h.within in omega arith;
        counted = (place_blank at (length args) s left here steps blank h.counted).1;
        fits = λ bs held. blank_on w all left s at args (get_or args at d) bs blank held at_place is (looking bs held) b test y;
      }

      pub turn_refused : b ≡ false → (bs : List Tree) → HaveTrees w args bs → misfit all bs ≡ Some at
      turn_refused n bs held = blank_off w all left s at args (get_or args at d) bs blank held at_place is (looking bs held) b test n

  pub turn_other : is_blank s ≡ false → Checking w all left args at (i + 1)
  turn_other e = record {
    within = let f = h.within in omega arith;
    counted = place_other at (length args) s left here steps e h.counted;
    fits = λ bs held. other_on all left s at bs e (looking bs held);
  }

pub started : (w : Store) (all : List Blank) (args : List Term) → length all ≡ length args → Checking w all all args 0 0
started w all args e = record { within = omega arith; counted = omega arith; fits = λ bs held. begun all bs }

pub all_fit : (w : Store) (all left : List Blank) (args : List Term) (at i : ℕ) → left ≡ [] → Checking w all left args at i → (bs : List Tree)
    → HaveTrees w args bs → misfit all bs ≡ None
all_fit w all left args at i e h bs held = ended all at bs (subst (λ (ss : List Blank). Looking all ss at bs) e (h.fits bs held))

pub as_many : (w : Store) (args : List Term) (bs : List Tree) (blanks : List Blank) (n : ℕ) → HaveTrees w args bs → n ≡ length blanks
    → n ≡ length args → length bs ≡ length blanks
as_many w args bs blanks n h e f = let k = HaveTrees-length w args bs h in omega arith

pub drop-past : {A : Type 0} (xs : List A) (i : ℕ) → length xs ≤ i → drop i xs ≡ []
drop-past [] zero h = refl
drop-past (x ∷ xs) zero h = absurd (omega arith)
drop-past [] (suc i) h = refl
drop-past (x ∷ xs) (suc i) h = drop-past xs i (omega arith)

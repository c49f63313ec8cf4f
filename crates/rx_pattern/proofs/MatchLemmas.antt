-- A turn of the loop that matches a pattern.
use Rattle.std.proofs.Common.{ℕ, ◌+◌, ◌<◌, ◌≡◌, Bool, true, false, ◌&&◌, List, [], ◌∷◌, ◌++◌, Option, Some, None}
use Rattle.std.proofs.Common.{cond, refl, sym, ap, ◌∙◌, subst, append_assoc, length, map, drop, get_or, add-one}
use Rattle.std.proofs.Math.Seq.{drop-cons}
use Rattle.std.specs.Prelude.{bytes_eq, option_to_list}
use Rattle.std.specs.Bool.{beq}
use Rattle.std.specs.Ordering.{int_eq}
use Rattle.std.proofs.lemmas.List.{append-nil}
use Rattle.rx_term.specs.Tree.{Tree, none, more, Int, Appl, Items, Hole}
use Rattle.rx_term.specs.Store.{Store, tree_at}
use Rattle.rx_term.specs.declared.Term.{Term}
use Rattle.rx_term.specs.Walks.{HaveTrees}
use Rattle.rx_pattern.specs.Pattern.{PlaceholderKind, fits}
use Rattle.rx_pattern.specs.Matching.{matching, matching_all, both, where_true, bound}
use Rattle.rx_pattern.specs.Code.{Step, Number, Named, Listing, Holding, End, Item, Rest, Piece, One, Several, assembled, pieces}
use Rattle.rx_pattern.specs.Nodes.{step_of}
use Rattle.rx_pattern.specs.declared.nodes.Node.{Node}
use Rattle.rx_pattern.specs.Subjects.{OnStack, Stands, Suits, Front, front_if, meets, MetOrNot, Answers}
use Rattle.rx_pattern.proofs.StackLemmas.{pop}
use Rattle.rx_pattern.proofs.SpellingLemmas.{IsSpelt, CanJoin, can_join, still_spelt, kind_word}

abbrev pub match_piece : Piece → Piece → Option (List Tree)
match_piece (One p) (One u) = matching p u
match_piece (Several ps) (Several us) = matching_all ps us
match_piece p v = None

-- what patterns bind of their subjects
abbrev pub match_pieces : List Piece → List Piece → Option (List Tree)
match_pieces [] [] = Some []
match_pieces (p ∷ ps) (v ∷ vs) = both (match_piece p v) (match_pieces ps vs)
match_pieces ps vs = None

-- a tree for a tree, and a list for a list
abbrev pub Shapes : List Piece → List Piece → Type 0
Shapes [] [] = Unit {0}
Shapes (One p ∷ ps) (One u ∷ vs) = Shapes ps vs
Shapes (Several p ∷ ps) (Several u ∷ vs) = Shapes ps vs
Shapes ps vs = ⊥

-- what is bound on the whole, by what a step meets
abbrev onward : Option Front → List Piece → List Piece → Option (List Tree)
onward None qs vs = None
onward (Some front) qs vs = both (Some front.0) (match_pieces qs (front.1 ++ vs))

abbrev AllShapes : Option Front → List Piece → List Piece → Type 0
AllShapes None qs vs = Unit {0}
AllShapes (Some front) qs vs = Shapes qs (front.1 ++ vs)

both_nil : (x : Option (List Tree)) → both (Some []) x ≡ x
both_nil None = refl
both_nil (Some xs) = refl

both_assoc : (x y z : Option (List Tree)) → both (both x y) z ≡ both x (both y z)
both_assoc (Some xs) (Some ys) (Some zs) = ap (λ (l : List Tree). let o : Option (List Tree) = Some l in o) (append_assoc xs ys zs)
both_assoc (Some xs) (Some ys) None = refl
both_assoc (Some xs) None z = refl
both_assoc None y z = refl

-- a test, and then the rest
tested : (b : Bool) (x y : Option (List Tree)) (qs vs left : List Piece) → both x y ≡ match_pieces qs (left ++ vs)
    → both (where_true b x) y ≡ onward (front_if b ([], left)) qs vs
tested true x y qs vs left e = e ∙ sym (both_nil (match_pieces qs (left ++ vs)))
tested false x y qs vs left e = refl

tested_bound : (b : Bool) (u : Tree) (qs vs : List Piece) → both (cond b (Some (u ∷ [])) None) (match_pieces qs vs) ≡ onward (front_if b (u ∷ [], [])) qs vs
tested_bound true u qs vs = refl
tested_bound false u qs vs = refl

tested_shapes : (b : Bool) (bs : List Tree) (left qs vs : List Piece) → Shapes qs (left ++ vs) → AllShapes (front_if b (bs, left)) qs vs
tested_shapes true bs left qs vs h = h
tested_shapes false bs left qs vs h = tt

-- a step meets its subject as the pattern matches it
meets_as : (s : Step) (qs : List Piece) (v : Piece) (vs : List Piece) → CanJoin s qs → Shapes (assembled s qs) (v ∷ vs)
    → (match_pieces (assembled s qs) (v ∷ vs) ≡ onward (meets s v) qs vs) × AllShapes (meets s v) qs vs × Suits s v
meets_as (Number z) (Several anns ∷ ps) (One (Int y bnns)) vs c h = (
  tested (int_eq z y) (matching_all anns bnns) (match_pieces ps vs) (Several anns ∷ ps) vs (Several bnns ∷ []) refl,
  tested_shapes (int_eq z y) [] (Several bnns ∷ []) (Several anns ∷ ps) vs h,
  tt,
)
meets_as (Number z) (Several anns ∷ ps) (One (Appl name quoted args bnns)) vs c h = (refl, tt, tt)
meets_as (Number z) (Several anns ∷ ps) (One (Items items bnns)) vs c h = (refl, tt, tt)
meets_as (Number z) (Several anns ∷ ps) (One (Hole inner bnns)) vs c h = (refl, tt, tt)
meets_as (Named name quoted) (Several args ∷ Several anns ∷ ps) (One (Appl other flag brgs bnns)) vs c h =
    let b = bytes_eq name other && beq quoted flag in (
      tested b (both (matching_all args brgs) (matching_all anns bnns)) (match_pieces ps vs) (Several args ∷ Several anns ∷ ps) vs
          (Several brgs ∷ Several bnns ∷ []) (both_assoc (matching_all args brgs) (matching_all anns bnns) (match_pieces ps vs)),
      tested_shapes b [] (Several brgs ∷ Several bnns ∷ []) (Several args ∷ Several anns ∷ ps) vs h,
      tt,
    )
meets_as (Named name quoted) (Several args ∷ Several anns ∷ ps) (One (Int y bnns)) vs c h = (refl, tt, tt)
meets_as (Named name quoted) (Several args ∷ Several anns ∷ ps) (One (Items items bnns)) vs c h = (refl, tt, tt)
meets_as (Named name quoted) (Several args ∷ Several anns ∷ ps) (One (Hole inner bnns)) vs c h = (refl, tt, tt)
meets_as Listing (Several items ∷ Several anns ∷ ps) (One (Items jtems bnns)) vs c h = (
  both_assoc (matching_all items jtems) (matching_all anns bnns) (match_pieces ps vs)
      ∙ sym (both_nil (both (matching_all items jtems) (both (matching_all anns bnns) (match_pieces ps vs)))),
  h,
  tt,
)
meets_as Listing (Several items ∷ Several anns ∷ ps) (One (Int y bnns)) vs c h = (refl, tt, tt)
meets_as Listing (Several items ∷ Several anns ∷ ps) (One (Appl name quoted args bnns)) vs c h = (refl, tt, tt)
meets_as Listing (Several items ∷ Several anns ∷ ps) (One (Hole inner bnns)) vs c h = (refl, tt, tt)
meets_as (Holding (Some kind)) qs (One u) vs c h = (
  ap (λ (k : Option PlaceholderKind). both (bound k u) (match_pieces qs vs)) (kind_word kind) ∙ tested_bound (fits kind u) u qs vs,
  tested_shapes (fits kind u) (u ∷ []) [] qs vs h,
  tt,
)
meets_as End qs (Several none) vs c h = (refl, h, tt)
meets_as End qs (Several (more t ts)) vs c h = (refl, tt, tt)
meets_as Item (One p ∷ Several ps ∷ qs) (Several none) vs c h = (rw c refl, tt, tt)
meets_as Item (One p ∷ Several ps ∷ qs) (Several (more t ts)) vs c h = (
  rw c (both_assoc (matching p t) (matching_all ps ts) (match_pieces qs vs)
      ∙ sym (both_nil (both (matching p t) (both (matching_all ps ts) (match_pieces qs vs))))),
  h,
  tt,
)
meets_as Rest qs (Several none) vs c h = (refl, h, tt)
meets_as Rest qs (Several (more t ts)) vs c h = (refl, h, tt)
meets_as (Number z) (Several anns ∷ ps) (Several ts) vs c h = absurd h
meets_as (Named name quoted) (Several args ∷ Several anns ∷ ps) (Several ts) vs c h = absurd h
meets_as Listing (Several items ∷ Several anns ∷ ps) (Several ts) vs c h = absurd h
meets_as (Holding (Some kind)) qs (Several ts) vs c h = absurd h
meets_as End qs (One u) vs c h = absurd h
meets_as Item (One p ∷ Several ps ∷ qs) (One u) vs c h = absurd h
meets_as Rest qs (One u) vs c h = absurd h
meets_as (Number z) [] v vs c h = absurd c
meets_as (Number z) (One t ∷ ps) v vs c h = absurd c
meets_as (Named name quoted) [] v vs c h = absurd c
meets_as (Named name quoted) (One t ∷ ps) v vs c h = absurd c
meets_as (Named name quoted) (Several args ∷ []) v vs c h = absurd c
meets_as (Named name quoted) (Several args ∷ One t ∷ ps) v vs c h = absurd c
meets_as Listing [] v vs c h = absurd c
meets_as Listing (One t ∷ ps) v vs c h = absurd c
meets_as Listing (Several items ∷ []) v vs c h = absurd c
meets_as Listing (Several items ∷ One t ∷ ps) v vs c h = absurd c
meets_as (Holding None) qs v vs c h = absurd c
meets_as Item [] v vs c h = absurd c
meets_as Item (Several ts ∷ ps) v vs c h = absurd c
meets_as Item (One t ∷ []) v vs c h = absurd c
meets_as Item (One t ∷ One u ∷ ps) v vs c h = absurd c

-- ---- the loop

-- what is bound so far, and what the steps that are left bind of the subjects on the stack
pub record Underway (w : Store) (steps : List Step) (whole : Option (List Tree)) (stack : List (Option Term)) (out : List Term) : Type 0 where
  pub bindings : List Tree
  pub subjects : List Piece
  pub spelt : IsSpelt steps
  pub shapes : Shapes (pieces steps) subjects
  pub stands : OnStack (Stands w) stack subjects
  pub held : HaveTrees w out bindings
  pub same : whole ≡ both (Some bindings) (match_pieces (pieces steps) subjects)

pub begun : (w : Store) (steps : List Step) (p u : Tree) (t : Term) (stack : List (Option Term)) (out : List Term) → IsSpelt steps
    → pieces steps ≡ One p ∷ [] → tree_at w t ≡ Some u → stack ≡ Some t ∷ [] → out ≡ [] → Underway w steps (matching p u) stack out
begun w steps p u t stack out s one there e f = record {
  bindings = [];
  subjects = One u ∷ [];
  spelt = s;
  shapes = rw one tt;
  stands = rw e (there, tt);
  held = rw f tt;
  same = rw one (sym (both_nil (both (matching p u) (Some [])) ∙ both_end (matching p u)));
} where
  both_end : (x : Option (List Tree)) → both x (Some []) ≡ x
  both_end None = refl
  both_end (Some xs) = ap (λ (l : List Tree). let o : Option (List Tree) = Some l in o) (append-nil xs)

-- the first subject
top : (s : Step) (qs vs : List Piece) → CanJoin s qs → Shapes (assembled s qs) vs → (v : Piece) × ((rest : List Piece) × (vs ≡ v ∷ rest))
top s qs (v ∷ vs) c h = (v, (vs, refl))
top (Number z) (Several anns ∷ ps) [] c h = absurd h
top (Named name quoted) (Several args ∷ Several anns ∷ ps) [] c h = absurd h
top Listing (Several items ∷ Several anns ∷ ps) [] c h = absurd h
top (Holding (Some kind)) qs [] c h = absurd h
top End qs [] c h = absurd h
top Item (One p ∷ Several ps ∷ qs) [] c h = absurd h
top Rest qs [] c h = absurd h
top (Number z) [] [] c h = absurd c
top (Number z) (One t ∷ ps) [] c h = absurd c
top (Named name quoted) [] [] c h = absurd c
top (Named name quoted) (One t ∷ ps) [] c h = absurd c
top (Named name quoted) (Several args ∷ []) [] c h = absurd c
top (Named name quoted) (Several args ∷ One t ∷ ps) [] c h = absurd c
top Listing [] [] c h = absurd c
top Listing (One t ∷ ps) [] c h = absurd c
top Listing (Several items ∷ []) [] c h = absurd c
top Listing (Several items ∷ One t ∷ ps) [] c h = absurd c
top (Holding None) qs [] c h = absurd c
top Item [] [] c h = absurd c
top Item (Several ts ∷ ps) [] c h = absurd c
top Item (One t ∷ []) [] c h = absurd c
top Item (One t ∷ One u ∷ ps) [] c h = absurd c

module _ (w : Store) (s : Step) (ns : List Step) (whole : Option (List Tree)) (stack : List (Option Term)) (out : List Term)
    (h : Underway w (s ∷ ns) whole stack out) where
  first : (v : Piece) × ((rest : List Piece) × (h.subjects ≡ v ∷ rest))
  first = top s (pieces ns) h.subjects (can_join s ns h.spelt) h.shapes

  shaped : Shapes (assembled s (pieces ns)) (first.0 ∷ first.1.0)
  shaped = subst (λ (vs : List Piece). Shapes (assembled s (pieces ns)) vs) first.1.1 h.shapes

  agrees : (match_pieces (assembled s (pieces ns)) (first.0 ∷ first.1.0) ≡ onward (meets s first.0) (pieces ns) first.1.0)
      × AllShapes (meets s first.0) (pieces ns) first.1.0 × Suits s first.0
  agrees = meets_as s (pieces ns) first.0 first.1.0 (can_join s ns h.spelt) shaped

  bound_so_far : whole ≡ both (Some h.bindings) (onward (meets s first.0) (pieces ns) first.1.0)
  bound_so_far = h.same ∙ ap (λ (vs : List Piece). both (Some h.bindings) (match_pieces (assembled s (pieces ns)) vs)) first.1.1
      ∙ ap (λ (x : Option (List Tree)). both (Some h.bindings) x) agrees.0

  on_stack : OnStack (Stands w) stack (first.0 ∷ first.1.0)
  on_stack = subst (λ (vs : List Piece). OnStack (Stands w) stack vs) first.1.1 h.stands

  module _ (rest : List (Option Term)) (x : Option Term) (popped : stack ≡ rest ++ x ∷ []) where
    split : Stands w x first.0 × OnStack (Stands w) rest first.1.0
    split = pop (Stands w) stack rest x first.0 first.1.0 popped on_stack

    -- what the turn asks for
    pub turn_needs : (v : Piece) × Stands w x v × Suits s v
    turn_needs = (first.0, split.0, agrees.2)

    module _ (new : Store) (after : List (Option Term)) (more_out : List Term) where
      -- the step did not meet its subject
      pub turn_off : ((v : Piece) → Stands w x v → Suits s v → MetOrNot w new (meets s v) rest after out more_out false) → whole ≡ None
      turn_off met = by_front (meets s first.0) (met first.0 split.0 agrees.2) bound_so_far where
        by_front : (f : Option Front) → MetOrNot w new f rest after out more_out false
            → whole ≡ both (Some h.bindings) (onward f (pieces ns) first.1.0) → whole ≡ None
        by_front None m e = e
        by_front (Some front) m e = absurd m

      -- it did
      pub turn_on : ((v : Piece) → Stands w x v → Suits s v → MetOrNot w new (meets s v) rest after out more_out true) → Underway new ns whole after more_out
      turn_on met = by_front (meets s first.0) (met first.0 split.0 agrees.2) bound_so_far agrees.1 where
        by_front : (f : Option Front) → MetOrNot w new f rest after out more_out true
            → whole ≡ both (Some h.bindings) (onward f (pieces ns) first.1.0) → AllShapes f (pieces ns) first.1.0 → Underway new ns whole after more_out
        by_front None m e sh = absurd m
        by_front (Some front) m e sh = record {
          bindings = h.bindings ++ front.0;
          subjects = front.1 ++ first.1.0;
          spelt = still_spelt s ns h.spelt;
          shapes = sh;
          stands = m.0 first.1.0 split.1;
          held = m.1 h.bindings h.held;
          same = e ∙ sym (both_assoc (Some h.bindings) (Some front.0) (match_pieces (pieces ns) (front.1 ++ first.1.0)));
        }

no_subjects : (vs : List Piece) → Shapes [] vs → vs ≡ []
no_subjects [] h = refl
no_subjects (v ∷ vs) h = absurd h

-- no step is left
pub ended : (w : Store) (steps : List Step) (whole : Option (List Tree)) (stack : List (Option Term)) (out : List Term) → steps ≡ []
    → Underway w steps whole stack out → Answers w whole out true
ended w steps whole stack out e h =
    let none_left : h.subjects ≡ [] = no_subjects h.subjects (rw e at h.shapes) in
    let same = rw (e, none_left, append-nil) at h.same in
    rw same h.held

pub not_matched : (w : Store) (whole : Option (List Tree)) (out : List Term) → whole ≡ None → Answers w whole out false
not_matched w whole out e = rw e tt

-- the step at a place, and those after it
pub next_step : (nodes : List Node) (i : ℕ) (n : Node) → i < length nodes → n ≡ get_or nodes i n
    → map step_of (drop i nodes) ≡ step_of n ∷ map step_of (drop (i + 1) nodes)
next_step nodes i n lt e = ap (map step_of) (rw add-one (drop-cons nodes i n lt) ∙ ap (λ (m : Node). m ∷ drop (i + 1) nodes) (sym e))

pub popped : (before after : List (Option Term)) (o : Option (Option Term)) (x : Option Term) → before ≡ after ++ option_to_list o → o ≡ Some x
    → before ≡ after ++ x ∷ []
popped before after o x e f = e ∙ ap (λ (p : Option (Option Term)). after ++ option_to_list p) f

-- A turn of the loop that looks for placeholders.
use Rattle.std.proofs.Common.{ℕ, ◌+◌, ◌<◌, ◌≤◌, ◌≡◌, IsSome, Bool, true, false, ◌&&◌, List, []}
use Rattle.std.proofs.Common.{◌∷◌, ◌++◌, Option, Some, None, reverse, refl, sym, ap, ◌∙◌, arith}
use Rattle.std.specs.Prelude.{is_some}
use Rattle.rx_term.specs.Tree.{Tree, Trees, none, more, Int, Appl, Items, Hole}
use Rattle.rx_term.specs.Store.{Store, tree_at}
use Rattle.rx_term.specs.declared.Term.{Term}
use Rattle.rx_pattern.specs.Pattern as pattern
use Rattle.rx_pattern.specs.Pattern.{knows_placeholders, all_known, has_plain_placeholders, all_plain, unfit, kind_of}
use Rattle.rx_pattern.specs.Subjects.{AreEach, OnStack}
use Rattle.rx_pattern.specs.Checking.{own_known, own_plain, below, notes, HasTree, PushesTrees}
use Rattle.rx_pattern.proofs.StackLemmas.{pop, push-reverse}

-- ---- tests of all trees

abbrev knows_each : List Tree → Bool
knows_each [] = true
knows_each (t ∷ ts) = knows_placeholders t && knows_each ts

abbrev plain_each : List Tree → Bool
plain_each [] = true
plain_each (t ∷ ts) = has_plain_placeholders t && plain_each ts

and_true : (b : Bool) → (b && true) ≡ b
and_true true = refl
and_true false = refl

and_assoc : (a b c : Bool) → ((a && b) && c) ≡ (a && (b && c))
and_assoc true b c = refl
and_assoc false b c = refl

knows_each-append : (ts us : List Tree) → knows_each (ts ++ us) ≡ (knows_each ts && knows_each us)
knows_each-append [] us = refl
knows_each-append (t ∷ ts) us = ap (λ (b : Bool). knows_placeholders t && b) (knows_each-append ts us)
    ∙ sym (and_assoc (knows_placeholders t) (knows_each ts) (knows_each us))

plain_each-append : (ts us : List Tree) → plain_each (ts ++ us) ≡ (plain_each ts && plain_each us)
plain_each-append [] us = refl
plain_each-append (t ∷ ts) us = ap (λ (b : Bool). has_plain_placeholders t && b) (plain_each-append ts us)
    ∙ sym (and_assoc (has_plain_placeholders t) (plain_each ts) (plain_each us))

knows-notes : (anns : Trees) → all_known anns ≡ knows_each (notes anns)
knows-notes none = refl
knows-notes (more t ts) = sym (and_true ((all_known (more t ts)) && true) ∙ and_true (all_known (more t ts)))

plain-notes : (anns : Trees) → all_plain anns ≡ plain_each (notes anns)
plain-notes none = refl
plain-notes (more t ts) = sym (and_true ((all_plain (more t ts)) && true) ∙ and_true (all_plain (more t ts)))

-- the tree's own test, and those below it
knows-below : (t : Tree) → knows_placeholders t ≡ (own_known t && knows_each (below t))
knows-below (Int z anns) = knows-notes anns
knows-below (Appl name quoted args anns) = rw (and_true (all_known args), knows-notes anns) refl
knows-below (Items none anns) = knows-notes anns
knows-below (Items (more t ts) anns) = and_assoc (knows_placeholders t) (all_known ts) (all_known anns) ∙ rw (and_true (all_known ts), knows-notes anns) refl
knows-below (Hole inner anns) = ap (λ (b : Bool). is_some (kind_of inner) && b) (knows-notes anns)

plain-below : (t : Tree) → has_plain_placeholders t ≡ (own_plain t && plain_each (below t))
plain-below (Int z anns) = plain-notes anns
plain-below (Appl name quoted args anns) = rw (and_true (all_plain args), plain-notes anns) refl
plain-below (Items none anns) = plain-notes anns
plain-below (Items (more t ts) anns) = and_assoc (has_plain_placeholders t) (all_plain ts) (all_plain anns)
    ∙ rw (and_true (all_plain ts), plain-notes anns) refl
plain-below (Hole inner none) = refl
plain-below (Hole inner (more t ts)) = refl

-- ---- how much there is to look at

abbrev mutual
  weight : Tree → ℕ
  weight (Int z anns) = 1 + noted anns
  weight (Appl name quoted args anns) = 4 + weights args + noted anns
  weight (Items items anns) = 2 + weights items + noted anns
  weight (Hole inner anns) = 1 + noted anns

  weights : Trees → ℕ
  weights none = 0
  weights (more t ts) = 3 + weight t + weights ts

  noted : Trees → ℕ
  noted none = 0
  noted (more t ts) = 6 + weight t + weights ts

abbrev weight_each : List Tree → ℕ
weight_each [] = 0
weight_each (t ∷ ts) = weight t + weight_each ts

weight_each-append : (ts us : List Tree) → weight_each (ts ++ us) ≡ weight_each ts + weight_each us
weight_each-append [] us = omega arith
weight_each-append (t ∷ ts) us = omega (arith, weight_each-append ts us)

weight-notes : (anns : Trees) → weight_each (notes anns) ≤ noted anns
weight-notes none = omega arith
weight-notes (more t ts) = omega arith

weight-below : (t : Tree) → weight_each (below t) < weight t
weight-below (Int z anns) = omega (arith, weight-notes anns)
weight-below (Appl name quoted args anns) = omega (arith, weight-notes anns)
weight-below (Items none anns) = omega (arith, weight-notes anns)
weight-below (Items (more t ts) anns) = omega (arith, weight-notes anns)
weight-below (Hole inner anns) = omega (arith, weight-notes anns)

-- the same of references
abbrev weight_at : Option Tree → ℕ
weight_at None = 0
weight_at (Some t) = weight t

abbrev pub weight_of : Store → List Term → ℕ
weight_of w [] = 0
weight_of w (r ∷ rs) = weight_at (tree_at w r) + weight_of w rs

weight_of-each : (w : Store) (rs : List Term) (us : List Tree) → AreEach (HasTree w) rs us → weight_of w rs ≡ weight_each us
weight_of-each w [] [] h = refl
weight_of-each w (r ∷ rs) (u ∷ us) h = rw h.0 (ap (λ (n : ℕ). weight u + n) (weight_of-each w rs us h.1))
weight_of-each w [] (u ∷ us) h = absurd h
weight_of-each w (r ∷ rs) [] h = absurd h

-- ---- the loop

-- what is known of the tree, except for the trees on the stack
pub record Looking (w : Store) (p : Tree) (plain : Bool) (stack : List Term) : Type 0 where
  pub trees : List Tree
  pub stands : OnStack (HasTree w) stack trees
  pub knows : knows_placeholders p ≡ knows_each trees
  pub bare : has_plain_placeholders p ≡ (plain && plain_each trees)

pub begun : (w : Store) (p : Tree) (t : Term) (stack : List Term) → tree_at w t ≡ Some p → stack ≡ t ∷ [] → Looking w p true stack
begun w p t stack there e = record {
  trees = p ∷ [];
  stands = rw e (there, tt);
  knows = sym (and_true (knows_placeholders p));
  bare =
      sym (and_true (has_plain_placeholders p));
}

top : (w : Store) (stack rest : List Term) (r : Term) (us : List Tree) → stack ≡ rest ++ r ∷ [] → OnStack (HasTree w) stack us
    → (u : Tree) × ((vs : List Tree) × (us ≡ u ∷ vs) × (tree_at w r ≡ Some u) × OnStack (HasTree w) rest vs)
top w stack rest r (u ∷ vs) e h = let p = pop (HasTree w) stack rest r u vs e h in (u, (vs, refl, p.0, p.1))
top w stack rest r [] e h = absurd (empty_stack w (reverse rest) r (rw (e, push-reverse rest r) at h)) where
  empty_stack : (w : Store) (rs : List Term) (r : Term) → AreEach (HasTree w) (r ∷ rs) [] → ⊥
  empty_stack w rs r h = h

module _ (w : Store) (p : Tree) (plain : Bool) (stack rest : List Term) (r : Term) (popped : stack ≡ rest ++ r ∷ []) (h : Looking w p plain stack) where
  first : (u : Tree) × ((vs : List Tree) × (h.trees ≡ u ∷ vs) × (tree_at w r ≡ Some u) × OnStack (HasTree w) rest vs)
  first = top w stack rest r h.trees popped h.stands

  abbrev others : List Tree
  others = first.1.0

  pub turn_needs : IsSome (tree_at w r)
  turn_needs = ap is_some first.1.2

  known_so_far : knows_placeholders p ≡ (own_known first.0 && (knows_each (below first.0) && knows_each others))
  known_so_far = h.knows ∙ ap knows_each first.1.1 ∙ ap (λ (b : Bool). b && knows_each others) (knows-below first.0)
      ∙ and_assoc (own_known first.0) (knows_each (below first.0)) (knows_each others)

  plain_so_far : has_plain_placeholders p ≡ ((plain && own_plain first.0) && (plain_each (below first.0) && plain_each others))
  plain_so_far = h.bare ∙ ap (λ (us : List Tree). plain && plain_each us) first.1.1 ∙ ap (λ (b : Bool). plain && (b && plain_each others)) (plain-below first.0)
      ∙ ap (λ (b : Bool). plain && b) (and_assoc (own_plain first.0) (plain_each (below first.0)) (plain_each others))
      ∙ sym (and_assoc plain (own_plain first.0) (plain_each (below first.0) && plain_each others))

  pub turn_unknown : (b : Bool) → ((u : Tree) → tree_at w r ≡ Some u → b ≡ own_known u) → b ≡ false → unfit p ≡ Some pattern.Unknown
  turn_unknown b test e =
      let own : own_known first.0 ≡ false = sym (test first.0 first.1.2) ∙ e in
      let k : knows_placeholders p ≡ false = known_so_far ∙ ap (λ (x : Bool). x && (knows_each (below first.0) && knows_each others)) own in
      rw k refl

  pub turn_on : (b d new_plain : Bool) (after : List Term) → ((u : Tree) → tree_at w r ≡ Some u → b ≡ own_known u) → b ≡ true
      → ((u : Tree) → tree_at w r ≡ Some u → d ≡ own_plain u) → new_plain ≡ (plain && d)
      → ((u : Tree) → tree_at w r ≡ Some u → PushesTrees w (below u) rest after) → Looking w p new_plain after
  turn_on b d new_plain after known y bare e pushes =
      let own : own_known first.0 ≡ true = sym (known first.0 first.1.2) ∙ y in
      let is : new_plain ≡ (plain && own_plain first.0) = e ∙ ap (λ (x : Bool). plain && x) (bare first.0 first.1.2) in
      record {
        trees = below first.0 ++ others;
        stands = pushes first.0 first.1.2 others first.1.3;
        knows = known_so_far ∙ ap (λ (x : Bool). x && (knows_each (below first.0) && knows_each others)) own ∙ sym (knows_each-append (below first.0) others);
        bare = plain_so_far ∙ ap (λ (x : Bool). x && (plain_each (below first.0) && plain_each others)) (sym is)
            ∙ ap (λ (x : Bool). new_plain && x) (sym (plain_each-append (below first.0) others));
      }

  pub turn_less : (after : List Term) → ((u : Tree) → tree_at w r ≡ Some u → PushesTrees w (below u) rest after)
      → weight_of w (reverse after) < weight_of w (reverse stack)
  turn_less after pushes =
      let a : weight_of w (reverse stack) ≡ weight_each h.trees = weight_of-each w (reverse stack) h.trees h.stands in
      let b : weight_each h.trees ≡ weight_each (first.0 ∷ others) = ap weight_each first.1.1 in
      let c : weight_of w (reverse after) ≡ weight_each (below first.0 ++ others) =
      weight_of-each w (reverse after) (below first.0 ++ others) (pushes first.0 first.1.2 others first.1.3) in
      omega (arith, weight_each-append (below first.0) others, weight-below first.0)

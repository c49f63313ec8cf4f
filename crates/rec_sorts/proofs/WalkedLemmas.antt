-- A turn of a walk over terms, and what it has found at its end.
use Rattle.std.proofs.Common.{refl, sym, ap, ◌∙◌, arith, append_assoc, append-nil}
use Rattle.std.proofs.lemmas.List.{map-append}
use Rattle.std.specs.Prelude.{ℕ, ◌≡◌, ◌<◌, ◌||◌, Bool, true, false, List, [], ◌∷◌, ◌++◌, Option, Some, length, flat_map}
use Rattle.std.specs.List.{list_any}
use Rattle.std.specs.Option.{option_and_then}
use Rattle.std.proofs.lemmas.List.Folds.{list_any-append}
use Rattle.rx_term.specs.Tree.{Tree, Trees, Int, Appl, Items, Hole, none, more, to_list, list_of, items_of}
use Rattle.rx_term.specs.Store.{Store, tree_at, part_at, head_of, tail_of, args_of}
use Rattle.rx_term.specs.Kinds.{HasKind, HasCons, HasAppl}
use Rattle.rx_term.specs.declared.Term.{Term}
use Rattle.rx_term.specs.declared.Symbol.{Symbol}
use Rattle.rx_term.specs.declared.Kind.{Kind}
use Rattle.rx_term.specs.declared.Kind.TheVariants as kind
use Rattle.rx_term.specs.Walks.{held_tree, held_trees}
use Rattle.rec_sorts.specs.TermRules.{nodes, nodes_all, arguments, is_no_application, is_annotated, first_passed}
use Rattle.rec_sorts.specs.Inner.GivenTerms.{is_nameless, is_misfilled, are_misfits, has_misfit, broken_by_nodes}
use Rattle.rec_sorts.specs.declared.scope.Scope.{Scope}
use Rattle.rec_sorts.specs.Walking.{backwards, backwards_all, unstacked}

pub held : (w : Store) (r : Term) (t : Tree) → tree_at w r ≡ Some t → held_tree w r ≡ t
held w r t e = rw e refl

-- the tree of a part
pub part_held : (f : Tree → Option Tree) (w : Store) (r part : Term) (t : Tree) → tree_at w r ≡ Some t → tree_at w part ≡ part_at f w r → tree_at w part ≡ f t
part_held f w r part t here e = e ∙ ap (option_and_then f) here

-- ---- the items of a list

module _ (w : Store) (r first rest : Term) (h : HasCons w r) (at_first : tree_at w first ≡ part_at head_of w r)
    (at_rest : tree_at w rest ≡ part_at tail_of w r) where
  pub first_there : tree_at w first ≡ Some h.first
  first_there = part_held head_of w r first (Items (more h.first h.rest) h.anns) h.here at_first

  pub rest_there : tree_at w rest ≡ Some (list_of h.rest)
  rest_there = part_held tail_of w r rest (Items (more h.first h.rest) h.anns) h.here at_rest

  -- the first item and the others
  pub items_of-cons : items_of (held_tree w r) ≡ more (held_tree w first) (items_of (held_tree w rest))
  items_of-cons = let here = h.here in let f = first_there in let o = rest_there in rw (here, f, o) refl

-- a list with no first item, or no list
pub items_of-none : (w : Store) (r : Term) (k : Kind) → HasKind w r k → (k ≡ kind.Cons → ⊥) → items_of (held_tree w r) ≡ none
items_of-none w r (kind.Int z) h n = let here = h.here in rw here refl
items_of-none w r kind.Nil h n = let here = h.here in rw here refl
items_of-none w r kind.Cons h n = absurd (n refl)
items_of-none w r (kind.Appl s) h n = let here = h.here in rw here refl
items_of-none w r kind.Hole h n = let here = h.here in rw here refl

-- one item more on the stack
pub items_turn : (w : Store) (stack grown before : List Term) (r first rest list : Term) → grown ≡ stack ++ first ∷ []
    → items_of (held_tree w r) ≡ more (held_tree w first) (items_of (held_tree w rest))
    → held_trees w stack ++ to_list (items_of (held_tree w r)) ≡ held_trees w before ++ to_list (items_of (held_tree w list))
    → held_trees w grown ++ to_list (items_of (held_tree w rest)) ≡ held_trees w before ++ to_list (items_of (held_tree w list))
items_turn w stack grown before r first rest list e cons whole =
    ap (λ rs. held_trees w rs ++ to_list (items_of (held_tree w rest))) e
    ∙ ap (λ (ts : List Tree). ts ++ to_list (items_of (held_tree w rest))) (map-append (held_tree w) stack (first ∷ []))
    ∙ append_assoc (held_trees w stack) (held_tree w first ∷ []) (to_list (items_of (held_tree w rest)))
    ∙ ap (λ ts. held_trees w stack ++ to_list ts) (sym cons)
    ∙ whole

-- ---- arguments

module _ (w : Store) (r args : Term) (s : Symbol) (h : HasAppl w r s) (at_args : tree_at w args ≡ part_at args_of w r) where
  pub args_there : tree_at w args ≡ Some (list_of h.args)
  args_there = part_held args_of w r args (Appl h.name h.quoted h.args h.anns) h.here at_args

  -- the arguments of an application are the items of its argument list
  pub items_of-args : items_of (held_tree w args) ≡ arguments (held_tree w r)
  items_of-args = let here = h.here in let there = args_there in rw (here, there) refl

-- ---- nodes

pub unstacked-append : (ts us : List Tree) → unstacked (ts ++ us) ≡ unstacked us ++ unstacked ts
unstacked-append [] us = sym (append-nil (unstacked us))
unstacked-append (t ∷ ts) us = ap (λ vs. vs ++ backwards t) (unstacked-append ts us) ∙ append_assoc (unstacked us) (unstacked ts) (backwards t)

pub unstacked-to_list : (ts : Trees) → unstacked (to_list ts) ≡ backwards_all ts
unstacked-to_list none = refl
unstacked-to_list (more t ts) = ap (λ vs. vs ++ backwards t) (unstacked-to_list ts)

-- a node comes first, and then those of its arguments
pub backwards-node : (t : Tree) → backwards t ≡ t ∷ backwards_all (arguments t)
backwards-node (Int z anns) = refl
backwards-node (Appl name quoted args anns) = refl
backwards-node (Items items anns) = refl
backwards-node (Hole inner anns) = refl

-- the top of the stack is a node, and its arguments take its place
pub node_turn : (w : Store) (stack rest grown : List Term) (r : Term) → stack ≡ rest ++ r ∷ []
    → held_trees w grown ≡ held_trees w rest ++ to_list (arguments (held_tree w r))
    → unstacked (held_trees w stack) ≡ held_tree w r ∷ unstacked (held_trees w grown)
node_turn w stack rest grown r popped pushed =
    ap (λ rs. unstacked (held_trees w rs)) popped
    ∙ ap unstacked (map-append (held_tree w) rest (r ∷ []))
    ∙ unstacked-append (held_trees w rest) (held_tree w r ∷ [])
    ∙ ap (λ ts. ts ++ unstacked (held_trees w rest)) (backwards-node (held_tree w r))
    ∙ ap (λ (ts : List Tree). held_tree w r ∷ ts)
    (ap (λ (ts : List Tree). ts ++ unstacked (held_trees w rest)) (sym (unstacked-to_list (arguments (held_tree w r))))
    ∙ sym (unstacked-append (held_trees w rest) (to_list (arguments (held_tree w r))))
    ∙ ap unstacked (sym pushed))

-- so there is one node less to come
pub node_less : (w : Store) (stack rest grown : List Term) (r : Term) → stack ≡ rest ++ r ∷ []
    → held_trees w grown ≡ held_trees w rest ++ to_list (arguments (held_tree w r))
    → length (unstacked (held_trees w grown)) < length (unstacked (held_trees w stack))
node_less w stack rest grown r popped pushed = let e = ap length (node_turn w stack rest grown r popped pushed) in omega arith

-- one node more is found
pub found_turn : (w : Store) (found more_found stack grown : List Term) (r : Term) (all : List Tree) → more_found ≡ found ++ r ∷ []
    → unstacked (held_trees w stack) ≡ held_tree w r ∷ unstacked (held_trees w grown)
    → held_trees w found ++ unstacked (held_trees w stack) ≡ all → held_trees w more_found ++ unstacked (held_trees w grown) ≡ all
found_turn w found more_found stack grown r all e turn whole =
    ap (λ rs. held_trees w rs ++ unstacked (held_trees w grown)) e
    ∙ ap (λ (ts : List Tree). ts ++ unstacked (held_trees w grown)) (map-append (held_tree w) found (r ∷ []))
    ∙ append_assoc (held_trees w found) (held_tree w r ∷ []) (unstacked (held_trees w grown))
    ∙ ap (λ ts. held_trees w found ++ ts) (sym turn)
    ∙ whole

-- ---- tests of nodes

or_comm : (a b : Bool) → a || b ≡ b || a
or_comm true true = refl
or_comm true false = refl
or_comm false true = refl
or_comm false false = refl

-- whether a test passes at one of some nodes does not depend on their order
module _ (p : Tree → Bool) where
  mutual
    pub any-backwards : (t : Tree) → list_any p (backwards t) ≡ list_any p (nodes t)
    any-backwards (Int z anns) = refl
    any-backwards (Appl name quoted args anns) = ap (λ b. p (Appl name quoted args anns) || b) (any-backwards_all args)
    any-backwards (Items items anns) = refl
    any-backwards (Hole inner anns) = refl

    pub any-backwards_all : (ts : Trees) → list_any p (backwards_all ts) ≡ list_any p (nodes_all ts)
    any-backwards_all none = refl
    any-backwards_all (more t ts) =
        list_any-append p (backwards_all ts) (backwards t)
        ∙ ap (λ b. b || list_any p (backwards t)) (any-backwards_all ts)
        ∙ ap (λ b. list_any p (nodes_all ts) || b) (any-backwards t)
        ∙ or_comm (list_any p (nodes_all ts)) (list_any p (nodes t))
        ∙ sym (list_any-append p (nodes t) (nodes_all ts))

  -- the nodes of some terms
  pub any-unstacked : (ts : List Tree) → list_any p (unstacked ts) ≡ list_any p (flat_map nodes ts)
  any-unstacked [] = refl
  any-unstacked (t ∷ ts) =
      list_any-append p (unstacked ts) (backwards t)
      ∙ ap (λ b. b || list_any p (backwards t)) (any-unstacked ts)
      ∙ ap (λ b. list_any p (flat_map nodes ts) || b) (any-backwards t)
      ∙ or_comm (list_any p (flat_map nodes ts)) (list_any p (nodes t))
      ∙ sym (list_any-append p (nodes t) (flat_map nodes ts))

  -- the nodes below some terms
  pub any-inner : (ts : List Tree) → list_any p (unstacked (flat_map (λ t. to_list (arguments t)) ts)) ≡ list_any p (flat_map (λ t. nodes_all (arguments t)) ts)
  any-inner [] = refl
  any-inner (t ∷ ts) =
      ap (list_any p) (unstacked-append (to_list (arguments t)) (flat_map (λ u. to_list (arguments u)) ts))
      ∙ list_any-append p (unstacked (flat_map (λ u. to_list (arguments u)) ts)) (unstacked (to_list (arguments t)))
      ∙ ap (λ b. b || list_any p (unstacked (to_list (arguments t)))) (any-inner ts)
      ∙ ap (λ b. list_any p (flat_map (λ u. nodes_all (arguments u)) ts) || b)
      (ap (list_any p) (unstacked-to_list (arguments t)) ∙ any-backwards_all (arguments t))
      ∙ or_comm (list_any p (flat_map (λ u. nodes_all (arguments u)) ts)) (list_any p (nodes_all (arguments t)))
      ∙ sym (list_any-append p (nodes_all (arguments t)) (flat_map (λ u. nodes_all (arguments u)) ts))

  -- a test at the trees of references
  pub any-held : (w : Store) (rs : List Term) → list_any (λ r. p (held_tree w r)) rs ≡ list_any p (held_trees w rs)
  any-held w [] = refl
  any-held w (r ∷ rs) = ap (λ b. p (held_tree w r) || b) (any-held w rs)

-- ---- rules

-- the first test that passes gives the first rule that nodes break
pub broken_is : (w : Store) (s : Scope) (all inner : List Term) (a b c d e : Bool) → a ≡ list_any (λ r. is_no_application (held_tree w r)) all
    → b ≡ list_any (λ r. is_annotated (held_tree w r)) inner
    → c ≡ list_any (λ r. is_nameless s (held_tree w r)) all → d ≡ list_any (λ r. is_misfilled s (held_tree w r)) all
    → e ≡ list_any (λ r. has_misfit s (held_tree w r)) all
    → first_passed 2 (a ∷ b ∷ c ∷ d ∷ e ∷ []) ≡ broken_by_nodes s (held_trees w all) (held_trees w inner)
broken_is w s all inner a b c d e p q r t u =
    let one = p ∙ any-held is_no_application w all in
    let two = q ∙ any-held is_annotated w inner in
    let three = r ∙ any-held (is_nameless s) w all in
    let four = t ∙ any-held (is_misfilled s) w all in
    let five = u ∙ any-held (has_misfit s) w all in
    λ i. first_passed 2 (one i ∷ two i ∷ three i ∷ four i ∷ five i ∷ [])

-- no argument is left for a sort
pub misfits-none : (s : Scope) (sorts : List (Option ℕ)) → are_misfits s sorts none ≡ false
misfits-none s [] = refl
misfits-none s (sort ∷ sorts) = refl

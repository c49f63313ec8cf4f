-- The walk over the different subterms of a term.
use Rattle.std.proofs.Common.{refl, sym, ap, subst, ◌∙◌, arith, is_some, append-nil, append_assoc, length-append}
use Rattle.std.proofs.lemmas.List.{map-append}
use Rattle.std.specs.Prelude.{ℕ, ◌+◌, ◌*◌, ◌≡◌, ◌<◌, List, [], ◌∷◌, ◌++◌, Some, IsSome, length}
use Rattle.rx_term.specs.Tree.{Tree, Trees, none, more, to_list, items_of, list_of}
use Rattle.rx_term.specs.Store.{Store, tree_at, part_at, args_of, head_of, tail_of}
use Rattle.rx_term.specs.Kinds.{HasCons}
use Rattle.rx_term.specs.Walks.{AllHeld, held_tree, held_trees}
use Rattle.rx_term.specs.declared.Term.{Term}
use Rattle.rx_term.proofs.WalkLemmas.{AllHeld-push}
use Rattle.rec_sorts.specs.Laws.{Every}
use Rattle.rec_sorts.specs.TermRules.{arguments}
use Rattle.rec_sorts.specs.Walking.{backwards, backwards_all}
use Rattle.rec_sorts.proofs.WalkedLemmas.{held, first_there, rest_there, items_of-cons, backwards-node}
use Rattle.rec_match.proofs.FactLemmas.{every_append, every_joined}
use Rattle.rec_engine.specs.Inner.Visits.{CanVisit, EntersNode, enters, visits_by, visits_ahead}
use Rattle.rec_engine.specs.declared.terms.visits.Visit.{Visit}
use Rattle.rec_engine.specs.declared.terms.visits.Visit.TheVariants.{Enter, Leave}

-- ---- how many visits follow

ahead-both : (w : Store) (us vs : List Visit) → visits_ahead w (us ++ vs) ≡ visits_ahead w us + visits_ahead w vs
ahead-both w [] vs = omega arith
ahead-both w (u ∷ us) vs = let k = ahead-both w us vs in omega (arith, k)

ahead-pushed : (w : Store) (old new : List Visit) (v : Visit) → new ≡ old ++ v ∷ [] → visits_ahead w new ≡ visits_ahead w old + visits_by w v
ahead-pushed w old new v e = let k = ap (visits_ahead w) e ∙ ahead-both w old (v ∷ []) in omega (arith, k)

enters-ahead : (w : Store) (args : List Term) (ts : Trees) → held_trees w args ≡ to_list ts → visits_ahead w (enters args) ≡ 2 * length (backwards_all ts)
enters-ahead w [] none e = refl
enters-ahead w [] (more t ts) e = absurd (cc e)
enters-ahead w (r ∷ args) none e = absurd (cc e)
enters-ahead w (r ∷ args) (more t ts) e =
    let first : held_tree w r ≡ t = cc e in
    let others : held_trees w args ≡ to_list ts = cc e in
    let one = ap (λ u. length (backwards u)) first in
    let rest = enters-ahead w args ts others in
    let both = length-append (backwards_all ts) (backwards t) in
    omega (arith, one, rest, both)

-- a visit that is left out, and those that follow from entering a term, are fewer than before
pub left-fewer : (w : Store) (all rest : List Visit) (node : Term) → all ≡ rest ++ Leave node ∷ [] → visits_ahead w rest < visits_ahead w all
left-fewer w all rest node is = let k = ahead-pushed w rest all (Leave node) is in omega (arith, k)

pub skipped-fewer : (w : Store) (all rest : List Visit) (node : Term) → all ≡ rest ++ Enter node ∷ [] → visits_ahead w rest < visits_ahead w all
skipped-fewer w all rest node is =
    let k = ahead-pushed w rest all (Enter node) is in
    let one = ap length (backwards-node (held_tree w node)) in
    omega (arith, k, one)

pub entered-fewer : (w : Store) (all rest grown : List Visit) (node : Term) → all ≡ rest ++ Enter node ∷ [] → EntersNode w node rest grown
    → visits_ahead w grown < visits_ahead w all
entered-fewer w all rest grown node is e =
    let k = ahead-pushed w rest all (Enter node) is in
    let both = ap (visits_ahead w) e.pushed ∙ ahead-both w rest (Leave node ∷ enters e.args) in
    let below = enters-ahead w e.args (arguments (held_tree w node)) e.trees in
    let one = ap length (backwards-node (held_tree w node)) in
    omega (arith, k, both, below, one)

-- ---- visits that can be made

pub can-pushed : (P : Tree → Type 0) (w : Store) (old new : List Visit) (v : Visit) → new ≡ old ++ v ∷ [] → Every (CanVisit P w) old → CanVisit P w v
    → Every (CanVisit P w) new
can-pushed P w old new v e h k = subst (Every (CanVisit P w)) (sym e) (every_joined (CanVisit P w) old (v ∷ []) h (k, tt))

enters-can : (P : Tree → Type 0) (w : Store) (args : List Term) (ts : Trees) → AllHeld w args → held_trees w args ≡ to_list ts
    → Every P (backwards_all ts) → Every (CanVisit P w) (enters args)
enters-can P w [] ts h e all = tt
enters-can P w (r ∷ args) none h e all = absurd (cc e)
enters-can P w (r ∷ args) (more t ts) h e all =
    let first : held_tree w r ≡ t = cc e in
    let others : held_trees w args ≡ to_list ts = cc e in
    let both = every_append P (backwards_all ts) (backwards t) all in (
      record { held = h r (0, omega arith, refl); nodes = subst (λ u. Every P (backwards u)) (sym first) both.1 },
      enters-can P w args ts (λ x c. h x (ℕ.suc c.0, omega (arith, c.1), c.2)) others both.0,
    )

module _ (P : Tree → Type 0) (w : Store) (all rest : List Visit) (v : Visit) (is : all ≡ rest ++ v ∷ []) (can : Every (CanVisit P w) all) where
  both : Every (CanVisit P w) rest × Every (CanVisit P w) (v ∷ [])
  both = every_append (CanVisit P w) rest (v ∷ []) (subst (Every (CanVisit P w)) is can)

  pub last-can : CanVisit P w v
  last-can = both.1.0

  pub others-can : Every (CanVisit P w) rest
  others-can = both.0

pub entered-can : (P : Tree → Type 0) (w : Store) (all rest grown : List Visit) (node : Term) → all ≡ rest ++ Enter node ∷ []
    → Every (CanVisit P w) all → EntersNode w node rest grown → Every (CanVisit P w) grown
entered-can P w all rest grown node is can e =
    let here = last-can P w all rest (Enter node) is can in
    let below = subst (Every P) (backwards-node (held_tree w node)) here.nodes in
    subst (Every (CanVisit P w)) (sym e.pushed)
    (every_joined (CanVisit P w) rest (Leave node ∷ enters e.args) (others-can P w all rest (Enter node) is can) (
      record { held = here.held; nodes = here.nodes },
      enters-can P w e.args (arguments (held_tree w node)) e.held e.trees below.1,
    ))

pub root-of : (P : Tree → Type 0) (t : Tree) → Every P (backwards t) → P t
root-of P t h = (subst (Every P) (backwards-node t) h).0

-- ---- a term is entered

-- the arguments that are left of a node that is entered
pub record Entering (w : Store) (node rest : Term) (old now : List Visit) : Type 0 where
  pub args : List Term
  pub pushed : now ≡ old ++ Leave node ∷ enters args
  pub list : IsSome (tree_at w rest)
  pub held : AllHeld w args
  pub trees : held_trees w args ++ to_list (items_of (held_tree w rest)) ≡ to_list (arguments (held_tree w node))

pub enter-first : (w : Store) (node args : Term) (old now : List Visit) → part_at args_of w node ≡ Some (list_of (arguments (held_tree w node)))
    → tree_at w args ≡ part_at args_of w node → now ≡ old ++ Leave node ∷ [] → Entering w node args old now
enter-first w node args old now there e pushed = record {
  args = [];
  pushed = pushed;
  list = ap is_some (e ∙ there);
  held = λ t c. absurd (let no : ⊥ = (let lt = c.1 in omega (arith, lt)) in no);
  trees = ap (λ u. to_list (items_of u)) (held w args (list_of (arguments (held_tree w node))) (e ∙ there));
}

pub enter-next : (w : Store) (node rest head tail : Term) (old now new : List Visit) → HasCons w rest → tree_at w head ≡ part_at head_of w rest
    → tree_at w tail ≡ part_at tail_of w rest → Entering w node rest old now → new ≡ now ++ Enter head ∷ [] → Entering w node tail old new
enter-next w node rest head tail old now new h at_head at_tail i pushed = record {
  args = i.args ++ head ∷ [];
  pushed = pushed ∙ ap (λ vs. vs ++ Enter head ∷ []) i.pushed ∙ append_assoc old (Leave node ∷ enters i.args) (Enter head ∷ [])
      ∙ ap (λ vs. old ++ Leave node ∷ vs) (sym (map-append (λ t. let v : Visit = Enter t in v) i.args (head ∷ [])));
  list = ap is_some (rest_there w rest head tail h at_head at_tail);
  held = AllHeld-push w i.args head i.held (ap is_some (first_there w rest head tail h at_head at_tail));
  trees =
      ap (λ (ts : List Tree). ts ++ to_list (items_of (held_tree w tail))) (map-append (held_tree w) i.args (head ∷ []))
      ∙ append_assoc (held_trees w i.args) (held_tree w head ∷ []) (to_list (items_of (held_tree w tail)))
      ∙ ap (λ ts. held_trees w i.args ++ to_list ts) (sym (items_of-cons w rest head tail h at_head at_tail))
      ∙ i.trees;
}

pub enter-last : (w : Store) (node rest : Term) (old now : List Visit) → items_of (held_tree w rest) ≡ none → Entering w node rest old now
    → EntersNode w node old now
enter-last w node rest old now e i = record {
  args = i.args;
  pushed = i.pushed;
  held = i.held;
  trees = sym (append-nil (held_trees w i.args)) ∙ ap (λ ts. held_trees w i.args ++ to_list ts) (sym e) ∙ i.trees;
}

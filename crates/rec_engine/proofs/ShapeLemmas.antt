-- What is known of the different subterms of a term, and of their arguments.
use Rattle.std.proofs.Common.{refl, sym, ap, subst, ◌∙◌, is_some}
use Rattle.std.proofs.lemmas.Bool.{eqb-true}
use Rattle.std.specs.Prelude.{ℕ, ◌≡◌, Bool, true, false, cond, Some, IsSome, nat_eq}
use Rattle.indexmap.specs.IndexMap.{IndexMap, get}
use Rattle.rx_term.specs.Tree.{Tree, more, items_of}
use Rattle.rx_term.specs.Store.{Store, tree_at, part_at, head_of, tail_of}
use Rattle.rx_term.specs.Kinds.{HasCons}
use Rattle.rx_term.specs.Walks.{held_tree}
use Rattle.rx_term.specs.declared.Term.{Term}
use Rattle.rec_syntax.specs.Syntax.{Spec}
use Rattle.rec_sorts.specs.Laws.{Every}
use Rattle.rec_sorts.specs.TermRules.{arguments}
use Rattle.rec_sorts.specs.Walking.{backwards, backwards_all}
use Rattle.rec_sorts.proofs.WalkedLemmas.{rest_there, items_of-cons, backwards-node}
use Rattle.rec_match.specs.declared.matcher.Matcher.{Matcher}
use Rattle.rec_match.proofs.FactLemmas.{every_joined}
use Rattle.rec_engine.specs.Machine.{HasNone}
use Rattle.rec_engine.specs.Inner.Given.{IsNodeOp}
use Rattle.rec_engine.specs.declared.compile.code.Op.{Op}
use Rattle.rec_engine.specs.declared.compile.code.Op.TheVariants as op
use Rattle.rec_engine.specs.Inner.Shared.{HasNoRules, IsOwnValue, AreOwnValues, AreShapes}
use Rattle.rec_engine.specs.Inner.Visits.{reference}
use Rattle.rec_engine.specs.declared.engine.shared.Shape.{Shape}

-- ---- the arguments of a node

module _ (w : Store) (rest head tail : Term) (h : HasCons w rest) (at_head : tree_at w head ≡ part_at head_of w rest)
    (at_tail : tree_at w tail ≡ part_at tail_of w rest) where
  pub tail-list : IsSome (tree_at w tail)
  tail-list = ap is_some (rest_there w rest head tail h at_head at_tail)

  pub split : items_of (held_tree w rest) ≡ more (held_tree w head) (items_of (held_tree w tail))
  split = items_of-cons w rest head tail h at_head at_tail

  -- one argument more is its own value
  pub values-next : (y : Spec) (m : Matcher) → IsOwnValue y m (held_tree w head) → AreOwnValues y m (items_of (held_tree w tail))
      → AreOwnValues y m (items_of (held_tree w rest))
  values-next y m first others = subst (AreOwnValues y m) (sym split)
      (every_joined (HasNoRules y m) (backwards_all (items_of (held_tree w tail))) (backwards (held_tree w head)) others first)

-- ---- shapes

-- a node whose symbol has no rules
pub no-rules : (y : Spec) (m : Matcher) (t : Tree) (f n : ℕ) (o : Op) → IsNodeOp y t o → o ≡ op.Call f n → HasNone m f → HasNoRules y m t
no-rules y m t f n o h is apart = record { symbol = f; count = n; call = subst (IsNodeOp y t) is h; none = apart }

pub own-value-of : (y : Spec) (m : Matcher) (t : Tree) → HasNoRules y m t → AreOwnValues y m (arguments t) → IsOwnValue y m t
own-value-of y m t h k = subst (Every (HasNoRules y m)) (sym (backwards-node t)) (h, k)

pub shapes-more : {S : Type 0} (y : Spec) (m : Matcher) (w : Store) (old new : IndexMap ℕ Shape S) (node : Term) (s : Shape) → AreShapes y m w old
    → (s.is_value ≡ true → IsOwnValue y m (held_tree w node)) → ((q : ℕ) → get nat_eq new q ≡ cond (nat_eq node.0 q) (Some s) (get nat_eq old q))
    → AreShapes y m w new
shapes-more y m w old new node s h k updates q x got value = by (nat_eq node.0 q) refl (sym (updates q) ∙ got)
  where
    by : (b : Bool) → nat_eq node.0 q ≡ b → cond b (Some s) (get nat_eq old q) ≡ Some x → IsOwnValue y m (held_tree w (reference q))
    by true e is =
        let same : s ≡ x = cc is in
        let here : node ≡ reference q = ap reference (eqb-true node.0 q e) in
        subst (λ (r : Term). IsOwnValue y m (held_tree w r)) here (k (ap (λ (z : Shape). z.is_value) same ∙ value))
    by false e is = h q x is value

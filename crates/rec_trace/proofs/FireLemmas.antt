-- A rule fires at the tree on top, and a call comes to what is found for it.
use Rattle.std.proofs.Common.{ℕ, sym, ap, subst, ◌∙◌}
use Rattle.std.specs.Prelude.{◌≡◌, List, ◌∷◌, ◌++◌, Option, Some, None}
use Rattle.rx_term.specs.Tree.{Tree}
use Rattle.rx_term.specs.Store.{Store}
use Rattle.rx_term.specs.Walks.{held_tree}
use Rattle.rx_term.specs.declared.Term.{Term as Reference}
use Rattle.rec_syntax.specs.Syntax.{Rule, Spec}
use Rattle.rec_sorts.specs.Binding.{Substitution}
use Rattle.rec_sorts.specs.Evaluation.{Outcome, Done, Match, Eval, first_rule}
use Rattle.rec_trace.specs.States.{moves}
use Rattle.rec_trace.specs.Lists.{IsSaved}
use Rattle.rec_trace.specs.Inner.Sides.{HasValues, IsMatch}
use Rattle.rec_trace.specs.Inner.Spreading.{HasSpread, top_of}
use Rattle.rec_trace.specs.Rows.{Lowers}
use Rattle.rec_trace.specs.Tracing as T
use Rattle.rec_trace.specs.Tracing.{IsInOrder, moves_at, on_top, stack_at}
use Rattle.rec_trace.specs.Inner.Turns as turns
use Rattle.rec_trace.specs.Inner.Turns.{Comes}
use Rattle.rec_trace.specs.declared.tracer.Event.TheVariants as event
use Rattle.rec_trace.specs.declared.tracer.Found.TheVariants as found
use Rattle.rec_trace.specs.declared.tracer.Tracer.{Tracer}
use Rattle.rec_trace.proofs.SavedLemmas.{saved-lowers}
use Rattle.rec_trace.proofs.TopLemmas.{IsTop}

-- the rule has fired
pub fired : (y : Spec) (w : Store) (a b : Tracer) (r : Rule) (s : Substitution) (redex : Reference) → IsInOrder y w a → IsTop w a redex
    → HasSpread y w a.row b.row (moves s r.right) → Lowers a.row b.row → b.saved ≡ a.saved → b.left ≡ a.left → turns.HasFired y w w a b r s redex
fired y w a b r s redex order top spread lowers saved left = record {
  order = record {
    good = order.good;
    row = spread.row;
    saved = subst (IsSaved w b.row) (sym saved) (saved-lowers w a.row b.row a.saved order.saved lowers);
  };
  left_is = left;
  moves_are = spread.moves;
  stack = ap (λ u. u ∷ stack_at w b) (sym (ap (held_tree w) top.is ∙ top.tree)) ∙ spread.stack;
  redex_is = top.held;
}

tail-is : (u v : Tree) (xs ys : List Tree) → u ∷ xs ≡ v ∷ ys → xs ≡ ys
tail-is u v xs ys e = cc

-- what is found for a call, where the symbol was applied to the values on top
module _ (y : Spec) (w w1 w2 : Store) (a b d : Tracer) (u : Tree) (st : List Tree) (moves_same : moves_at y w1 b ≡ moves_at y w a)
    (stack_is : stack_at w1 b ≡ u ∷ st) (left_same : b.left ≡ a.left) where
  asked-is : first_rule y (Eval y) y.rules b.left (on_top (stack_at w1 b)) ≡ first_rule y (Eval y) y.rules a.left u
  asked-is = ap (λ n. first_rule y (Eval y) y.rules n (on_top (stack_at w1 b))) left_same
      ∙ ap (λ (xs : List Tree). first_rule y (Eval y) y.rules a.left (on_top xs)) stack_is

  pub call-fires : (w3 : Store) (e : Tracer) (i : ℕ) (redex : Reference) (bind : List Reference)
      → T.IsFound y w1 w2 b d (first_rule y (Eval y) y.rules b.left (on_top (stack_at w1 b))) (found.Rule i) → turns.IsBound y w2 d i bind
      → on_top (stack_at w2 d) ≡ held_tree w2 (top_of d.row)
      → ((r : Rule) (s : Substitution) → IsMatch y i (held_tree w2 (top_of d.row)) r s → HasValues w2 (top_of d.row) bind s
      → turns.HasFired y w2 w3 d e r s redex)
      → Comes y w w3 a e u st (first_rule y (Eval y) y.rules a.left u) (Some (event.Fired i redex))
  call-fires w3 e i redex bind f bound top fires =
      let match : IsMatch y i (on_top (stack_at w2 d)) f.0.rule f.0.values = subst (λ xs. IsMatch y i (on_top xs) f.0.rule f.0.values) (sym f.3.stack) f.2 in
      let h = fires f.0.rule f.0.values (subst (λ u. IsMatch y i u f.0.rule f.0.values) top match) (bound f.0.rule f.0.values match) in
      let same : stack_at w2 d ≡ u ∷ st = f.3.stack ∙ stack_is in (
        f.0,
        sym asked-is ∙ f.1 ∙ ap (λ n. let o : Outcome (Option Match) = Done (Some f.0) n in o) (sym h.left_is),
        subst (λ xs. IsMatch y i (on_top xs) f.0.rule f.0.values) stack_is f.2,
        h.order,
        h.moves_are ∙ ap (λ ms. moves f.0.values f.0.rule.right ++ ms) (f.3.moves ∙ moves_same),
        tail-is (on_top (stack_at w2 d)) u (stack_at w3 e) st (h.stack ∙ same),
        h.redex_is ∙ ap (λ (xs : List Tree). let o : Option Tree = Some (on_top xs) in o) same,
      )

  pub call-ends : T.IsFound y w1 w2 b d (first_rule y (Eval y) y.rules b.left (on_top (stack_at w1 b))) found.Nothing
      → Comes y w w2 a d u st (first_rule y (Eval y) y.rules a.left u) None
  call-ends f = (sym asked-is ∙ f.0, f.1.order, f.1.moves ∙ moves_same, f.1.stack ∙ stack_is)

  pub call-over : T.IsFound y w1 w2 b d (first_rule y (Eval y) y.rules b.left (on_top (stack_at w1 b))) found.Limit
      → Comes y w w2 a d u st (first_rule y (Eval y) y.rules a.left u) (Some event.Limit)
  call-over f = sym asked-is ∙ f

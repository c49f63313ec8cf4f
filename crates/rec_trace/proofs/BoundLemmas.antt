-- References to the values of the rule that is found for the tree on top.
use Rattle.std.proofs.Common.{ℕ, ap, subst, sym, ◌∙◌}
use Rattle.std.specs.Prelude.{◌≡◌, List, Option, Some, None}
use Rattle.rx_term.specs.Tree.{Tree}
use Rattle.rx_term.specs.Store.{Store}
use Rattle.rx_term.specs.Walks.{held_tree}
use Rattle.rx_term.specs.declared.Term.{Term as Reference}
use Rattle.rec_syntax.specs.Syntax.{Rule, Spec}
use Rattle.rec_sorts.specs.Binding.{Substitution, binds, next_match}
use Rattle.rec_match.specs.Next.{IsAnswer, Matched}
use Rattle.rec_match.specs.Rows.{values_of}
use Rattle.rec_trace.specs.Inner.Sides.{HasValues, IsMatch}
use Rattle.rec_trace.specs.Inner.Spreading.{top_of}
use Rattle.rec_trace.specs.Inner.Turns.{IsBound, number_of}
use Rattle.rec_trace.specs.Rows.{stack_in}
use Rattle.rec_trace.specs.Tracing.{on_top, stack_at}
use Rattle.rec_trace.specs.declared.row.Row.{Row}
use Rattle.rec_trace.specs.declared.tracer.Tracer.{Tracer}
use Rattle.rec_trace.proofs.FindLemmas.{matched-at}
use Rattle.rec_trace.proofs.PushLemmas.{matched-first, values-bound}
use Rattle.rec_trace.proofs.SideLemmas.{some-same}
use Rattle.rec_trace.proofs.TopLemmas.{IsTop}
use Rattle.rec_trace.proofs.TurnLemmas.{HasPut}

-- a rule matches a tree with one substitution
same-values : (y : Spec) (i : ℕ) (u : Tree) (r r' : Rule) (s s' : Substitution) → IsMatch y i u r s → IsMatch y i u r' s' → s ≡ s'
same-values y i u r r' s s' p q =
    let rules : r ≡ r' = some-same r r' (sym p.rule ∙ q.rule) in
    some-same s s' (sym p.binds ∙ subst (λ (z : Rule). binds y z.left u ≡ Some s') (sym rules) q.binds)

-- what a matcher answers for the tree on top
pub bound-of-answer : (y : Spec) (w : Store) (t : Tracer) (redex : Reference) (from : ℕ) (bind : List Reference) (found : Option ℕ) → IsTop w t redex
    → IsAnswer y w redex from bind found → (i : ℕ) → found ≡ Some i → IsBound y w t i bind
bound-of-answer y w t redex from bind found top answer i is = λ r s match.
    let a : Matched y w redex from i bind = subst (IsAnswer y w redex from bind) is answer in
    let at = matched-at y (held_tree w redex) from (record { number = i; values = a.values }) a.first in
    let here : IsMatch y i (held_tree w redex) r s = subst (λ u. IsMatch y i u r s) (sym top.tree) match in
    let same = same-values y i (held_tree w redex) at.0 r a.values s at.1 here in
    subst (λ (z : Reference). HasValues w z bind s) (sym top.is)
    (values-bound y w redex r.left s bind here.binds (a.bound ∙ ap values_of same) a.held)

pub number-of-answer : (y : Spec) (w : Store) (t : Tracer) (redex : Reference) (from : ℕ) (bind : List Reference) (found : Option ℕ) → IsTop w t redex
    → IsAnswer y w redex from bind found → number_of (next_match y from (on_top (stack_at w t))) ≡ found
number-of-answer y w t redex from bind found top answer = ap (λ u. number_of (next_match y from u)) (sym top.tree) ∙ by found answer
  where
    by : (o : Option ℕ) → IsAnswer y w redex from bind o → number_of (next_match y from (held_tree w redex)) ≡ o
    by None h = ap number_of h.0
    by (Some k) h = ap number_of h.first

-- a rule that matches is found at its own number
pub found-itself : (y : Spec) (i : ℕ) (u : Tree) (r : Rule) (s : Substitution) (found : Option ℕ) → IsMatch y i u r s → number_of (next_match y i u) ≡ found
    → found ≡ Some i
found-itself y i u r s found match e = sym e ∙ ap number_of (matched-first y i u r s match)

-- the values of a rule that matches the tree that came on top
pub bound-again : (y : Spec) (w : Store) (a b : Tracer) (row : Row) (redex : Reference) (i : ℕ) (found : Option ℕ) (bind given : List Reference) (r : Rule)
    (s : Substitution) → HasPut y w a b redex → IsMatch y i (held_tree w redex) r s → b.row ≡ row
    → number_of (next_match y i (on_top (stack_in w row))) ≡ found
    → ((k : ℕ) → found ≡ Some k → IsBound y w b k bind) → given ≡ bind → HasValues w (top_of b.row) given s
bound-again y w a b row redex i found bind given r s put match at is bound same =
    let top : held_tree w redex ≡ on_top (stack_at w b) = sym (ap (λ (st : List Tree). on_top st) put.stack) in
    let here : IsMatch y i (on_top (stack_at w b)) r s = subst (λ u. IsMatch y i u r s) top match in
    subst (λ rs. HasValues w (top_of b.row) rs s) (sym same)
    (bound i (found-itself y i (on_top (stack_at w b)) r s found here (ap (λ z. number_of (next_match y i (on_top (stack_in w z)))) at ∙ is)) r s here)

-- The values on top of a row.
use Rattle.std.proofs.Common.{◌-◌, ◌<◌, arith, sym, ap, subst, ◌∙◌, length, get_or}
use Rattle.std.specs.Prelude.{◌≡◌, List, Option, Some, Contains, IsSome, reverse, slice_get, unwrap_or}
use Rattle.std.proofs.lemmas.Option.{get_or_from_slice_get, slice_get-get_or}
use Rattle.rx_term.specs.Tree.{Tree, list_of, none}
use Rattle.rx_term.specs.Store.{Store, tree_at}
use Rattle.rx_term.specs.Walks.{held_tree}
use Rattle.rx_term.specs.declared.Term.{Term as Reference}
use Rattle.rec_syntax.specs.Syntax.{Spec}
use Rattle.rx_term.proofs.StoreLemmas.{some-value}
use Rattle.rec_trace.specs.Inner.Spreading.{top_of}
use Rattle.rec_trace.specs.Rows.{reach_of}
use Rattle.rec_trace.specs.Tracing.{IsInOrder, on_top, stack_at}
use Rattle.rec_trace.specs.declared.tracer.Tracer.{Tracer}
use Rattle.rec_trace.proofs.RowLemmas.{top-first, top-second}
use Rattle.rec_trace.proofs.SideLemmas.{item-there}

pub held-some : (w : Store) (t : Reference) → IsSome (tree_at w t) → tree_at w t ≡ Some (held_tree w t)
held-some w t h = let x = some-value (tree_at w t) h in x.1 ∙ ap (λ (o : Option Tree). let q : Option Tree = Some (unwrap_or o (list_of none)) in q) (sym x.1)

-- the stack's first tree is that of the value on top
pub top-here : (w : Store) (t : Tracer) → 0 < reach_of t.row → on_top (stack_at w t) ≡ held_tree w (top_of t.row)
top-here w t some =
    let first = top-first w (reverse t.row.steps.items) t.row.values.items (record { 0 = 0 }) (omega (arith, some)) in
    ap (λ (st : List Tree). on_top st) first.1

-- a reference is the value on top
pub record IsTop (w : Store) (t : Tracer) (redex : Reference) : Type 0 where
  pub is : top_of t.row ≡ redex
  pub tree : held_tree w redex ≡ on_top (stack_at w t)
  pub held : tree_at w redex ≡ Some (on_top (stack_at w t))

pub is-top : (y : Spec) (w : Store) (t : Tracer) (redex : Reference) → IsInOrder y w t → 0 < reach_of t.row
    → slice_get t.row.values.items (length t.row.values.items - 1) ≡ Some redex → IsTop w t redex
is-top y w t redex order some at =
    let same : top_of t.row ≡ redex = get_or_from_slice_get t.row.values.items (length t.row.values.items - 1) redex (record { 0 = 0 }) at in
    let there : Contains t.row.values.items (top_of t.row) =
    item-there t.row.values.items (length t.row.values.items - 1) (record { 0 = 0 }) (omega (arith, some)) in
    let held : IsSome (tree_at w redex) = subst (λ r. IsSome (tree_at w r)) same (order.row.held (top_of t.row) there) in
    let tree : held_tree w redex ≡ on_top (stack_at w t) = sym (top-here w t some ∙ ap (held_tree w) same) in
    record { is = same; tree = tree; held = held-some w redex held ∙ ap (λ u. let o : Option Tree = Some u in o) tree }

-- a reference is the value below the one on top
pub record IsSecond (w : Store) (t : Tracer) (redex : Reference) : Type 0 where
  pub tree : held_tree w redex ≡ get_or (stack_at w t) 1 (list_of none)
  pub held : tree_at w redex ≡ Some (get_or (stack_at w t) 1 (list_of none))

pub is-second : (y : Spec) (w : Store) (t : Tracer) (redex : Reference) → IsInOrder y w t → 1 < reach_of t.row
    → redex ≡ get_or t.row.values.items (length t.row.values.items - 2) redex → IsSecond w t redex
is-second y w t redex order two at =
    let first = top-second w (reverse t.row.steps.items) t.row.values.items redex (omega (arith, two)) in
    let there = item-there t.row.values.items (length t.row.values.items - 2) redex (omega (arith, two)) in
    let held : IsSome (tree_at w redex) = order.row.held redex (subst (Contains t.row.values.items) (sym at) there) in
    let tree : held_tree w redex ≡ get_or (stack_at w t) 1 (list_of none) =
    ap (held_tree w) at ∙ sym (ap (λ (st : List Tree). get_or st 1 (list_of none)) first.1) in
    record { tree = tree; held = held-some w redex held ∙ ap (λ u. let o : Option Tree = Some u in o) tree }

-- the same of the value on top, where it is read at its place
pub is-first : (y : Spec) (w : Store) (t : Tracer) (redex : Reference) → IsInOrder y w t → 0 < reach_of t.row
    → redex ≡ get_or t.row.values.items (length t.row.values.items - 1) redex → IsTop w t redex
is-first y w t redex order some at = is-top y w t redex order some
    (slice_get-get_or t.row.values.items (length t.row.values.items - 1) redex (omega (arith, some))
    ∙ ap (λ r. let o : Option Reference = Some r in o) (sym at))

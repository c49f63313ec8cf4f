use Rattle.std.proofs.Common.{ap, arith, ◌∙◌, ◌≡◌, ◌<◌, ◌≤◌, inl, inr, get_or}
use Rattle.std.proofs.lemmas.List.{get_or-replicate, get_or_past}
use Rattle.std.proofs.lemmas.Bool.{cases_lt}
use Rattle.std.specs.Prelude.{◌⊎◌}
use Rattle.rec_match.specs.Forests.{no_child}
use Rattle.rec_match.specs.declared.forest.Child.{Child}
use Rattle.rec_match.proofs.switch.no_children.Goals as goal

pub returns-clause-none : goal.returns-clause-none
returns-clause-none c q = by (cases_lt q c.args.span)
  where
    all : (get_or c.in_ok-window.window.items q no_child) ≡ get_or (Rattle.std.proofs.Common.replicate c.args.span no_child) q no_child
    all = ap (λ xs. get_or xs q no_child) (c.in_ok-window.ensures.items_if_clones_equal (λ y e. e))

    by : (q < c.args.span) ⊎ (c.args.span ≤ q) → (get_or c.in_ok-window.window.items q no_child).node ≡ 0
    by (inl lt) = ap (λ (x : Child). x.node) (all ∙ get_or-replicate c.args.span q no_child no_child lt)
    by (inr le) = ap (λ (x : Child). x.node) (get_or_past c.in_ok-window.window.items q no_child (let l = c.in_ok-window.ensures.len in let v =
        c.in_ok-window.window.ok.0 in omega (arith, le, l, v)))

use Rattle.std.proofs.Common.{◌≡◌, false, None, get_or, sym, ap, subst, ◌∙◌, arith}
use Rattle.std.specs.Prelude.{nat_eq}
use Rattle.rx_arena.specs.Inner.Node.{mark_of}
use Rattle.rx_arena.specs.Inner.Pool.{PoolState, is_unmarked_node}
use Rattle.rx_arena.proofs.PoolStepLemmas.{past_fresh, unmarked_held, not_below}
use Rattle.rx_arena.proofs.pool.Pool.holds_unmarked.Goals as goal

pub returns-then-slot-self : goal.returns-then-slot-self
returns-then-slot-self c =
    ap (nat_eq c.mark.result) c.mark_of.ensures
    ∙ subst (λ (v : PoolState). nat_eq c.mark.result (mark_of c.self.inside.turned false) ≡ is_unmarked_node v.turned
    (get_or v.cells c.args.slot None)) c.self.view_is
    (unmarked_held c.self.inside c.self.invariant c.self.inside.turned c.args.slot c.mark.result c.if-slot-self.true c.mark.ensures)

pub returns-else-slot-self : goal.returns-else-slot-self
returns-else-slot-self c =
    let past = c.if-slot-self.false in
    not_below c.args.slot c.self.inside.fresh (λ lt. omega (arith, past, lt))
    ∙ subst (λ (v : PoolState). false ≡ is_unmarked_node v.turned (get_or v.cells c.args.slot None)) c.self.view_is
    (sym (ap (is_unmarked_node c.self.inside.turned) (past_fresh c.self.inside c.self.invariant c.args.slot (omega (arith, past)))))

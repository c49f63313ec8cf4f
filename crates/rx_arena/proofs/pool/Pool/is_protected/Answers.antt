use Rattle.std.proofs.Common.{◌≡◌, false, None, get_or, sym, ap, subst, ◌∙◌, arith}
use Rattle.std.specs.Prelude.{not, nat_eq}
use Rattle.std.proofs.lemmas.Bool.{ltb-true}
use Rattle.rx_arena.specs.Inner.Node.{is_protected_node}
use Rattle.rx_arena.specs.Inner.Pool.{PoolState}
use Rattle.rx_arena.proofs.PoolStepLemmas.{past_fresh, protected_held, unprotected_held}
use Rattle.rx_arena.proofs.pool.Pool.is_protected.Goals as goal
use Rattle.rx_arena.proofs.pool.Pool.is_protected.Goals.{then-slot-self, else-slot-self}

pub returns-then-is_protected : goal.returns-then-is_protected
returns-then-is_protected c = elim c.if-slot-self.branch [
  | then-slot-self w ↦ subst (λ (v : PoolState). not (nat_eq c.mark.result 2) ≡ is_protected_node (get_or v.cells c.args.slot None)) c.self.view_is
      (protected_held c.self.inside c.self.invariant c.args.slot c.mark.result w.if-slot-self.true c.mark.ensures
      (sym w.is_protected.ensures ∙ sym w.value-is ∙ c.if-is_protected.true))
  | else-slot-self w ↦ absurd (let below = ltb-true c.args.slot c.self.inside.fresh (sym w.value-is ∙ c.if-is_protected.true) in let past =
      w.if-slot-self.false in omega (arith, below, past))
]

pub returns-else-is_protected : goal.returns-else-is_protected
returns-else-is_protected c = c.if-is_protected.false
    ∙ sym (subst (λ (v : PoolState). is_protected_node (get_or v.cells c.args.slot None) ≡ false) c.self.view_is (elim c.if-slot-self.branch [
      | then-slot-self w ↦ unprotected_held c.self.inside c.self.invariant c.args.slot (sym w.is_protected.ensures ∙ sym w.value-is ∙ c.if-is_protected.false)
      | else-slot-self w ↦ ap is_protected_node (past_fresh c.self.inside c.self.invariant c.args.slot (let past = w.if-slot-self.false in omega (arith, past)))
    ]))

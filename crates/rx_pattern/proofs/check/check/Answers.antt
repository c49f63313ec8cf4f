use Rattle.std.proofs.Common.{◌∙◌, ap, arith, refl, List, [], ◌∷◌, ◌++◌, ◌&&◌, unwrap_or}
use Rattle.rx_term.specs.Tree.{Items, none}
use Rattle.rx_term.specs.Store.{tree_at}
use Rattle.rx_term.specs.declared.Term.{Term}
use Rattle.rx_pattern.proofs.StackLemmas.{held_tree}
use Rattle.rx_pattern.proofs.CheckLemmas.{begun, turn_unknown, turn_on, turn_less}
use Rattle.rx_pattern.proofs.check.check.Goals as goal

pub loop-u-init : goal.loop-u-init
loop-u-init g c =
    let w = g.B.TermBank.store c.args.bank.now in
    begun w (unwrap_or (tree_at w c.args.t) (Items none none)) c.args.t c.push.new.self.items (held_tree (tree_at w c.args.t) (Items none none) c.requires)
    (c.in_ok-push.ensures.items ∙ ap (λ (xs : List Term). xs ++ c.args.t ∷ []) c.new-stack.ensures.items)

pub returns-then-not-is_known-clause-unfit : goal.returns-then-not-is_known-clause-unfit
returns-then-not-is_known-clause-unfit g c = λ u e.
    let w = g.B.TermBank.store c.args.bank.now in
    let p = unwrap_or (tree_at w c.args.t) (Items none none) in
    let why = turn_unknown w p c.loop-u.plain c.loop-u.stack.items c.pop.new.self.items c.in-Some.u c.in-Some.ensures.items c.loop-u.invariant
    c.is_known.result c.is_known.ensures c.if-not-is_known.true in
    rw e at why

pub loop-u-smaller : goal.loop-u-smaller
loop-u-smaller g c =
    let w = g.B.TermBank.store c.args.bank.now in
    let less = turn_less w (unwrap_or (tree_at w c.args.t) (Items none none)) c.loop-u.plain c.loop-u.stack.items c.pop.new.self.items c.in-Some.u
    c.in-Some.ensures.items c.loop-u.invariant c.push_below.new.stack.items c.in_ok-push_below.ensures in
    omega (arith, less)

pub loop-u-preserved : goal.loop-u-preserved
loop-u-preserved g c =
    let w = g.B.TermBank.store c.args.bank.now in
    turn_on w (unwrap_or (tree_at w c.args.t) (Items none none)) c.loop-u.plain c.loop-u.stack.items c.pop.new.self.items c.in-Some.u
    c.in-Some.ensures.items c.loop-u.invariant
    c.is_known.result c.is_plain-plain.result (c.loop-u.plain && c.is_plain-plain.result) c.push_below.new.stack.items c.is_known.ensures
    c.if-not-is_known.false c.is_plain-plain.ensures refl c.in_ok-push_below.ensures

use Rattle.std.proofs.Common.{ap, arith, refl, subst, sym, ◌∙◌}
use Rattle.rx_term.specs.Walks.{held_tree}
use Rattle.rec_syntax.specs.Syntax.{Rule}
use Rattle.rec_sorts.specs.Binding.{Substitution}
use Rattle.rec_trace.specs.Inner.Sides.{HasValues, IsMatch, side_of}
use Rattle.rec_trace.specs.Inner.Spreading.{top_of}
use Rattle.rec_trace.specs.States.{Fits, moves}
use Rattle.rec_trace.specs.declared.row.Row.{Row}
use Rattle.rec_trace.specs.declared.tracer.Tracer.{Tracer}
use Rattle.rec_trace.proofs.BoundLemmas.{bound-again}
use Rattle.rec_trace.proofs.RunLemmas.{HasEntered, fits-one, in-front, side-gives}
use Rattle.rec_trace.proofs.TurnLemmas.{HasPut, has-entered, has-put, if-two}
use Rattle.rec_trace.proofs.tracer.Tracer.side.Given as given
use Rattle.rec_trace.proofs.tracer.Tracer.side.Goals.{After-deref, In_ok-_same, In_ok-spread}
use Rattle.rec_trace.proofs.tracer.Tracer.side.Goals as goal

-- the redex came on top
put : (g : given.Over) (c : In_ok-_same g)
    → HasPut c.args.engine.now.spec (g.B.TermBank.store c.args.engine.now.bank) c.args.self.now c.next_rule.new.self c.args.redex
put g c =
    let was = c.in_ok-_same.ensures in
    has-put c.args.engine.now.spec (g.B.TermBank.store c.args.engine.now.bank) c.args.self.now c.next_rule.new.self c.args.redex c.requires.order
    c.requires.can.4 (ap (λ (z : Row). z.steps) was.row ∙ c.give.ensures.steps) (ap (λ (z : Row). z.values.items) was.row ∙ c.in_ok-give.ensures.values)
    (ap (λ (z : Row). z.low) was.row ∙ c.give.ensures.low) was.saved

-- the values for it are bound
bound : (g : given.Over) (c : After-deref g)
    → HasPut c.args.engine.now.spec (g.B.TermBank.store c.args.engine.now.bank) c.args.self.now c.next_rule.new.self c.args.redex
    → (r : Rule) (s : Substitution) → let y = c.args.engine.now.spec in
    let w = g.B.TermBank.store c.args.engine.now.bank in
    IsMatch y c.args.rule (held_tree w c.args.redex) r s → HasValues w (top_of c.next_rule.new.self.row) c.deref.result.now s
bound g c put r s match =
    let was = c.in_ok-_same.ensures in
    bound-again c.args.engine.now.spec (g.B.TermBank.store c.args.engine.now.bank) c.args.self.now c.next_rule.new.self c.give.new.self c.args.redex
    c.args.rule c.in_ok-_same._same c.next_rule.new.self.bind.items c.deref.result.now r s put match was.row was.found was.bound c.deref.ensures

-- the side's steps came instead
entered : (g : given.Over) (c : In_ok-spread g)
    → HasPut c.args.engine.now.spec (g.B.TermBank.store c.args.engine.now.bank) c.args.self.now c.next_rule.new.self c.args.redex
    → (r : Rule) (s : Substitution) → let y = c.args.engine.now.spec in
    let w = g.B.TermBank.store c.args.engine.now.bank in
    let b = c.next_rule.new.self in
    IsMatch y c.args.rule (held_tree w c.args.redex) r s → HasValues w (top_of b.row) c.deref.result.now s
    → HasEntered y w c.args.self.now (record b { row = c.spread.new.self }) (moves s (side_of r c.args.side))
entered g c put r s match bound =
    let y = c.args.engine.now.spec in
    let w = g.B.TermBank.store c.args.engine.now.bank in
    let b = c.next_rule.new.self in
    let was = c.in_ok-_same.ensures in
    let h = c.in_ok-spread.ensures.spread r s (subst (λ t. IsMatch y c.args.rule (held_tree w t) r s) (sym put.top) match) bound in
    has-entered y w c.args.self.now b (record b { row = c.spread.new.self }) c.args.redex (moves s (side_of r c.args.side)) put h c.in_ok-spread.ensures.low
    refl was.left (ap (λ (z : Row). z.steps) was.row ∙ c.give.ensures.steps) c.in_ok-spread.ensures.steps

pub next_rule-requires : goal.next_rule-requires
next_rule-requires g c =
    let y = c.args.engine.now.spec in
    let w = g.B.TermBank.store c.args.engine.now.bank in
    let a = c.args.self.now in
    let h = has-put y w a (record a { row = c.give.new.self }) c.args.redex c.requires.order c.requires.can.4 c.give.ensures.steps
    c.in_ok-give.ensures.values c.give.ensures.low refl in
    record { top = record { order = h.order; some = h.reach } }

pub spread-requires-clause-row : goal.spread-requires-clause-row
spread-requires-clause-row g c =
    (put g (goal.at.spread-requires-clause-row g c).In_ok-_same).order.row

pub spread-requires-clause-can : goal.spread-requires-clause-can
spread-requires-clause-can g c =
    let q = c.requires.can in
    let at = goal.at.spread-requires-clause-can g c in
    let put = put g at.In_ok-_same in
    let reach = put.reach in (
      q.0,
      q.1,
      subst (λ t. IsMatch c.args.engine.now.spec c.args.rule (held_tree (g.B.TermBank.store c.args.engine.now.bank) t) q.0 q.1) (sym put.top) q.2,
      bound g at.After-deref put q.0 q.1 q.2,
      omega (arith, reach),
      q.3,
    )

pub run-requires-clause-order : goal.run-requires-clause-order
run-requires-clause-order g c =
    let q = c.requires.can in
    let at = goal.at.run-requires-clause-order g c in
    let put = put g at.In_ok-_same in
    let entered = entered g at.In_ok-spread put q.0 q.1 q.2 (bound g at.After-deref put q.0 q.1 q.2) in
    entered.order

pub run-requires-clause-fits : goal.run-requires-clause-fits
run-requires-clause-fits g c =
    let y = c.args.engine.now.spec in
    let w = g.B.TermBank.store c.args.engine.now.bank in
    let a = c.args.self.now in
    let e : Tracer = record c.next_rule.new.self { row = c.spread.new.self } in
    let q = c.requires.can in
    let at = goal.at.run-requires-clause-fits g c in
    let put = put g at.In_ok-_same in
    let entered = entered g at.In_ok-spread put q.0 q.1 q.2 (bound g at.After-deref put q.0 q.1 q.2) in
    let f = in-front y w a e (moves q.1 (side_of q.0 c.args.side)) c.len-floor.result entered a.row.steps.ok.0 e.row.steps.ok.0 c.len-floor.ensures in
    subst (λ ms. Fits ms 0 1) (sym f.front) (fits-one q.1 (side_of q.0 c.args.side))

pub returns-clause-gives : goal.returns-clause-gives
returns-clause-gives g c =
    if-two c.run.result (λ yes run rest r s match.
    let y = c.args.engine.now.spec in
    let w = g.B.TermBank.store c.args.engine.now.bank in
    let a = c.args.self.now in
    let e : Tracer = record c.next_rule.new.self { row = c.spread.new.self } in
    let at = goal.at.returns-clause-gives g c in
    let put = put g at.In_ok-_same in
    let entered = entered g at.In_ok-spread put r s match (bound g at.After-deref put r s match) in
    let f = in-front y w a e (moves s (side_of r c.args.side)) c.len-floor.result entered a.row.steps.ok.0 e.row.steps.ok.0 c.len-floor.ensures in
    side-gives y w (g.B.TermBank.store c.run.new.engine.bank) a e c.run.new.self c.len-floor.result s (side_of r c.args.side) yes c.requires.order entered
    f (c.len-floor.ensures ∙ a.row.steps.ok.0) run rest)
    c.run.ensures.gives c.run.ensures.steps

use Rattle.std.proofs.Common.{◌≡◌, ◌-◌, ap, arith, length, rules, subst, sym, take, ◌∙◌}
use Rattle.std.proofs.Math.Seq.{take-length}
use Rattle.std.proofs.lemmas.List.{length-take-le, take-take}
use Rattle.rec_sorts.specs.Evaluation.{Call}
use Rattle.rec_trace.specs.Tracing.{IsInOrder, moves_at, stack_at}
use Rattle.rec_trace.specs.Inner.Turns.{CanTurn, Turns}
use Rattle.rec_trace.proofs.ListLemmas.{same_both, stays-trans}
use Rattle.rec_trace.proofs.RunLemmas.{running-can, running-ends, running-failed, running-next}
use Rattle.rec_trace.proofs.tracer.Tracer.run.Goals as goal

pub turn-requires-clause-order : goal.turn-requires-clause-order
turn-requires-clause-order g c = subst (λ z. IsInOrder z (g.B.TermBank.store c.steps.engine.bank) c.steps.self) (sym c.steps.invariant.same.spec)
    c.steps.invariant.running.order

pub turn-requires-clause-fits : goal.turn-requires-clause-fits
turn-requires-clause-fits g c =
    let i = c.steps.invariant in
    let y = c.args.engine.now.spec in
    let w = g.B.TermBank.store c.steps.engine.bank in
    let t = c.steps-test.true in
    let l = c.len.ensures in
    subst (λ z. CanTurn (moves_at z w c.steps.self) (length (stack_at w c.steps.self))) (sym i.same.spec)
    (running-can (Call y) y (g.B.TermBank.store c.args.engine.now.bank) w c.args.self.now c.steps.self c.args.floor i.running
    (omega (arith, t, l)) c.steps.self.row.steps.ok.0)

pub returns-in_err-turn-clause-relists : goal.returns-in_err-turn-clause-relists
returns-in_err-turn-clause-relists g c = record {
  same = search rules;
  stays = stays-trans c.steps.invariant.stays c.turn.ensures.relists.stays;
  room = search rules;
}

pub returns-then-not-branch-clause-relists : goal.returns-then-not-branch-clause-relists
returns-then-not-branch-clause-relists g c = record {
  same = search rules;
  stays = stays-trans c.steps.invariant.stays c.turn.ensures.relists.stays;
  room = search rules;
}

pub returns-then-not-branch-clause-gives : goal.returns-then-not-branch-clause-gives
returns-then-not-branch-clause-gives g c =
    let i = c.steps.invariant in
    let y = c.args.engine.now.spec in
    let w = g.B.TermBank.store c.steps.engine.bank in
    let w' = g.B.TermBank.store c.turn.new.engine.bank in
    let t = c.steps-test.true in
    let l = c.len.ensures in
    let turns = subst (λ z. Turns (Call z) z w w' c.steps.self c.turn.new.self c.in_ok-turn.field-0) i.same.spec c.in_ok-turn.ensures.turns in
    let no = subst (Turns (Call y) y w w' c.steps.self c.turn.new.self) c.if-not-branch.true turns in
    running-failed (Call y) y (g.B.TermBank.store c.args.engine.now.bank) w c.args.self.now c.steps.self c.args.floor i.running
    (omega (arith, t, l)) w' c.turn.new.self no

pub steps-preserved : goal.steps-preserved
steps-preserved g c =
    let i = c.steps.invariant in
    let y = c.args.engine.now.spec in
    let w = g.B.TermBank.store c.steps.engine.bank in
    let w' = g.B.TermBank.store c.turn.new.engine.bank in
    let t = c.steps-test.true in
    let l = c.len.ensures in
    let steps = c.in_ok-turn.ensures.steps in
    let before = c.steps.self.row.steps.ok.0 in
    let after = c.turn.new.self.row.steps.ok.0 in
    let shorter = ap length steps in
    let long = length-take-le (length c.steps.self.row.steps.items - 1) c.steps.self.row.steps.items (omega arith) in
    let turns = subst (λ z. Turns (Call z) z w w' c.steps.self c.turn.new.self c.in_ok-turn.field-0) i.same.spec c.in_ok-turn.ensures.turns in
    let yes = subst (Turns (Call y) y w w' c.steps.self c.turn.new.self) c.if-not-branch.false turns in
    record {
      within = omega (arith, t, l, shorter, long, before, after);
      same = same_both i.same c.turn.ensures.relists.same;
      stays = stays-trans i.stays c.turn.ensures.relists.stays;
      running = running-next (Call y) y (g.B.TermBank.store c.args.engine.now.bank) w c.args.self.now c.steps.self c.args.floor
          i.running (omega (arith, t, l)) w' c.turn.new.self (omega (arith, t, l, shorter, long, before, after)) yes.0 yes.1;
      below = ap (take c.args.floor) steps
          ∙ take-take c.args.floor (length c.steps.self.row.steps.items - 1) c.steps.self.row.steps.items (omega (arith, t, l, before)) ∙ i.below;
    }

pub returns-clause-gives : goal.returns-clause-gives
returns-clause-gives g c =
    let y = c.args.engine.now.spec in
    let t = c.steps-test.false in
    let l = c.len.ensures in
    running-ends (Call y) y (g.B.TermBank.store c.args.engine.now.bank) (g.B.TermBank.store c.steps.engine.bank) c.args.self.now
    c.steps.self c.args.floor c.steps.invariant.running (omega (arith, t, l))

pub returns-clause-steps : goal.returns-clause-steps
returns-clause-steps g c = λ more.
    let i = c.steps.invariant in
    let t = c.steps-test.false in
    let l = c.len.ensures in
    let within = i.within in
    let counted = c.steps.self.row.steps.ok.0 in
    let all : length c.steps.self.row.steps.items ≡ c.args.floor = omega (arith, t, l, within, counted) in
    sym (ap (λ n. take n c.steps.self.row.steps.items) (sym all) ∙ take-length c.steps.self.row.steps.items) ∙ i.below

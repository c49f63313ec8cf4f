use Rattle.std.proofs.Common.{◌∙◌, arith, length, rules, subst, sym}
use Rattle.rx_term.proofs.KeepLemmas.{Keeps-trans}
use Rattle.rec_trace.specs.Inner.Turns.{CanTurn, Moves}
use Rattle.rec_trace.specs.Rows.{IsRow, moves_in, stack_in}
use Rattle.rec_sorts.specs.Evaluation.{Done}
use Rattle.std.specs.Prelude.{true}
use Rattle.rec_trace.proofs.WholeLemmas.{writing-can, writing-ends, writing-next}
use Rattle.rec_trace.proofs.row.Row.write.Goals as goal

pub write_step-requires-clause-can : goal.write_step-requires-clause-can
write_step-requires-clause-can g c =
    let w = g.B.TermBank.store c.steps.engine.bank in
    let t = c.steps-test.true in
    let n = c.len.ensures in
    let long = c.steps.self.steps.ok.0 in
    subst (λ y. CanTurn (moves_in y w c.steps.self) (length (stack_in w c.steps.self))) (sym c.steps.invariant.same.spec)
    (writing-can c.args.engine.now.spec (g.B.TermBank.store c.args.engine.now.bank) w c.args.self.now c.steps.self c.steps.invariant.writing
    (omega (arith, t, n, long)))

pub steps-preserved : goal.steps-preserved
steps-preserved g c =
    let y = c.args.engine.now.spec in
    let w = g.B.TermBank.store c.steps.engine.bank in
    let w' = g.B.TermBank.store c.write_step.new.engine.bank in
    let i = c.steps.invariant in
    record {
      same = record { spec = c.write_step.ensures.builds.same.spec ∙ i.same.spec; options = c.write_step.ensures.builds.same.options ∙ i.same.options };
      keeps = Keeps-trans i.keeps c.write_step.ensures.builds.keeps;
      writing = writing-next y (g.B.TermBank.store c.args.engine.now.bank) w w' c.args.self.now c.steps.self c.write_step.new.self i.writing
          (subst (λ z. IsRow z w' c.write_step.new.self) i.same.spec c.in_ok-write_step.ensures.row)
          (subst (λ z. Moves (λ n u. Done u n) 0 0 (moves_in z w c.steps.self) (stack_in w c.steps.self) (moves_in z w' c.write_step.new.self)
          (stack_in w' c.write_step.new.self) true) i.same.spec c.in_ok-write_step.ensures.moves);
    }

pub returns-in_err-write_step-clause-builds : goal.returns-in_err-write_step-clause-builds
returns-in_err-write_step-clause-builds g c = record {
  same = search rules;
  keeps = Keeps-trans c.steps.invariant.keeps c.write_step.ensures.builds.keeps;
  room = search rules;
}

pub returns-clause-written : goal.returns-clause-written
returns-clause-written g c =
    let t = c.steps-test.false in
    let n = c.len.ensures in
    let long = c.steps.self.steps.ok.0 in
    (writing-ends c.args.engine.now.spec (g.B.TermBank.store c.args.engine.now.bank) (g.B.TermBank.store c.steps.engine.bank) c.args.self.now c.steps.self
    c.steps.invariant.writing (omega (arith, t, n, long))).is c.top.result c.top.ensures

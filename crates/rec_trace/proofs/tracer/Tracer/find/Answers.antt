use Rattle.std.proofs.Common.{◌≡◌, ◌-◌, ◌<◌, ap, arith, drop, length, refl, rules, subst, sym, ◌∙◌}
use Rattle.std.specs.Prelude.{Bool, None, Option, Some, false, true}
use Rattle.rec_syntax.specs.Syntax.{Rule, Spec}
use Rattle.rec_sorts.specs.Binding.{Substitution}
use Rattle.rec_sorts.specs.Evaluation.{Done, Eval, Holds, Match, Outcome, first_rule}
use Rattle.rec_trace.specs.Rows.{stack_in}
use Rattle.rec_trace.specs.Inner.Sides.{IsMatch}
use Rattle.rec_trace.specs.Tracing.{AreAnswered, IsInOrder, on_top, stack_at}
use Rattle.rec_trace.specs.Inner.Turns.{IsBound}
use Rattle.rec_trace.specs.declared.tracer.Tracer.{Tracer}
use Rattle.rec_trace.proofs.ConditionLemmas.{order-row, same-first, same-reach, same-row}
use Rattle.rec_trace.proofs.FindLemmas.{NextRule, Tried, found-here, next-rule, no-rule, none-of, nothing-left, tried-rule}
use Rattle.rec_trace.proofs.ListLemmas.{same_both, stays-same, stays-trans}
use Rattle.rec_trace.proofs.TurnLemmas.{stays-from}
use Rattle.rec_trace.proofs.tracer.Tracer.find.Given as given
use Rattle.rec_trace.proofs.tracer.Tracer.find.Goals.{In-Some, In_ok-try_rule}
use Rattle.rec_trace.proofs.tracer.Tracer.find.Goals as goal

-- the rule that was found
next : (g : given.Over) (c : In-Some g)
    → NextRule c.args.engine.now.spec (on_top (stack_at (g.B.TermBank.store c.args.engine.now.bank) c.args.self.now)) c.rules.from c.in-Some.rule
next g c =
    let y = c.args.engine.now.spec in
    let w = g.B.TermBank.store c.args.engine.now.bank in
    let w1 = g.B.TermBank.store c.rules.engine.bank in
    let a = c.args.self.now in
    let i = c.rules.invariant in
    let here = found-here c.rules.engine.spec y (stack_at w a) (stack_at w1 c.rules.self) c.rules.from c.in_ok-rule.field-0 i.same.spec i.state.stack
    c.in_ok-rule.ensures.found in
    next-rule y (on_top (stack_at w a)) c.rules.from c.in-Some.rule (here ∙ c.in-Some.is)

-- its conditions were answered
said : (g : given.Over) (c : In_ok-try_rule g) (o : Option Bool) → c.in_ok-try_rule.field-0 ≡ o
    → let y = c.args.engine.now.spec in
    let w = g.B.TermBank.store c.args.engine.now.bank in
    let a = c.args.self.now in
    let u = on_top (stack_at w a) in
    NextRule y u c.rules.from c.in-Some.rule → Tried y w (g.B.TermBank.store c.try_rule.new.engine.bank) a c.try_rule.new.self u c.in-Some.rule o
said g c o is n =
    let y = c.args.engine.now.spec in
    let w = g.B.TermBank.store c.args.engine.now.bank in
    let w1 = g.B.TermBank.store c.rules.engine.bank in
    let w2 = g.B.TermBank.store c.try_rule.new.engine.bank in
    let a = c.args.self.now in
    let b = c.rules.self in
    let d = c.try_rule.new.self in
    let i = c.rules.invariant in
    let u = on_top (stack_at w a) in
    let some = c.if-self-eq0.false in
    let m = c.next_rule.new.self in
    let less : Tracer = record m { left = m.left - 1 } in
    let stack : stack_at w1 m ≡ stack_at w a = ap (stack_in w1) c.next_rule.ensures.row ∙ i.state.stack in
    let left = c.next_rule.ensures.left in
    let one : m.left - 1 ≡ b.left - 1 = omega (arith, left) in
    let answers = subst (λ z. (r : Rule) (s : Substitution) → IsMatch z c.in-Some.rule (on_top (stack_at w1 m)) r s
    → AreAnswered z w1 w2 less d (Holds z (m.left - 1) s r.conditions) c.in_ok-try_rule.field-0) i.same.spec c.in_ok-try_rule.ensures.answers in
    let answer = subst (AreAnswered y w1 w2 less d (Holds y (m.left - 1) n.values n.rule.conditions)) is
    (answers n.rule n.values (subst (λ st. IsMatch y c.in-Some.rule (on_top st) n.rule n.values) (sym stack) n.match)) in
    tried-rule y w w1 w2 a b less d u c.rules.from c.in-Some.rule o n i.state i.comes (omega (arith, some, left)) one c.next_rule.ensures.row answer

pub rules-init : goal.rules-init
rules-init g c = record {
  same = record { spec = refl; options = refl };
  stays = stays-same (g.B.TermBank.store c.args.engine.now.bank) c.args.self.now.saved.list c.requires.top.order.saved.kept;
  state = same-first c.args.engine.now.spec (g.B.TermBank.store c.args.engine.now.bank) c.args.self.now c.requires.top.order;
  comes = refl;
}

pub next_rule-requires : goal.next_rule-requires
next_rule-requires g c =
    let y = c.args.engine.now.spec in
    let w1 = g.B.TermBank.store c.rules.engine.bank in
    let i = c.rules.invariant in
    record {
      top = record {
        order = subst (λ z. IsInOrder z w1 c.rules.self) (sym i.same.spec) i.state.order;
        some = same-reach y (g.B.TermBank.store c.args.engine.now.bank) w1 c.args.self.now c.rules.self 0 i.state c.requires.top.some;
      };
    }

pub returns-then-self-eq0-clause-found : goal.returns-then-self-eq0-clause-found
returns-then-self-eq0-clause-found g c =
    let y = c.args.engine.now.spec in
    let u = on_top (stack_at (g.B.TermBank.store c.args.engine.now.bank) c.args.self.now) in
    nothing-left y u c.rules.from c.in-Some.rule c.rules.self.left (first_rule y (Eval y) y.rules c.args.self.now.left u)
    (next g (goal.at.returns-then-self-eq0-clause-found g c).In-Some) (sym c.next_rule.ensures.left ∙ c.if-self-eq0.true) c.rules.invariant.comes

pub try_rule-requires-clause-top : goal.try_rule-requires-clause-top
try_rule-requires-clause-top g c =
    let y = c.args.engine.now.spec in
    let w = g.B.TermBank.store c.args.engine.now.bank in
    let w1 = g.B.TermBank.store c.rules.engine.bank in
    let m = c.next_rule.new.self in
    let less : Tracer = record m { left = m.left - 1 } in
    let i = c.rules.invariant in
    record {
      order = subst (λ z. IsInOrder z w1 less) (sym i.same.spec)
          (order-row y w1 c.rules.self less i.state.order c.next_rule.ensures.row c.next_rule.ensures.saved);
      some = same-reach y w w1 c.args.self.now m 0
          (same-row y w w1 c.args.self.now c.rules.self m i.state c.next_rule.ensures.row c.next_rule.ensures.saved) c.requires.top.some;
    }

pub try_rule-requires-clause-can : goal.try_rule-requires-clause-can
try_rule-requires-clause-can g c =
    let w1 = g.B.TermBank.store c.rules.engine.bank in
    let m = c.next_rule.new.self in
    let i = c.rules.invariant in
    let stack = ap (stack_in w1) c.next_rule.ensures.row ∙ i.state.stack in
    let n = next g (goal.at.try_rule-requires-clause-can g c).In-Some in (
      n.rule,
      n.values,
      subst (λ z. IsMatch z c.in-Some.rule (on_top (stack_at w1 m)) n.rule n.values) (sym i.same.spec)
          (subst (λ st. IsMatch c.args.engine.now.spec c.in-Some.rule (on_top st) n.rule n.values) (sym stack) n.match),
    )

pub returns-in_err-try_rule-clause-relists : goal.returns-in_err-try_rule-clause-relists
returns-in_err-try_rule-clause-relists g c = record {
  same = search rules;
  stays = stays-trans c.rules.invariant.stays (stays-from c.next_rule.ensures.saved c.try_rule.ensures.relists.stays);
  room = search rules;
}

pub returns-in-Some-true-clause-relists : goal.returns-in-Some-true-clause-relists
returns-in-Some-true-clause-relists g c = record {
  same = search rules;
  stays = stays-trans c.rules.invariant.stays (stays-from c.next_rule.ensures.saved c.try_rule.ensures.relists.stays);
  room = search rules;
}

pub returns-in-Some-true-clause-found : goal.returns-in-Some-true-clause-found
returns-in-Some-true-clause-found g c =
    let at = goal.at.returns-in-Some-true-clause-found g c in
    said g at.In_ok-try_rule (Some true) (c.in-Some-true.is ∙ ap (λ v. let o : Option Bool = Some v in o) c.in-Some-true.field-0-test) (next g at.In-Some)

pub after-from-requires : goal.after-from-requires
after-from-requires g c =
    subst (λ (z : Spec). c.in-Some.rule < length z.rules) (sym (c.try_rule.ensures.relists.same.spec ∙ c.rules.invariant.same.spec))
    (next g (goal.at.after-from-requires g c).In-Some).within

pub rules-preserved : goal.rules-preserved
rules-preserved g c =
    let y = c.args.engine.now.spec in
    let at = goal.at.rules-preserved g c in
    let said = said g at.In_ok-try_rule (Some false) (c.in-Some-false.is ∙ ap (λ v. let o : Option Bool = Some v in o) c.in-Some-false.field-0-test)
    (next g at.In-Some) in
    record {
      same = same_both c.rules.invariant.same c.try_rule.ensures.relists.same;
      stays = stays-trans c.rules.invariant.stays (stays-from c.next_rule.ensures.saved c.try_rule.ensures.relists.stays);
      state = said.1;
      comes =
          ap (λ k. first_rule y (Eval y) (drop k y.rules) c.try_rule.new.self.left
          (on_top (stack_at (g.B.TermBank.store c.args.engine.now.bank) c.args.self.now)))
          c.after-from.ensures ∙ said.0;
    }

pub rules-smaller : goal.rules-smaller
rules-smaller g c =
    let y = c.args.engine.now.spec in
    let n = next g (goal.at.rules-smaller g c).In-Some in
    let after = c.after-from.ensures in
    let later = n.later in
    let within = n.within in
    let less : length y.rules - c.after-from.result < length y.rules - c.rules.from = omega (arith, after, later, within) in
    less

pub returns-in-None-clause-relists : goal.returns-in-None-clause-relists
returns-in-None-clause-relists g c = record {
  same = search rules;
  stays = stays-trans c.rules.invariant.stays (stays-from c.next_rule.ensures.saved c.try_rule.ensures.relists.stays);
  room = search rules;
}

pub returns-in-None-clause-found : goal.returns-in-None-clause-found
returns-in-None-clause-found g c =
    let at = goal.at.returns-in-None-clause-found g c in
    said g at.In_ok-try_rule None c.in-None.is (next g at.In-Some)

pub returns-clause-found : goal.returns-clause-found
returns-clause-found g c =
    let y = c.args.engine.now.spec in
    let w = g.B.TermBank.store c.args.engine.now.bank in
    let w1 = g.B.TermBank.store c.rules.engine.bank in
    let a = c.args.self.now in
    let i = c.rules.invariant in
    let m = c.next_rule.new.self in
    let here = found-here c.rules.engine.spec y (stack_at w a) (stack_at w1 c.rules.self) c.rules.from c.in_ok-rule.field-0 i.same.spec i.state.stack
    c.in_ok-rule.ensures.found in
    let none_found = none-of c.in_ok-rule.field-0 c.in_default.not-Some in (
      sym i.comes ∙ no-rule y (on_top (stack_at w a)) c.rules.from (here ∙ none_found) c.rules.self.left
          ∙ ap (λ k. let o : Outcome (Option Match) = Done None k in o) (sym c.next_rule.ensures.left),
      same-row y w w1 a c.rules.self m i.state c.next_rule.ensures.row c.next_rule.ensures.saved,
    )

pub try_rule-requires-clause-bound : goal.try_rule-requires-clause-bound
try_rule-requires-clause-bound g c = c.in_ok-rule.ensures.bound c.in-Some.rule c.in-Some.is

pub returns-in-Some-true-clause-bound : goal.returns-in-Some-true-clause-bound
returns-in-Some-true-clause-bound g c = λ k e.
    let w2 = g.B.TermBank.store c.try_rule.new.engine.bank in
    let d = c.try_rule.new.self in
    let bind = d.bind.items in
    let same : c.in-Some.rule ≡ k = cc e in
    subst (λ j. IsBound c.args.engine.now.spec w2 d j bind) same (subst (λ z. IsBound z w2 d c.in-Some.rule bind) c.rules.invariant.same.spec
    (c.in_ok-try_rule.ensures.bound (c.in-Some-true.is ∙ ap (λ v. let o : Option Bool = Some v in o) c.in-Some-true.field-0-test)))

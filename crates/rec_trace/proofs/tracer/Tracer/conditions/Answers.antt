use Rattle.std.proofs.Common.{◌≡◌, ◌∷◌, [], ap, arith, get_or, length, refl, rules, subst, sym, ◌∙◌}
use Rattle.std.specs.Prelude.{Bool, None, Option, Some, false, slice_get, true, vec_len}
use Rattle.rec_syntax.specs.Syntax.{Rule}
use Rattle.rec_sorts.specs.Binding.{Substitution}
use Rattle.rec_sorts.specs.Evaluation.{Holds}
use Rattle.rec_sorts.specs.Numbering.{IsLetterRule, Pairwise}
use Rattle.rec_sorts.specs.declared.letters.LetterRule.{LetterRule}
use Rattle.rec_match.proofs.LetterLemmas.{pair-long}
use Rattle.rec_trace.specs.Inner.Sides.{IsMatch, no_condition}
use Rattle.rec_trace.specs.Tracing.{AreAnswered, IsInOrder, on_top, stack_at}
use Rattle.rec_trace.proofs.ConditionLemmas.{Asked, all-asked, asked, same-first, same-reach}
use Rattle.rec_trace.proofs.ListLemmas.{same_both, stays-same, stays-trans}
use Rattle.rec_trace.proofs.SideLemmas.{rule-at, rule-read}
use Rattle.rec_trace.proofs.tracer.Tracer.conditions.Given as given
use Rattle.rec_trace.proofs.tracer.Tracer.conditions.Goals.{After-len-count, In_ok-condition}
use Rattle.rec_trace.proofs.tracer.Tracer.conditions.Goals as goal

-- the rule's conditions were counted
counted : (g : given.Over) (c : After-len-count g) (r : Rule) → slice_get c.args.engine.now.spec.rules c.args.rule ≡ Some r
    → c.len-count.result ≡ length r.conditions
counted g c r is =
    let y = c.args.engine.now.spec in
    let x = c.index-rules-rule.result in
    let letters = subst (λ z. Pairwise (IsLetterRule z) c.rules.result.now z.rules) c.checked.ensures c.rules.ensures.letters in
    c.len-count.ensures ∙ ap (λ (z : LetterRule). vec_len z.conditions) (sym c.index-rules-rule.is) ∙ x.conditions.ok.0
    ∙ (rule-read y c.requires.top.order.good c.rules.result.now letters c.args.rule r x is c.index-rules-rule.is).counted

-- one was answered
said : (g : given.Over) (c : In_ok-condition g) (o : Option Bool) → c.in_ok-condition.field-0 ≡ o → (r : Rule) (s : Substitution)
    → let y = c.args.engine.now.spec in
    let w = g.B.TermBank.store c.args.engine.now.bank in
    let a = c.args.self.now in
    IsMatch y c.args.rule (on_top (stack_at w a)) r s → c.len-count.result ≡ length r.conditions
    → Asked y w (g.B.TermBank.store c.condition.new.engine.bank) a c.condition.new.self s r.conditions c.loop-i.i o
said g c o is r s match counted =
    let y = c.args.engine.now.spec in
    let w1 = g.B.TermBank.store c.loop-i.engine.bank in
    let w2 = g.B.TermBank.store c.condition.new.engine.bank in
    let b = c.loop-i.self in
    let d = c.condition.new.self in
    let i = c.loop-i.invariant in
    let t = c.loop-i-test.true in
    let answers = subst (λ z. (r : Rule) (s : Substitution) → IsMatch z c.args.rule (on_top (stack_at w1 b)) r s
    → AreAnswered z w1 w2 b d (Holds z b.left s (get_or r.conditions c.loop-i.i no_condition ∷ [])) c.in_ok-condition.field-0) i.same.spec
    c.in_ok-condition.ensures.answers in
    asked y (g.B.TermBank.store c.args.engine.now.bank) w1 w2 c.args.self.now b d s r.conditions c.loop-i.i o i.state (i.comes r s match)
    (omega (arith, t, counted)) (subst (AreAnswered y w1 w2 b d (Holds y b.left s (get_or r.conditions c.loop-i.i no_condition ∷ []))) is
    (answers r s (subst (λ st. IsMatch y c.args.rule (on_top st) r s) (sym i.state.stack) match)))

pub bounds-rules-rule : goal.bounds-rules-rule
bounds-rules-rule g c =
    let y = c.args.engine.now.spec in
    let letters = subst (λ z. Pairwise (IsLetterRule z) c.rules.result.now z.rules) c.checked.ensures c.rules.ensures.letters in
    let long = pair-long (IsLetterRule y) c.rules.result.now y.rules letters in
    let within = (rule-at y c.args.rule c.requires.can.0 c.requires.can.2.rule).within in
    omega (arith, long, within)

pub loop-i-init : goal.loop-i-init
loop-i-init g c = record {
  same = record { spec = refl; options = refl };
  stays = stays-same (g.B.TermBank.store c.args.engine.now.bank) c.args.self.now.saved.list c.requires.top.order.saved.kept;
  state = same-first c.args.engine.now.spec (g.B.TermBank.store c.args.engine.now.bank) c.args.self.now c.requires.top.order;
  comes = λ r s match. refl;
}

pub condition-requires : goal.condition-requires
condition-requires g c =
    let y = c.args.engine.now.spec in
    let w1 = g.B.TermBank.store c.loop-i.engine.bank in
    let b = c.loop-i.self in
    let i = c.loop-i.invariant in
    let q = c.requires.can in
    let long = counted g (goal.at.condition-requires g c).After-len-count q.0 q.2.rule in
    let t = c.loop-i-test.true in
    record {
      top = record {
        order = subst (λ z. IsInOrder z w1 b) (sym i.same.spec) i.state.order;
        some = same-reach y (g.B.TermBank.store c.args.engine.now.bank) w1 c.args.self.now b 0 i.state c.requires.top.some;
      };
      can = (
        q.0,
        q.1,
        subst (λ z. IsMatch z c.args.rule (on_top (stack_at w1 b)) q.0 q.1) (sym i.same.spec)
            (subst (λ st. IsMatch y c.args.rule (on_top st) q.0 q.1) (sym i.state.stack) q.2),
        omega (arith, t, long),
      );
    }

pub loop-i-preserved : goal.loop-i-preserved
loop-i-preserved g c =
    let q = c.requires.can in
    let at = goal.at.loop-i-preserved g c in
    let now = said g at.In_ok-condition (Some true) (c.in-Some-true.is ∙ ap (λ v. let o : Option Bool = Some v in o) c.in-Some-true.field-0-test) in
    record {
      same = same_both c.loop-i.invariant.same c.condition.ensures.relists.same;
      stays = stays-trans c.loop-i.invariant.stays c.condition.ensures.relists.stays;
      state = (now q.0 q.1 q.2 (counted g at.After-len-count q.0 q.2.rule)).1;
      comes = λ r s match. (now r s match (counted g at.After-len-count r match.rule)).0;
    }

pub returns-in_err-condition-clause-relists : goal.returns-in_err-condition-clause-relists
returns-in_err-condition-clause-relists g c = record {
  same = search rules;
  stays = stays-trans c.loop-i.invariant.stays c.condition.ensures.relists.stays;
  room = search rules;
}

pub returns-in-Some-false-clause-relists : goal.returns-in-Some-false-clause-relists
returns-in-Some-false-clause-relists g c = record {
  same = search rules;
  stays = stays-trans c.loop-i.invariant.stays c.condition.ensures.relists.stays;
  room = search rules;
}

pub returns-in-Some-false-clause-answers : goal.returns-in-Some-false-clause-answers
returns-in-Some-false-clause-answers g c = λ r s match.
    let at = goal.at.returns-in-Some-false-clause-answers g c in
    said g at.In_ok-condition (Some false) (c.in-Some-false.is ∙ ap (λ v. let o : Option Bool = Some v in o) c.in-Some-false.field-0-test)
    r s match (counted g at.After-len-count r match.rule)

pub returns-in-None-clause-relists : goal.returns-in-None-clause-relists
returns-in-None-clause-relists g c = record {
  same = search rules;
  stays = stays-trans c.loop-i.invariant.stays c.condition.ensures.relists.stays;
  room = search rules;
}

pub returns-in-None-clause-answers : goal.returns-in-None-clause-answers
returns-in-None-clause-answers g c = λ r s match.
    let at = goal.at.returns-in-None-clause-answers g c in
    said g at.In_ok-condition None c.in-None.is r s match (counted g at.After-len-count r match.rule)

pub returns-clause-answers : goal.returns-clause-answers
returns-clause-answers g c = λ r s match.
    let at = goal.at.returns-clause-answers g c in
    let t = c.loop-i-test.false in
    let long = counted g at.After-len-count r match.rule in
    all-asked c.args.engine.now.spec (g.B.TermBank.store c.args.engine.now.bank) (g.B.TermBank.store c.loop-i.engine.bank) c.args.self.now c.loop-i.self
    s r.conditions c.loop-i.i c.loop-i.invariant.state (c.loop-i.invariant.comes r s match) (omega (arith, t, long))

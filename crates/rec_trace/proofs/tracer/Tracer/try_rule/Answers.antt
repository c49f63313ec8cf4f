use Rattle.std.proofs.Common.{◌≡◌, ap, arith, length, refl, subst, sym, ◌∙◌}
use Rattle.std.specs.Prelude.{Bool, Option, Some, true, vec_len}
use Rattle.rec_sorts.specs.Binding.{next_match}
use Rattle.rec_sorts.specs.Evaluation.{Holds}
use Rattle.rec_sorts.specs.Numbering.{IsLetterRule, Pairwise}
use Rattle.rec_sorts.specs.declared.letters.LetterRule.{LetterRule}
use Rattle.rec_match.proofs.LetterLemmas.{pair-long}
use Rattle.rec_trace.specs.Inner.Sides.{IsMatch}
use Rattle.rec_trace.specs.Inner.Turns.{IsBound, number_of}
use Rattle.rec_trace.specs.Tracing.{AreAnswered, IsInOrder, on_top, stack_at}
use Rattle.rec_trace.proofs.BoundLemmas.{found-itself}
use Rattle.rec_trace.proofs.ConditionLemmas.{all-asked, answered-row, same-first, same-reach}
use Rattle.rec_trace.proofs.SideLemmas.{rule-at, rule-read}
use Rattle.rec_trace.proofs.tracer.Tracer.try_rule.Goals as goal

pub bounds-rules-rule : goal.bounds-rules-rule
bounds-rules-rule g c =
    let y = c.args.engine.now.spec in
    let letters = subst (λ z. Pairwise (IsLetterRule z) c.rules.result.now z.rules) c.checked.ensures c.rules.ensures.letters in
    let long = pair-long (IsLetterRule y) c.rules.result.now y.rules letters in
    let within = (rule-at y c.args.rule c.requires.can.0 c.requires.can.2.rule).within in
    omega (arith, long, within)

pub returns-then-len-eq0-clause-answers : goal.returns-then-len-eq0-clause-answers
returns-then-len-eq0-clause-answers g c = λ r s match.
    let y = c.args.engine.now.spec in
    let w = g.B.TermBank.store c.args.engine.now.bank in
    let a = c.args.self.now in
    let x = c.index-rules-rule.result in
    let letters = subst (λ z. Pairwise (IsLetterRule z) c.rules.result.now z.rules) c.checked.ensures c.rules.ensures.letters in
    let counted : c.len.result ≡ length r.conditions =
    c.len.ensures ∙ ap (λ (z : LetterRule). vec_len z.conditions) (sym c.index-rules-rule.is) ∙ x.conditions.ok.0
    ∙ (rule-read y c.requires.top.order.good c.rules.result.now letters c.args.rule r x match.rule c.index-rules-rule.is).counted in
    let none = c.if-len-eq0.true in
    all-asked y w w a a s r.conditions 0 (same-first y w a c.requires.top.order) refl (omega (arith, counted, none))

pub next_rule-requires : goal.next_rule-requires
next_rule-requires g c =
    let y = c.args.engine.now.spec in
    let w = g.B.TermBank.store c.args.engine.now.bank in
    let w1 = g.B.TermBank.store c.conditions.new.engine.bank in
    let a = c.args.self.now in
    let d = c.conditions.new.self in
    let q = c.requires.can in
    let answer = subst (AreAnswered y w w1 a d (Holds y a.left q.1 q.0.conditions))
    (c.in-Some-true.is ∙ ap (λ v. let o : Option Bool = Some v in o) c.in-Some-true.field-0-test) (c.in_ok-conditions.ensures.answers q.0 q.1 q.2) in
    record {
      top = record {
        order = subst (λ z. IsInOrder z w1 d) (sym c.conditions.ensures.relists.same.spec) answer.1.order;
        some = same-reach y w w1 a d 0 answer.1 c.requires.top.some;
      };
    }

pub returns-in_ok-_same-in-Some-true-clause-answers : goal.returns-in_ok-_same-in-Some-true-clause-answers
returns-in_ok-_same-in-Some-true-clause-answers g c = λ r s match.
    let y = c.args.engine.now.spec in
    let w = g.B.TermBank.store c.args.engine.now.bank in
    let w1 = g.B.TermBank.store c.conditions.new.engine.bank in
    let a = c.args.self.now in
    answered-row y w w1 a c.conditions.new.self c.next_rule.new.self (Holds y a.left s r.conditions) true
    (subst (AreAnswered y w w1 a c.conditions.new.self (Holds y a.left s r.conditions))
    (c.in-Some-true.is ∙ ap (λ v. let o : Option Bool = Some v in o) c.in-Some-true.field-0-test) (c.in_ok-conditions.ensures.answers r s match))
    c.next_rule.ensures.row c.next_rule.ensures.saved c.next_rule.ensures.left

pub returns-in_ok-_same-in-Some-true-clause-bound : goal.returns-in_ok-_same-in-Some-true-clause-bound
returns-in_ok-_same-in-Some-true-clause-bound g c = λ e.
    let y = c.args.engine.now.spec in
    let w = g.B.TermBank.store c.args.engine.now.bank in
    let w1 = g.B.TermBank.store c.conditions.new.engine.bank in
    let a = c.args.self.now in
    let d = c.conditions.new.self in
    let q = c.requires.can in
    let answer = subst (AreAnswered y w w1 a d (Holds y a.left q.1 q.0.conditions))
    (c.in-Some-true.is ∙ ap (λ v. let o : Option Bool = Some v in o) c.in-Some-true.field-0-test) (c.in_ok-conditions.ensures.answers q.0 q.1 q.2) in
    let match = subst (λ st. IsMatch y c.args.rule (on_top st) q.0 q.1) (sym answer.1.stack) q.2 in
    let again = subst (λ z. number_of (next_match z c.args.rule (on_top (stack_at w1 d))) ≡ c.in_ok-_same-in-Some-true._same)
    c.conditions.ensures.relists.same.spec c.in_ok-_same-in-Some-true.ensures.found in
    let itself = found-itself y c.args.rule (on_top (stack_at w1 d)) q.0 q.1 c.in_ok-_same-in-Some-true._same match again in
    subst (λ z. IsBound z w1 c.next_rule.new.self c.args.rule c.next_rule.new.self.bind.items) c.conditions.ensures.relists.same.spec
    (c.in_ok-_same-in-Some-true.ensures.bound c.args.rule itself)

pub returns-in-Some-false-clause-answers : goal.returns-in-Some-false-clause-answers
returns-in-Some-false-clause-answers g c = λ r s match.
    let y = c.args.engine.now.spec in
    let w = g.B.TermBank.store c.args.engine.now.bank in
    let w1 = g.B.TermBank.store c.conditions.new.engine.bank in
    let a = c.args.self.now in
    subst (AreAnswered y w w1 a c.conditions.new.self (Holds y a.left s r.conditions))
    (c.in-Some-false.is ∙ ap (λ v. let o : Option Bool = Some v in o) c.in-Some-false.field-0-test) (c.in_ok-conditions.ensures.answers r s match)

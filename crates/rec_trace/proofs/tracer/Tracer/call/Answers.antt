use Rattle.std.proofs.Common.{◌≡◌, ap, refl, rules, subst, sym, ◌∙◌}
use Rattle.std.specs.Prelude.{None}
use Rattle.rx_term.specs.Tree.{Trees}
use Rattle.rx_term.specs.Tree as Tree
use Rattle.rec_sorts.specs.Binding.{application, next_match}
use Rattle.rec_sorts.specs.Numbering.{name_of}
use Rattle.rec_sorts.specs.declared.letters.Meaning.TheVariants.{Symbol}
use Rattle.rec_engine.specs.Flat.{taken}
use Rattle.rx_term.specs.Walks.{held_tree}
use Rattle.rec_syntax.specs.Syntax.{Rule}
use Rattle.rec_sorts.specs.Binding.{Substitution}
use Rattle.rec_sorts.specs.Evaluation.{Eval, first_rule}
use Rattle.rec_trace.specs.Inner.Sides.{HasSide, HasValues, IsMatch}
use Rattle.rec_trace.specs.Inner.Spreading.{CanSpread, top_of}
use Rattle.rec_trace.specs.Inner.Turns.{HasFired, IsBound}
use Rattle.rec_trace.specs.Lists.{Stays}
use Rattle.rec_trace.specs.Tracing.{IsFound, IsInOrder, on_top, stack_at}
use Rattle.rec_trace.specs.declared.saved.Saved.{Saved}
use Rattle.rec_trace.specs.declared.sides.Side.TheVariants.{Contractum}
use Rattle.rec_trace.specs.declared.tracer.Found.{Found}
use Rattle.rec_trace.specs.declared.tracer.Found.TheVariants as found
use Rattle.rec_trace.specs.declared.tracer.Tracer.{Tracer}
use Rattle.rec_trace.proofs.EventLemmas.{HasApplied, applied-stays, can-fire, has-applied, same-reach}
use Rattle.rec_trace.proofs.FindLemmas.{found-none}
use Rattle.rec_trace.proofs.FireLemmas.{call-ends, call-fires, call-over}
use Rattle.rec_trace.proofs.ListLemmas.{stays-trans}
use Rattle.rec_trace.proofs.TopLemmas.{top-here}
use Rattle.rec_trace.proofs.tracer.Tracer.call.Given as given
use Rattle.rec_trace.proofs.tracer.Tracer.call.Goals.{In_ok-apply, In_ok-rule}
use Rattle.rec_trace.proofs.tracer.Tracer.call.Goals as goal

-- the symbol was applied
applied : (g : given.Over) (c : In_ok-apply g)
    → let a = c.args.self.now in
    HasApplied c.args.engine.now.spec (g.B.TermBank.store c.args.engine.now.bank) (g.B.TermBank.store c.apply.new.engine.bank) a
    (record a { row = c.apply.new.self }) c.args.symbol c.args.count
applied g c =
    let a = c.args.self.now in
    has-applied c.args.engine.now.spec (g.B.TermBank.store c.args.engine.now.bank) (g.B.TermBank.store c.apply.new.engine.bank) a
    (record a { row = c.apply.new.self }) c.args.symbol c.args.count c.requires.can.good c.requires.can.row c.requires.can.saved c.apply.ensures.keeps
    c.in_ok-apply.ensures.applied c.apply.ensures.steps c.in_ok-apply.ensures.low refl

-- what was found for it
finding : (g : given.Over) (c : In_ok-rule g) (f : Found) → c.in_ok-rule.field-0 ≡ f
    → let y = c.args.engine.now.spec in
    let w1 = g.B.TermBank.store c.apply.new.engine.bank in
    let a = c.args.self.now in
    let b : Tracer = record a { row = c.apply.new.self } in
    IsFound y w1 (g.B.TermBank.store c.find.new.engine.bank) b c.find.new.self (first_rule y (Eval y) y.rules b.left (on_top (stack_at w1 b))) f
finding g c f is =
    let y = c.args.engine.now.spec in
    let w1 = g.B.TermBank.store c.apply.new.engine.bank in
    let w2 = g.B.TermBank.store c.find.new.engine.bank in
    let a = c.args.self.now in
    let b : Tracer = record a { row = c.apply.new.self } in
    let d = c.find.new.self in
    subst (IsFound y w1 w2 b d (first_rule y (Eval y) y.rules b.left (on_top (stack_at w1 b)))) is
    (subst (λ z. IsFound z w1 w2 b d (first_rule z (Eval z) z.rules b.left (on_top (stack_at w1 b))) c.in_ok-rule.field-0)
    c.apply.ensures.uses.same.spec c.in_ok-rule.ensures.found)

pub returns-in_err-apply-clause-relists : goal.returns-in_err-apply-clause-relists
returns-in_err-apply-clause-relists g c = record {
  same = search rules;
  stays = applied-stays _ _ c.args.self.now _ c.requires.can.saved c.apply.ensures.keeps;
  room = search rules;
}

pub returns-then-not-has_rules-clause-relists : goal.returns-then-not-has_rules-clause-relists
returns-then-not-has_rules-clause-relists g c = record {
  same = search rules;
  stays = applied-stays _ _ c.args.self.now _ c.requires.can.saved c.apply.ensures.keeps;
  room = search rules;
}

pub returns-then-not-has_rules-clause-comes : goal.returns-then-not-has_rules-clause-comes
returns-then-not-has_rules-clause-comes g c =
    let y = c.args.engine.now.spec in
    let w = g.B.TermBank.store c.args.engine.now.bank in
    let w1 = g.B.TermBank.store c.apply.new.engine.bank in
    let a = c.args.self.now in
    let b : Tracer = record a { row = c.apply.new.self } in
    let at = goal.at.returns-then-not-has_rules-clause-comes g c in
    let mid = applied g at.In_ok-apply in
    let none = subst (λ z. (args : Trees) → next_match z 0 (application (name_of z (Symbol c.args.symbol)) args) ≡ None) c.apply.ensures.uses.same.spec
    (c.has_rules.ensures c.if-not-has_rules.true) in
    call-ends y w w1 w1 a b b _ _ mid.replaced.moves mid.replaced.stack refl
    (found-none y w1 b (application (name_of y (Symbol c.args.symbol)) (taken c.args.count (stack_at w a) Tree.none)) mid.replaced.order
    (ap (λ st. on_top st) mid.replaced.stack) (none (taken c.args.count (stack_at w a) Tree.none)))

pub find-requires : goal.find-requires
find-requires g c =
    let w1 = g.B.TermBank.store c.apply.new.engine.bank in
    let b : Tracer = record c.args.self.now { row = c.apply.new.self } in
    let mid = applied g (goal.at.find-requires g c).In_ok-apply in
    record { top = record { order = subst (λ z. IsInOrder z w1 b) (sym c.apply.ensures.uses.same.spec) mid.replaced.order; some = mid.reach } }

pub returns-in_err-rule-clause-relists : goal.returns-in_err-rule-clause-relists
returns-in_err-rule-clause-relists g c = record {
  same = search rules;
  stays = stays-trans (applied-stays _ _ c.args.self.now _ c.requires.can.saved c.apply.ensures.keeps) c.find.ensures.relists.stays;
  room = search rules;
}

pub fire-requires-clause-can : goal.fire-requires-clause-can
fire-requires-clause-can g c =
    let y = c.args.engine.now.spec in
    let w1 = g.B.TermBank.store c.apply.new.engine.bank in
    let w2 = g.B.TermBank.store c.find.new.engine.bank in
    let a = c.args.self.now in
    let b : Tracer = record a { row = c.apply.new.self } in
    let d = c.find.new.self in
    let at = goal.at.fire-requires-clause-can g c in
    let same = c.find.ensures.relists.same.spec ∙ c.apply.ensures.uses.same.spec in
    let bound = subst (λ z. IsBound z w2 d c.in-Rule.rule d.bind.items) c.apply.ensures.uses.same.spec
    (c.in_ok-rule.ensures.bound c.in-Rule.rule c.in-Rule.is) in
    subst (λ z. CanSpread z w2 d.row c.in-Rule.rule d.bind.items (λ r. HasSide r Contractum)) (sym same)
    (can-fire y w1 w2 b d (first_rule y (Eval y) y.rules b.left (on_top (stack_at w1 b))) c.in-Rule.rule (applied g at.In_ok-apply).reach
    (finding g at.In_ok-rule (found.Rule c.in-Rule.rule) c.in-Rule.is) bound)

pub returns-in_err-redex-in-Rule-clause-relists : goal.returns-in_err-redex-in-Rule-clause-relists
returns-in_err-redex-in-Rule-clause-relists g c = record {
  same = search rules;
  stays = subst (λ (s : Saved). Stays (g.B.TermBank.store c.args.engine.now.bank) (g.B.TermBank.store c.find.new.engine.bank)
      c.args.self.now.saved.list s.list) (sym c.fire.ensures.saved)
      (stays-trans (applied-stays _ _ c.args.self.now _ c.requires.can.saved c.apply.ensures.keeps) c.find.ensures.relists.stays);
  room = search rules;
}

pub returns-in_ok-redex-in-Rule-clause-relists : goal.returns-in_ok-redex-in-Rule-clause-relists
returns-in_ok-redex-in-Rule-clause-relists g c = record {
  same = search rules;
  stays = subst (λ (s : Saved). Stays (g.B.TermBank.store c.args.engine.now.bank) (g.B.TermBank.store c.find.new.engine.bank)
      c.args.self.now.saved.list s.list) (sym c.fire.ensures.saved)
      (stays-trans (applied-stays _ _ c.args.self.now _ c.requires.can.saved c.apply.ensures.keeps) c.find.ensures.relists.stays);
  room = search rules;
}

pub returns-in_ok-redex-in-Rule-clause-comes : goal.returns-in_ok-redex-in-Rule-clause-comes
returns-in_ok-redex-in-Rule-clause-comes g c =
    let y = c.args.engine.now.spec in
    let w = g.B.TermBank.store c.args.engine.now.bank in
    let w1 = g.B.TermBank.store c.apply.new.engine.bank in
    let w2 = g.B.TermBank.store c.find.new.engine.bank in
    let a = c.args.self.now in
    let b : Tracer = record a { row = c.apply.new.self } in
    let d = c.find.new.self in
    let at = goal.at.returns-in_ok-redex-in-Rule-clause-comes g c in
    let mid = applied g at.In_ok-apply in
    let here = finding g at.In_ok-rule (found.Rule c.in-Rule.rule) c.in-Rule.is in
    let bound = subst (λ z. IsBound z w2 d c.in-Rule.rule d.bind.items) c.apply.ensures.uses.same.spec
    (c.in_ok-rule.ensures.bound c.in-Rule.rule c.in-Rule.is) in
    let fires = subst (λ z. (r : Rule) (s : Substitution) → IsMatch z c.in-Rule.rule (held_tree w2 (top_of d.row)) r s
    → HasValues w2 (top_of d.row) d.bind.items s → HasFired z w2 w2 d c.fire.new.self r s c.in_ok-redex-in-Rule.redex)
    (c.find.ensures.relists.same.spec ∙ c.apply.ensures.uses.same.spec) c.in_ok-redex-in-Rule.ensures.fires in
    call-fires y w w1 w2 a b d _ _ mid.replaced.moves mid.replaced.stack refl w2 c.fire.new.self c.in-Rule.rule c.in_ok-redex-in-Rule.redex d.bind.items
    here bound (top-here w2 d (same-reach y w1 w2 b d here.3 mid.reach)) fires

pub returns-in-Nothing-clause-relists : goal.returns-in-Nothing-clause-relists
returns-in-Nothing-clause-relists g c = record {
  same = search rules;
  stays = stays-trans (applied-stays _ _ c.args.self.now _ c.requires.can.saved c.apply.ensures.keeps) c.find.ensures.relists.stays;
  room = search rules;
}

pub returns-in-Nothing-clause-comes : goal.returns-in-Nothing-clause-comes
returns-in-Nothing-clause-comes g c =
    let a = c.args.self.now in
    let at = goal.at.returns-in-Nothing-clause-comes g c in
    let mid = applied g at.In_ok-apply in
    call-ends c.args.engine.now.spec (g.B.TermBank.store c.args.engine.now.bank) (g.B.TermBank.store c.apply.new.engine.bank)
    (g.B.TermBank.store c.find.new.engine.bank) a (record a { row = c.apply.new.self }) c.find.new.self _ _ mid.replaced.moves mid.replaced.stack refl
    (finding g at.In_ok-rule found.Nothing c.in-Nothing.is)

pub returns-in-Limit-clause-relists : goal.returns-in-Limit-clause-relists
returns-in-Limit-clause-relists g c = record {
  same = search rules;
  stays = stays-trans (applied-stays _ _ c.args.self.now _ c.requires.can.saved c.apply.ensures.keeps) c.find.ensures.relists.stays;
  room = search rules;
}

pub returns-in-Limit-clause-comes : goal.returns-in-Limit-clause-comes
returns-in-Limit-clause-comes g c =
    let a = c.args.self.now in
    let at = goal.at.returns-in-Limit-clause-comes g c in
    let mid = applied g at.In_ok-apply in
    call-over c.args.engine.now.spec (g.B.TermBank.store c.args.engine.now.bank) (g.B.TermBank.store c.apply.new.engine.bank)
    (g.B.TermBank.store c.find.new.engine.bank) a (record a { row = c.apply.new.self }) c.find.new.self _ _ mid.replaced.moves mid.replaced.stack refl
    (finding g at.In_ok-rule found.Limit c.in-Limit.is)

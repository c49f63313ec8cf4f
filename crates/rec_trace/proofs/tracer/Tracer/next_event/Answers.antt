use Rattle.std.proofs.Common.{◌≡◌, ◌<◌, ◌++◌, ◌∷◌, [], ap, arith, length, refl, reverse, subst, sym, vec_len, ◌∙◌}
use Rattle.std.specs.Prelude.{None, Option, Some, Vec}
use Rattle.std.specs.declared.alloc.Global.{Global}
use Rattle.rec_sorts.specs.Numbering.{name_of}
use Rattle.rec_sorts.specs.declared.letters.Meaning.TheVariants.{Symbol}
use Rattle.rec_trace.specs.Inner.Turns.{CanCall, ComesTo}
use Rattle.rec_trace.specs.declared.row.Step.{Step}
use Rattle.rec_trace.specs.declared.row.Step.TheVariants as step
use Rattle.rec_trace.specs.declared.tracer.Event.{Event}
use Rattle.rec_trace.specs.declared.tracer.Event.TheVariants as event
use Rattle.rec_trace.specs.declared.tracer.Tracer.{Tracer}
use Rattle.rec_trace.proofs.ListLemmas.{same_both, stays-trans}
use Rattle.rec_trace.proofs.RunLemmas.{as-many}
use Rattle.rec_trace.proofs.SpreadLemmas.{pushed-step}
use Rattle.rec_trace.proofs.StepLemmas.{IsCalling, event-since, is-calling, no-item, some-value-left, step-comes, step-ends, step-gives, step-value, trace-more}
use Rattle.rec_trace.proofs.TopLemmas.{is-top}
use Rattle.rec_trace.proofs.TurnLemmas.{given, given-last}
use Rattle.rec_trace.proofs.tracer.Tracer.next_event.Given as given
use Rattle.rec_trace.proofs.tracer.Tracer.next_event.Goals.{In-Invoke, In_ok-event-in-Invoke}
use Rattle.rec_trace.proofs.tracer.Tracer.next_event.Goals as goal

-- a tracer with these steps
abbrev over : Tracer → Vec Step Global → Tracer
over a steps = record a { row = record a.row { steps = steps } }

-- a symbol is called
calling : (g : given.Over) (c : In-Invoke g)
    → let a = c.turns.self in
    IsCalling c.args.engine.now.spec (g.B.TermBank.store c.turns.engine.bank) a (over a c.pop.new.self)
    c.in-Invoke.symbol c.in-Invoke.count
calling g c =
    let a = c.turns.self in
    let b = over a c.pop.new.self in
    is-calling c.args.engine.now.spec (g.B.TermBank.store c.turns.engine.bank) a b c.in-Invoke.symbol c.in-Invoke.count c.turns.invariant.trace.stands.order
    (pushed-step a.row.steps.items c.pop.new.self.items (step.Invoke c.in-Invoke.symbol c.in-Invoke.count)
    (c.in-Some.ensures.items ∙ ap (λ x. c.pop.new.self.items ++ x ∷ []) c.in-Invoke.is)) refl refl refl

-- and what it comes to
comes : (g : given.Over) (c : In_ok-event-in-Invoke g) (o : Option Event) → c.in_ok-event-in-Invoke.field-0 ≡ o
    → let y = c.args.engine.now.spec in
    let a = c.turns.self in
    let b = over a c.pop.new.self in
    ComesTo y (g.B.TermBank.store c.turns.engine.bank) (g.B.TermBank.store c.call.new.engine.bank) b c.call.new.self
    (name_of y (Symbol c.in-Invoke.symbol)) c.in-Invoke.count o
comes g c o is =
    let y = c.args.engine.now.spec in
    let w1 = g.B.TermBank.store c.turns.engine.bank in
    let w2 = g.B.TermBank.store c.call.new.engine.bank in
    let a = c.turns.self in
    let b = over a c.pop.new.self in
    let d = c.call.new.self in
    let all = subst (λ z. ComesTo z w1 w2 b d (name_of z (Symbol c.in-Invoke.symbol)) c.in-Invoke.count c.in_ok-event-in-Invoke.field-0)
    c.turns.invariant.same.spec c.in_ok-event-in-Invoke.ensures.comes in
    subst (ComesTo y w1 w2 b d (name_of y (Symbol c.in-Invoke.symbol)) c.in-Invoke.count) is all

pub turns-preserved-in-Continue-1 : goal.turns-preserved-in-Continue-1
turns-preserved-in-Continue-1 g c =
    let y = c.args.engine.now.spec in
    let w = g.B.TermBank.store c.args.engine.now.bank in
    let w1 = g.B.TermBank.store c.turns.engine.bank in
    let a = c.turns.self in
    let i = c.turns.invariant in
    let t = c.in-Give.value in
    let popped = pushed-step a.row.steps.items c.pop.new.self.items (step.Give t)
    (c.in-Some.ensures.items ∙ ap (λ x. c.pop.new.self.items ++ x ∷ []) c.in-Give.is) in
    let turned = popped ∙ ap (λ (z : Vec Step Global). step.Give t ∷ reverse z.items) (sym c.give.ensures.steps) in
    let d : Tracer = record a { row = c.give.new.self } in
    record {
      same = i.same;
      stays = i.stays;
      trace = trace-more y w w1 w1 c.args.self.now a d i.trace (step-gives y w1 a d t i.trace.stands
          (given y w1 a d t i.trace.stands.order turned c.in_ok-give-in-Give.ensures.values c.give.ensures.low refl refl));
    }

pub turns-preserved-in-Continue-branch-2 : goal.turns-preserved-in-Continue-branch-2
turns-preserved-in-Continue-branch-2 g c =
    let y = c.args.engine.now.spec in
    let w = g.B.TermBank.store c.args.engine.now.bank in
    let w1 = g.B.TermBank.store c.turns.engine.bank in
    let a = c.turns.self in
    let i = c.turns.invariant in
    let t = c.in-GiveLast.value in
    let at = c.in-GiveLast.at in
    let lowers = c.in_ok-give_last-in-GiveLast.ensures.low in
    let popped = pushed-step a.row.steps.items c.pop.new.self.items (step.GiveLast t at)
    (c.in-Some.ensures.items ∙ ap (λ x. c.pop.new.self.items ++ x ∷ []) c.in-GiveLast.is) in
    let turned = popped ∙ ap (λ (z : Vec Step Global). step.GiveLast t at ∷ reverse z.items) (sym c.give_last.ensures.steps) in
    let d : Tracer = record a { row = c.give_last.new.self } in
    record {
      same = i.same;
      stays = i.stays;
      trace = trace-more y w w1 w1 c.args.self.now a d i.trace (step-gives y w1 a d t i.trace.stands
          (given-last y w1 a d t at i.trace.stands.order turned c.in_ok-give_last-in-GiveLast.ensures.values
          (record { low = lowers.low; within = lowers.within; values = lowers.values }) refl refl));
    }

pub call-requires : goal.call-requires
call-requires g c =
    let w1 = g.B.TermBank.store c.turns.engine.bank in
    let i = c.turns.invariant in
    let b = over c.turns.self c.pop.new.self in
    let h = calling g (goal.at.call-requires g c).In-Invoke in
    record {
      can = subst (λ z. CanCall z w1 b c.in-Invoke.symbol c.in-Invoke.count) (sym i.same.spec)
          (record { good = i.trace.stands.order.good; row = h.row; saved = h.saved });
    }

pub turns-preserved : goal.turns-preserved
turns-preserved g c =
    let y = c.args.engine.now.spec in
    let w1 = g.B.TermBank.store c.turns.engine.bank in
    let w2 = g.B.TermBank.store c.call.new.engine.bank in
    let a = c.turns.self in
    let b = over a c.pop.new.self in
    let d = c.call.new.self in
    let i = c.turns.invariant in
    let at = goal.at.turns-preserved g c in
    record {
      same = same_both i.same c.call.ensures.relists.same;
      stays = stays-trans i.stays c.call.ensures.relists.stays;
      trace = trace-more y (g.B.TermBank.store c.args.engine.now.bank) w1 w2 c.args.self.now a d i.trace
          (step-ends y w1 w2 a b d c.in-Invoke.symbol c.in-Invoke.count i.trace.stands refl
          (calling g at.In-Invoke) (comes g at.In_ok-event-in-Invoke None c.in_default-2.is));
    }

pub turns-smaller : goal.turns-smaller
turns-smaller g c =
    let y = c.args.engine.now.spec in
    let a = c.turns.self in
    let b = over a c.pop.new.self in
    let d = c.call.new.self in
    let ended = comes g (goal.at.turns-smaller g c).In_ok-event-in-Invoke None c.in_default-2.is in
    let many = as-many y (g.B.TermBank.store c.turns.engine.bank) b in
    let many' = as-many y (g.B.TermBank.store c.call.new.engine.bank) d in
    let same = ap length ended.2 in
    let fewer = c.in-Some.ensures.len in
    let first = c.pop.new.self.ok.0 in
    let second = d.row.steps.ok.0 in
    let less : vec_len d.row.steps < vec_len a.row.steps = omega (arith, many, many', same, fewer, first, second) in
    less

pub returns-in-Some-2-clause-stands : goal.returns-in-Some-2-clause-stands
returns-in-Some-2-clause-stands g c =
    let y = c.args.engine.now.spec in
    let w1 = g.B.TermBank.store c.turns.engine.bank in
    let w2 = g.B.TermBank.store c.call.new.engine.bank in
    let a = c.turns.self in
    let b = over a c.pop.new.self in
    let d = c.call.new.self in
    let i = c.turns.invariant in
    let at = goal.at.returns-in-Some-2-clause-stands g c in
    (step-comes y w1 w2 a b d c.in-Invoke.symbol c.in-Invoke.count i.trace.stands refl (calling g at.In-Invoke)
    c.in-Some-2.event (comes g at.In_ok-event-in-Invoke (Some c.in-Some-2.event) c.in-Some-2.is)).1

pub returns-in-Some-2-clause-event : goal.returns-in-Some-2-clause-event
returns-in-Some-2-clause-event g c =
    let y = c.args.engine.now.spec in
    let w1 = g.B.TermBank.store c.turns.engine.bank in
    let w2 = g.B.TermBank.store c.call.new.engine.bank in
    let a = c.turns.self in
    let b = over a c.pop.new.self in
    let d = c.call.new.self in
    let i = c.turns.invariant in
    let at = goal.at.returns-in-Some-2-clause-event g c in
    event-since y (g.B.TermBank.store c.args.engine.now.bank) w1 w2 c.args.self.now a d c.in-Some-2.event i.trace
    (step-comes y w1 w2 a b d c.in-Invoke.symbol c.in-Invoke.count i.trace.stands refl (calling g at.In-Invoke)
    c.in-Some-2.event (comes g at.In_ok-event-in-Invoke (Some c.in-Some-2.event) c.in-Some-2.is)).0

pub returns-clause-event : goal.returns-clause-event
returns-clause-event g c =
    let y = c.args.engine.now.spec in
    let w = g.B.TermBank.store c.args.engine.now.bank in
    let w1 = g.B.TermBank.store c.turns.engine.bank in
    let a = c.turns.self in
    let i = c.turns.invariant in
    let t = c.top-term.result in
    let none_left = c.in_default.ensures.cases.0 in
    let counted = a.row.steps.ok.0 in
    let empty = no-item a.row.steps.items (omega (arith, none_left, counted)) in
    let some = some-value-left y w1 a i.trace.stands empty in
    event-since y w w1 w1 c.args.self.now a a (event.Value t) i.trace
    (step-value y w1 a t i.trace.stands empty (is-top y w1 a t i.trace.stands.order some c.top-term.ensures))

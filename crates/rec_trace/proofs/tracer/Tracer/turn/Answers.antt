use Rattle.std.proofs.Common.{◌++◌, ◌∷◌, [], ap, refl, reverse, sym, ◌∙◌}
use Rattle.std.specs.Prelude.{Vec}
use Rattle.std.specs.declared.alloc.Global.{Global}
use Rattle.rec_sorts.specs.Evaluation.{Call}
use Rattle.rec_trace.specs.declared.row.Step.{Step}
use Rattle.rec_trace.specs.declared.row.Step.TheVariants as step
use Rattle.rec_trace.proofs.SpreadLemmas.{pushed-step}
use Rattle.rec_trace.proofs.TurnLemmas.{given, given-last, given-turns}
use Rattle.rec_trace.proofs.tracer.Tracer.turn.Goals as goal

pub returns-in_ok-give-in-Give-clause-turns : goal.returns-in_ok-give-in-Give-clause-turns
returns-in_ok-give-in-Give-clause-turns g c =
    let y = c.args.engine.now.spec in
    let w = g.B.TermBank.store c.args.engine.now.bank in
    let a = c.args.self.now in
    let t = c.in-Give.value in
    let popped = pushed-step a.row.steps.items c.pop.new.self.items (step.Give t)
    (c.in-Some.ensures.items ∙ ap (λ x. c.pop.new.self.items ++ x ∷ []) c.in-Give.is) in
    let turned = popped ∙ ap (λ (z : Vec Step Global). step.Give t ∷ reverse z.items) (sym c.give.ensures.steps) in
    given-turns (Call y) y w a (record a { row = c.give.new.self }) t
    (given y w a (record a { row = c.give.new.self }) t c.requires.order turned c.in_ok-give-in-Give.ensures.values c.give.ensures.low refl refl)

pub returns-in_ok-give_last-in-GiveLast-clause-turns : goal.returns-in_ok-give_last-in-GiveLast-clause-turns
returns-in_ok-give_last-in-GiveLast-clause-turns g c =
    let y = c.args.engine.now.spec in
    let w = g.B.TermBank.store c.args.engine.now.bank in
    let a = c.args.self.now in
    let t = c.in-GiveLast.value in
    let at = c.in-GiveLast.at in
    let lowers = c.in_ok-give_last-in-GiveLast.ensures.low in
    let popped = pushed-step a.row.steps.items c.pop.new.self.items (step.GiveLast t at)
    (c.in-Some.ensures.items ∙ ap (λ x. c.pop.new.self.items ++ x ∷ []) c.in-GiveLast.is) in
    let turned = popped ∙ ap (λ (z : Vec Step Global). step.GiveLast t at ∷ reverse z.items) (sym c.give_last.ensures.steps) in
    given-turns (Call y) y w a (record a { row = c.give_last.new.self }) t
    (given-last y w a (record a { row = c.give_last.new.self }) t at c.requires.order turned c.in_ok-give_last-in-GiveLast.ensures.values
    (record { low = lowers.low; within = lowers.within; values = lowers.values }) refl refl)

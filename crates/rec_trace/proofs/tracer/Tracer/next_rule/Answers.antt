use Rattle.std.proofs.Common.{subst}
use Rattle.rec_match.specs.Next.{Answers}
use Rattle.rec_trace.proofs.BoundLemmas.{bound-of-answer, number-of-answer}
use Rattle.rec_trace.proofs.TopLemmas.{is-top}
use Rattle.rec_trace.proofs.tracer.Tracer.next_rule.Goals as goal

pub returns-in-Ok-clause-bound : goal.returns-in-Ok-clause-bound
returns-in-Ok-clause-bound g c =
    let y = c.args.engine.now.spec in
    let w = g.B.TermBank.store c.args.engine.now.bank in
    let t = c.args.self.now in
    let top = is-top y w t c.top-redex.result c.requires.top.order c.requires.top.some c.top-redex.ensures in
    let answers = subst (λ b. Answers (g.B.TermBank.store b) c.matcher.result.now c.top-redex.result c.args.from c.next_on-found.new.bind.items c.in-Ok.rule)
    c.bank.ensures c.in-Ok.ensures.answers in
    bound-of-answer y w t c.top-redex.result c.args.from c.next_on-found.new.bind.items c.in-Ok.rule top (answers y c.matcher.ensures)

pub returns-in-Ok-clause-found : goal.returns-in-Ok-clause-found
returns-in-Ok-clause-found g c =
    let y = c.args.engine.now.spec in
    let w = g.B.TermBank.store c.args.engine.now.bank in
    let t = c.args.self.now in
    let top = is-top y w t c.top-redex.result c.requires.top.order c.requires.top.some c.top-redex.ensures in
    let answers = subst (λ b. Answers (g.B.TermBank.store b) c.matcher.result.now c.top-redex.result c.args.from c.next_on-found.new.bind.items c.in-Ok.rule)
    c.bank.ensures c.in-Ok.ensures.answers in
    number-of-answer y w t c.top-redex.result c.args.from c.next_on-found.new.bind.items c.in-Ok.rule top (answers y c.matcher.ensures)

use Rattle.std.proofs.Common.{refl, Bool, subst}
use Rattle.rx_term.specs.Store.{tree_at}
use Rattle.rx_term.proofs.StoreLemmas.{some-value}
use Rattle.rx_pattern.specs.Held.{Binds}
use Rattle.rx_pattern.specs.Matching.{matching}
use Rattle.rx_run.proofs.PatternLineLemmas.{bound_held, no_due, yes_due}
use Rattle.rx_run.proofs.pattern.answer.match_term.Goals as goal

pub returns-in-Ok-true-clause-due : goal.returns-in-Ok-true-clause-due
returns-in-Ok-true-clause-due g c = λ u e.
    let w = g.B.TermBank.store c.matches.new.bank in
    let out = c.matches.new.out.items in
    yes_due w (matching c.args.pattern.now u) out (subst (λ (b : Bool). Binds w (matching c.args.pattern.now u) out b) c.in-Ok-true.field-0-test
    (c.in-Ok-true.ensures.answer u e))

pub returns-in-Ok-true-clause-held : goal.returns-in-Ok-true-clause-held
returns-in-Ok-true-clause-held g c =
    let w = g.B.TermBank.store c.matches.new.bank in
    let out = c.matches.new.out.items in
    let u = some-value (tree_at (g.B.TermBank.store c.args.bank.now) c.args.t) c.requires in
    bound_held w (matching c.args.pattern.now u.0) out (subst (λ (b : Bool). Binds w (matching c.args.pattern.now u.0) out b)
    c.in-Ok-true.field-0-test (c.in-Ok-true.ensures.answer u.0 u.1))

pub returns-in-Ok-false-clause-due : goal.returns-in-Ok-false-clause-due
returns-in-Ok-false-clause-due g c = λ u e.
    let w = g.B.TermBank.store c.matches.new.bank in
    let out = c.matches.new.out.items in
    no_due w (matching c.args.pattern.now u) out (subst (λ (b : Bool). Binds w (matching c.args.pattern.now u) out b) c.in-Ok-false.field-0-test
    (c.in-Ok-false.ensures.answer u e))

pub returns-in-Err-Full-clause-fault : goal.returns-in-Err-Full-clause-fault
returns-in-Err-Full-clause-fault g c =
    (refl, record { full = rw c.in-Err-Full.field-0-is at c.in-Err-Full.ensures.refused; grows = c.in-Err-Full.ensures.grows })

use Rattle.std.proofs.Common.{refl, Err, ap, is_some, sym, ◌∙◌}
use Rattle.rx_pattern.specs.Filling.{filling}
use Rattle.rx_run.specs.TermRuns.{due_at, term_line}
use Rattle.rx_run.specs.PatternRuns.{made_due}
use Rattle.rx_term.proofs.WalkLemmas.{trees_from-AllHeld}
use Rattle.rx_run.proofs.PatternTermLemmas.{made_here}
use Rattle.rx_run.proofs.pattern.answer.make_of_elements.Goals as goal

pub returns-in-Ok-clause-due : goal.returns-in-Ok-clause-due
returns-in-Ok-clause-due g c = λ ts h.
    let u = c.in-Ok.ensures.made ts h in
    made_here (g.B.TermBank.store c.make.new.bank) c.in-Ok.t u.0 (filling c.args.pattern.now ts) u.1 u.2

pub returns-in-Ok-clause-held : goal.returns-in-Ok-clause-held
returns-in-Ok-clause-held g c =
    let ts = trees_from-AllHeld (g.B.TermBank.store c.args.bank.now) c.args.args.now c.requires in
    let u = c.in-Ok.ensures.made ts.0 ts.1 in
    ap is_some u.2

pub returns-in-Err-Kind-clause-due : goal.returns-in-Err-Kind-clause-due
returns-in-Err-Kind-clause-due g c = λ ts h.
    let wrong = (c.in-Err-Kind.ensures.kind ts h c.in-Err-Kind.field-0-0).0 (ap Err c.in-Err-Kind.field-0-is) in
    ap (due_at term_line (g.B.TermBank.store c.make.new.bank)) c.refused-in-Err-Kind.ensures ∙ ap made_due (sym wrong)

pub returns-in-Err-Full-clause-fault : goal.returns-in-Err-Full-clause-fault
returns-in-Err-Full-clause-fault g c =
    (refl, record { full = c.in-Err-Full.ensures.full (ap Err c.in-Err-Full.field-0-is); grows = c.in-Err-Full.ensures.grows })

use Rattle.std.proofs.Common.{Err, ap, refl, subst, sym}
use Rattle.rx_text.specs.Verdict.{Outside, Spelt}
use Rattle.rx_run.specs.TermRuns.{IsReadingOf}
use Rattle.rx_run.proofs.term.reading.parse.Goals as goal

pub returns-in-Ok-clause-read : goal.returns-in-Ok-clause-read
returns-in-Ok-clause-read g c = let u = c.in-Ok.ensures.spelt in (Spelt u.0, (u.0, u.1, refl), u.2)

pub returns-in-Err-Grammar-clause-read : goal.returns-in-Err-Grammar-clause-read
returns-in-Err-Grammar-clause-read g c =
    let at = c.in-Err-Grammar.at in
    let w = g.B.TermBank.store c.read.new.bank in (
      Outside at,
      subst (λ r. IsReadingOf c.args.source w r (Outside at)) (sym c.refused-in-Err-Grammar.ensures) refl,
      c.in-Err-Grammar.ensures.outside at (ap Err c.in-Err-Grammar.field-0-is),
    )

pub returns-in-Err-Full-clause-fault : goal.returns-in-Err-Full-clause-fault
returns-in-Err-Full-clause-fault g c =
    (refl, record { full = c.in-Err-Full.ensures.full (ap Err c.in-Err-Full.field-0-is); grows = c.in-Err-Full.ensures.grows })

use Rattle.std.proofs.Common.{Err, ap, refl, subst, sym, ◌∙◌}
use Rattle.rx_term.specs.Store.{tree_at}
use Rattle.rx_term.proofs.StoreLemmas.{some-value}
use Rattle.rx_text.specs.Verdict.{Outside, Spelt}
use Rattle.rx_run.specs.Readings.{IsReadingOfTable}
use Rattle.rx_run.proofs.term.reading.parse_table.Goals as goal

pub returns-in-Ok-clause-read : goal.returns-in-Ok-clause-read
returns-in-Ok-clause-read g c =
    let r = c.in-Ok.ensures.read in
    let u = some-value (tree_at (g.B.TermBank.store c.read_table.new.bank) c.in-Ok.term) c.in-Ok.ensures.held in
    (Spelt r.0, (r.0, (u.0, refl, sym r.2 ∙ u.1, u.1)), r.1)

pub returns-in-Err-Grammar-clause-read : goal.returns-in-Err-Grammar-clause-read
returns-in-Err-Grammar-clause-read g c =
    let at = c.in-Err-Grammar.at in
    let w = g.B.TermBank.store c.read_table.new.bank in (
      Outside at,
      subst (λ r. IsReadingOfTable c.args.source w r (Outside at)) (sym c.refused-in-Err-Grammar.ensures) refl,
      c.in-Err-Grammar.ensures.outside at (ap Err c.in-Err-Grammar.field-0-is),
    )

pub returns-in-Err-NotTable-clause-read : goal.returns-in-Err-NotTable-clause-read
returns-in-Err-NotTable-clause-read g c =
    let t = c.in-Err-NotTable.ensures.not_table (ap Err c.in-Err-NotTable.field-0-is) in
    let w = g.B.TermBank.store c.read_table.new.bank in
    (Spelt t.0, subst (λ r. IsReadingOfTable c.args.source w r (Spelt t.0)) (sym c.refused-in-Err-NotTable.ensures) (refl, t.2), t.1)

pub returns-in-Err-Element-clause-read : goal.returns-in-Err-Element-clause-read
returns-in-Err-Element-clause-read g c =
    let t = c.in-Err-Element.ensures.element c.in-Err-Element.number (ap Err c.in-Err-Element.field-0-is) in
    let w = g.B.TermBank.store c.read_table.new.bank in
    (Spelt t.0, subst (λ r. IsReadingOfTable c.args.source w r (Spelt t.0)) (sym c.refused-in-Err-Element.ensures) (refl, (t.2, t.3)), t.1)

pub returns-in-Err-Full-clause-fault : goal.returns-in-Err-Full-clause-fault
returns-in-Err-Full-clause-fault g c =
    (refl, record { full = c.in-Err-Full.ensures.full (ap Err c.in-Err-Full.field-0-is); grows = c.in-Err-Full.ensures.grows })

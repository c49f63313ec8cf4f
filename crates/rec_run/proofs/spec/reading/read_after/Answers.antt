use Rattle.std.proofs.Common.{subst}
use Rattle.rec_syntax.specs.Syntax.{Sourced}
use Rattle.rec_run.specs.GivenTerms.{IsRefusal}
use Rattle.rec_run.specs.Reading.{IsSpecReading}
use Rattle.rx_run.specs.declared.refusal.Reading.{Reading}
use Rattle.rec_run.proofs.GivenDueLemmas.{refused_first}
use Rattle.rec_run.proofs.spec.reading.read_after.Goals as goal

pub returns-in-Refused-clause-read : goal.returns-in-Refused-clause-read
returns-in-Refused-clause-read g c = refused_first c.args.form (g.B.TermBank.store c.args.bank.now) c.in-Refused.refusal c.args.first _ c.in-Refused.is

pub returns-in-Good-clause-read : goal.returns-in-Good-clause-read
returns-in-Good-clause-read g c = rw c.in-Good.is c.read_terms.ensures.read

pub returns-in-Good-clause-unread : goal.returns-in-Good-clause-unread
returns-in-Good-clause-unread g c = λ v is refused.
    absurd (subst IsRefusal (subst (λ (z : Reading Sourced). IsSpecReading z v) c.in-Good.is is) refused)

pub returns-in-Good-clause-unused : goal.returns-in-Good-clause-unused
returns-in-Good-clause-unused g c = λ v is refused.
    absurd (subst IsRefusal (subst (λ (z : Reading Sourced). IsSpecReading z v) c.in-Good.is is) refused)

pub returns-in-Good-clause-refused : goal.returns-in-Good-clause-refused
returns-in-Good-clause-refused g c = λ v is refused.
    absurd (subst IsRefusal (subst (λ (z : Reading Sourced). IsSpecReading z v) c.in-Good.is is) refused)

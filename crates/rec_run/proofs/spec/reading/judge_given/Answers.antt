use Rattle.std.proofs.Common.{subst, sym}
use Rattle.rec_run.specs.GivenTerms.{IsReady, IsTermsRead}
use Rattle.rec_run.proofs.GivenDueLemmas.{job_ready}
use Rattle.rec_run.proofs.spec.reading.judge_given.Goals as goal

pub returns-in_ok-reading-in-Some-clause-read : goal.returns-in_ok-reading-in-Some-clause-read
returns-in_ok-reading-in-Some-clause-read g c =
    let w = g.B.TermBank.store c.judge_terms.new.bank in
    let reading = c.in_ok-reading-in-Some.reading in
    rw c.in-Some.is (
      reading,
      subst (λ text. IsTermsRead c.args.form c.args.checked.spec w text reading) c.deref.ensures.value
          c.in_ok-reading-in-Some.ensures.verdict,
      c.job_from.ensures,
    )

pub returns-in_ok-reading-in-Some-clause-ready : goal.returns-in_ok-reading-in-Some-clause-ready
returns-in_ok-reading-in-Some-clause-ready g c =
    let w = g.B.TermBank.store c.judge_terms.new.bank in
    subst (IsReady w) (sym c.job_from.ensures) (job_ready w c.args.checked c.in_ok-reading-in-Some.reading c.in_ok-reading-in-Some.ensures.holds)

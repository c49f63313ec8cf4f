use Rattle.rec_run.proofs.PlacedLemmas.{told_ok}
use Rattle.rec_run.proofs.shorthand.run_at.Goals as goal

pub returns-in-Some-clause-terms_read : goal.returns-in-Some-clause-terms_read
returns-in-Some-clause-terms_read g c =
    rw c.in-Some.is (told_ok c.run_beside-end.result c.finish_at-in-Some.result c.finish_at-in-Some.ensures.ends _ c.run_beside-end.ensures.terms_read)

pub returns-in-Some-clause-unread : goal.returns-in-Some-clause-unread
returns-in-Some-clause-unread g c = rw c.in-Some.is c.run_beside-end.ensures.unread

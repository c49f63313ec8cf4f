use Rattle.rec_run.proofs.shorthand.run.Goals as goal

pub returns-in-Some-clause-terms_read : goal.returns-in-Some-clause-terms_read
returns-in-Some-clause-terms_read g c = rw c.in-Some.is c.run_at-in-Some.ensures.terms_read

pub returns-in-Some-clause-unread : goal.returns-in-Some-clause-unread
returns-in-Some-clause-unread g c = rw c.in-Some.is c.run_at-in-Some.ensures.unread

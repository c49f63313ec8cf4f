use Rattle.rec_check.proofs.calls.Search.first_fit.Given as goal

abbrev pub decreases-loop-tries : goal.decreases-loop-tries
decreases-loop-tries l = l.tries

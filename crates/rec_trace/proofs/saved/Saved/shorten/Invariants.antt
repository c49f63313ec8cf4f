use Rattle.std.proofs.Common.{◌-◌}
use Rattle.rec_trace.proofs.SavedLemmas.{IsStale}
use Rattle.rec_trace.proofs.saved.Saved.shorten.Given as goal

abbrev pub invariant-stale : goal.invariant-stale
invariant-stale g l = IsStale (g.B.TermBank.store l.engine.bank) l.self l.count l.list l.left

abbrev pub decreases-stale : goal.decreases-stale
decreases-stale g l = l.left - l.count

use Rattle.std.proofs.Common.{◌-◌}
use Rattle.rec_engine.specs.Engine.{SameEngine}
use Rattle.rec_trace.proofs.SavedLemmas.{IsSaving}
use Rattle.rec_trace.proofs.saved.Saved.lengthen.Given as goal

abbrev pub invariant-values : goal.invariant-values
invariant-values g l = SameEngine l.initial.engine l.engine × IsSaving (g.B.TermBank.store l.initial.engine.bank) (g.B.TermBank.store l.engine.bank)
    l.initial.self l.self l.initial.values.items l.values.items l.count

abbrev pub decreases-values : goal.decreases-values
decreases-values g l = l.count - l.self.count

use Rattle.std.proofs.Common.{◌≡◌, ◌++◌, length}
use Rattle.std.specs.Vec.Iter.{into_iter_items, into_iter_len}
use Rattle.rec_check.specs.Findings.{as_diagnostics}
use Rattle.rec_check.specs.Silenced.{unsilenced}
use Rattle.rec_check.proofs.silenced.unsilenced.Given as goal

-- the warnings so far were taken, and those that are not silenced were kept
abbrev pub invariant-loop-warning : goal.invariant-loop-warning
invariant-loop-warning l = (l.yielded ++ into_iter_items l.warning-iterator ≡ into_iter_items l.initial.warning-iterator)
    × (as_diagnostics l.kept.items ≡ unsilenced l.text (as_diagnostics l.yielded))
    × (into_iter_len l.warning-iterator ≡ length (into_iter_items l.warning-iterator))

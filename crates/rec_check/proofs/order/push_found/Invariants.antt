use Rattle.std.proofs.Common.{◌≡◌, ◌++◌, take}
use Rattle.rec_check.specs.Named.{as_words}
use Rattle.rec_check.specs.Findings.{as_diagnostics, found_at}
use Rattle.rec_check.proofs.order.push_found.Given as goal

abbrev pub invariant-loop-word : goal.invariant-loop-word
invariant-loop-word l = as_diagnostics l.found.items ≡ as_diagnostics l.initial.found.items ++ found_at l.kind (as_words (take l.word-index l.words))

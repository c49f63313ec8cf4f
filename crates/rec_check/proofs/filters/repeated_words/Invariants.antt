use Rattle.std.proofs.Common.{◌≡◌, ◌++◌, drop}
use Rattle.std.specs.Prelude.{is_some}
use Rattle.rec_check.specs.Named.{as_words}
use Rattle.rec_check.specs.Lookups.{number_in}
use Rattle.rec_sorts.specs.Lookup.{repeated}
use Rattle.rec_check.proofs.LookupLemmas.{repeated_by}
use Rattle.rec_check.proofs.filters.repeated_words.Given as goal

abbrev pub invariant-loop-word : goal.invariant-loop-word
invariant-loop-word l = as_words l.found.items ++ repeated_by (λ name. is_some (number_in l.names name))
    (as_words (drop l.word-index l.words)) ≡ repeated (as_words l.before) (as_words l.words)

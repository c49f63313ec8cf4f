use Rattle.std.proofs.Common.{◌≡◌, take}
use Rattle.std.specs.Prelude.{filter}
use Rattle.std.specs.Prelude.{is_some}
use Rattle.rec_check.specs.Named.{as_words}
use Rattle.rec_check.specs.Lookups.{number_in}
use Rattle.rec_check.proofs.filters.present_words.Given as goal

abbrev pub invariant-loop-word : goal.invariant-loop-word
invariant-loop-word l = as_words l.found.items ≡ filter (λ w. is_some (number_in l.known w.bytes)) (as_words (take l.word-index l.words))

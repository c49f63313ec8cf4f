use Rattle.std.proofs.Common.{◌≡◌, take}
use Rattle.std.specs.Prelude.{ℕ, List}
use Rattle.rec_check.specs.Named.{as_words}
use Rattle.rec_check.specs.Lookups.{number_in}
use Rattle.rec_sorts.specs.Names.{first_at}
use Rattle.rec_check.proofs.names.Names.of.Given as goal

abbrev pub invariant-loop-i : goal.invariant-loop-i
invariant-loop-i l = (name : List ℕ) → number_in l.names name ≡ first_at (as_words (take l.i l.words)) name

use Rattle.std.proofs.Common.{ℕ, List}
use Rattle.rec_check.specs.declared.names.Key.{Key}
use Rattle.rec_check.proofs.names.Names.give.Goals as goal

-- a key of these bytes
abbrev key : List ℕ → Key
key name = record { bytes = record { ref_ptr = (0, 0); now = name } }

pub returns : goal.returns
returns c = λ other. c.in_ok-insert.ensures.updates.0 (key other)

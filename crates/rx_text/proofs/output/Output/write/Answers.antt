use Rattle.std.proofs.Common.{arith}
use Rattle.rx_text.proofs.AppendingLemmas.{keeps_taken}
use Rattle.rx_text.proofs.output.Output.write.Goals as goal
use Rattle.rx_text.proofs.output.Output.write.Goals.{in_default-via-in-Ok+else-count-gt0, in_default-via-in_default}

pub returns-in_default-clause-bytes : goal.returns-in_default-clause-bytes
returns-in_default-clause-bytes g c = elim c.in_default.branch [
  | in_default-via-in-Ok+else-count-gt0 w ↦ keeps_taken _ _ _ _ (omega arith) w.in-Ok.ensures.bytes
  | in_default-via-in_default w ↦ w.in_default.ensures.bytes
]

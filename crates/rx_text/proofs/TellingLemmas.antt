-- A fault that is no refusal of the writer.
use Rattle.std.proofs.Common.{Result, Ok, Err, refl}
use Rattle.std.specs.Prelude.{IsOkUnless}
use Rattle.rx_text.specs.declared.faults.WriteFault.{WriteFault}
use Rattle.rx_text.specs.declared.faults.WriteFault.TheVariants.{Memory}
use Rattle.rx_text.specs.declared.output.Output.{Output}
use Rattle.rx_text.specs.Output.{ReportsFault}

-- if memory runs out the writer is as it was
pub reports_memory : {W T : Type 0} (o : Output W) (r : Result T WriteFault) → IsOkUnless r Memory → ReportsFault o o r
reports_memory o (Ok x) h = (refl, refl)
reports_memory o (Err e) h = (refl, rw h refl)

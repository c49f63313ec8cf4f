-- The errors of requests that are not read.
use Rattle.std.specs.Prelude.{Option, Some, None}
use Rattle.rx_term.specs.declared.faults.BankFault.{BankFault}
use Rattle.rx_term.specs.declared.faults.BankFault.TheVariants as bank
use Rattle.rx_run.specs.declared.ending.RunFault.{RunFault}
use Rattle.rx_run.specs.declared.ending.RunFault.TheVariants as run
use Rattle.rx_run.specs.declared.refusal.Reason.{Reason}
use Rattle.rx_run.specs.declared.refusal.Reason.TheVariants as reason
use Rattle.rec_engine.specs.declared.engine.errors.EngineFault.{EngineFault}
use Rattle.rec_engine.specs.declared.engine.errors.EngineFault.TheVariants.{Memory, Room}
use Rattle.rec_serve.specs.declared.ending.Refusal.{Refusal}
use Rattle.rec_serve.specs.declared.ending.Refusal.TheVariants as refusal

-- the error if the store in which a request is read makes no term
abbrev pub of_store : BankFault → EngineFault
of_store bank.Memory = Memory
of_store bank.Full = Room

-- the reason why a request is rejected, from the error of its text; the texts of requests have no
-- other error
abbrev pub of_reason : Reason → Option Refusal
of_reason reason.Long = Some refusal.Long
of_reason (reason.Outside at) = Some (refusal.Outside at)
of_reason reason.NotTable = Some refusal.NotTable
of_reason (reason.Element number) = Some (refusal.Element number)
of_reason _ = None

-- the error of a request whose text was not read: `Memory` or `Room`
abbrev pub of_input : RunFault → EngineFault
of_input (run.Memory lines) = Memory
of_input (run.Room lines) = Room
of_input (run.Deep lines) = Memory
of_input run.Read = Memory
of_input run.Write = Memory

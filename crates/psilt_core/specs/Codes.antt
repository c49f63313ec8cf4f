-- The numbers of errors, and the errors of term stores.
use Rattle.std.specs.Prelude.{ℕ, ◌==◌, [], ◌∷◌, get_or, Result, Ok, Err, if◌then◌else◌}
use Rattle.rx_term.specs.declared.Term.{Term}
use Rattle.rx_term.specs.declared.faults.BankFault.{BankFault}
use Rattle.rx_term.specs.declared.faults.BankFault.TheVariants as bank
use Rattle.psilt_core.specs.declared.fault.Fault.{Fault}
use Rattle.psilt_core.specs.declared.fault.Fault.TheVariants.{Memory, Full, Closed, Stale, Kind}
use Rattle.psilt_core.specs.declared.fault.Fault.TheVariants.{Syntax, Range, Name, Roots}
use Rattle.psilt_core.specs.declared.fault.Fault.TheVariants.{Unprotected, Open, Rule, Limit}
use Rattle.psilt_core.specs.declared.fault.Fault.TheVariants.{Unspecified, Unmatched, Unknown}
use Rattle.psilt_core.specs.declared.fault.Fault.TheVariants.{Interrupted}

-- number_of e: the number of an error
abbrev pub number_of : Fault → ℕ
number_of Memory = 1
number_of Full = 2
number_of Closed = 3
number_of Stale = 4
number_of Kind = 5
number_of Syntax = 6
number_of Range = 7
number_of Name = 8
number_of Roots = 9
number_of Unprotected = 10
number_of Open = 11
number_of Rule = 12
number_of Limit = 13
number_of Unspecified = 14
number_of Unmatched = 15
number_of Unknown = 16
number_of Interrupted = 17

-- code_of r: the number of a result, 0 for success
abbrev pub code_of : {X : Type 0} → Result X Fault → ℕ
code_of (Ok x) = 0
code_of (Err e) = number_of e

-- fault_at n: the error with the number n, from 1 to 17; no error has another number
abbrev pub fault_at : ℕ → Fault
fault_at n = get_or (Closed ∷ Memory ∷ Full ∷ Closed ∷ Stale ∷ Kind ∷ Syntax ∷ Range ∷ Name ∷ Roots
    ∷ Unprotected ∷ Open ∷ Rule ∷ Limit ∷ Unspecified ∷ Unmatched ∷ Unknown
    ∷ Interrupted ∷ []) n Closed

-- told code x: the result that a code and a written value stand for
abbrev pub told : {X : Type 0} → ℕ → X → Result X Fault
told code x = if code == 0 then Ok x else Err (fault_at code)

-- fault_of e: the error of the library for an error of the term store
abbrev pub fault_of : BankFault → Fault
fault_of bank.Memory = Memory
fault_of bank.Full = Full

-- made_of r: the result of the library for that of a constructor of the term store
abbrev pub made_of : Result Term BankFault → Result Term Fault
made_of (Ok t) = Ok t
made_of (Err e) = Err (fault_of e)

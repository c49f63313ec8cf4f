-- The state of the reader and the writer after a run. A stream has failed exactly if it had failed
-- before, or if its error is returned.
use Rattle.std.specs.Prelude.{◌≡◌, ◌||◌, Bool, false, true, Result, Ok, Err}
use Rattle.rx_text.specs.Input.{IsSameInput}
use Rattle.rx_text.specs.Output.{IsSameOutput}
use Rattle.rx_text.specs.declared.input.Input.{Input}
use Rattle.rx_text.specs.declared.output.Output.{Output}
use Rattle.rx_run.specs.declared.ending.RunFault.{RunFault}
use Rattle.rx_run.specs.declared.ending.RunFault.TheVariants as fault

-- is_read f: whether the error comes from the reader
abbrev pub is_read : RunFault → Bool
is_read (fault.Memory lines) = false
is_read (fault.Room lines) = false
is_read (fault.Deep lines) = false
is_read fault.Read = true
is_read fault.Write = false

-- is_write f: whether the error comes from the writer
abbrev pub is_write : RunFault → Bool
is_write (fault.Memory lines) = false
is_write (fault.Room lines) = false
is_write (fault.Deep lines) = false
is_write fault.Read = false
is_write fault.Write = true

-- returns is_such r: whether such an error is returned
abbrev pub returns : {T : Type 0} → (RunFault → Bool) → Result T RunFault → Bool
returns is_such (Ok x) = false
returns is_such (Err f) = is_such f

-- ReportsRead old new r: the input is the same, and it has failed if it had failed before or its
-- error is returned
abbrev pub ReportsRead : {R T : Type 0} → Input R → Input R → Result T RunFault → Type 0
ReportsRead old new r = IsSameInput old new × (new.refused ≡ (returns is_read r || old.refused))

-- ReportsWrite old new r: the output is the same, and it has failed if it had failed before or its
-- error is returned
abbrev pub ReportsWrite : {W T : Type 0} → Output W → Output W → Result T RunFault → Type 0
ReportsWrite old new r = IsSameOutput old new × (new.refused ≡ (returns is_write r || old.refused))

-- ReportsBoth: `ReportsRead` and `ReportsWrite` hold
abbrev pub ReportsBoth : {R W T : Type 0} → Input R → Input R → Output W → Output W
    → Result T RunFault → Type 0
ReportsBoth old new old' new' r = ReportsRead old new r × ReportsWrite old' new' r

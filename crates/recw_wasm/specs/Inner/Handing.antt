-- How the end of a run is passed to the host.
use Rattle.std.specs.Prelude.{◌≡◌, ◌<◌, ℕ, List, Option, length, option_map, take}
use Rattle.rx_run.specs.declared.ending.Finish.{Finish}
use Rattle.rx_run.specs.declared.ending.Finish.TheVariants.{Done, Refused}
use Rattle.rx_run.specs.declared.ending.Place.{Place}
use Rattle.rx_run.specs.declared.ending.RunFault.{RunFault}
use Rattle.rx_run.specs.declared.ending.RunFault.TheVariants as fault
use Rattle.recw_wasm.specs.Answers.{IsUntold, told_place}
use Rattle.recw_wasm.specs.declared.told.Told.{Told}

-- the lines and the offset of a run that ended were passed on, or the buffer was too short
pub record IsHanded (finish : Finish) (lines : List ℕ) (place : Option Place) (status : ℕ)
    (told : Told) (old new : List ℕ) : Type 0 where
  pub long : told.length ≡ length lines
  pub placed : told_place told ≡ option_map (λ p. p.at) place
  pub done : status ≡ 0 → finish ≡ Done
  pub refused : status ≡ 1 → finish ≡ Refused
  pub written : status < 2 → take told.length new ≡ lines
  pub short : status ≡ 2 → length old < told.length
  pub kept : 1 < status → new ≡ old
  pub known : status < 3

-- the status of an error: 4 if cells ran out, and otherwise 3
abbrev pub fault_number : RunFault → ℕ
fault_number (fault.Memory lines) = 3
fault_number (fault.Room lines) = 4
fault_number (fault.Deep lines) = 3
fault_number fault.Read = 3
fault_number fault.Write = 3

-- a run failed with this error, and nothing was passed on
pub record IsWithheld (fault : RunFault) (status : ℕ) (told : Told) (old new : List ℕ) : Type 0 where
  pub kept : new ≡ old
  pub numbered : status ≡ fault_number fault
  pub untold : IsUntold told

-- What holds of a run's end, of how it ended and of the place of its refusal.
use Rattle.std.proofs.Common.{◌≡◌, ℕ, List, Option, None, Result, Ok, Err, IfErr, IfOk, OnErr, OnOk, sym, subst}
use Rattle.rx_run.specs.Due.{Due}
use Rattle.rx_run.specs.Run.{ConcludesFor, EndsFor, IsNotDeep, IsPlacedFor}
use Rattle.rx_run.specs.declared.ending.Finish.{Finish}
use Rattle.rx_run.specs.declared.ending.Place.{Place}
use Rattle.rx_run.specs.declared.ending.RunFault.{RunFault}
use Rattle.rec_run.specs.declared.spec.due.RunReport.{RunReport}
use Rattle.rx_run.proofs.WholeRunLemmas.{ends_so, placed_so}
use Rattle.rec_run.specs.Depth.{IsBounded, finish_told, place_told}
use Rattle.rec_run.specs.Run.{HasRoom}
use Rattle.rec_run.proofs.DepthLemmas.{unlimited}
use Rattle.rec_run.proofs.GivenDueLemmas.{refused_map}

module _ (end : Result RunReport RunFault) (r : Result Finish RunFault) (e : r ≡ finish_told end) where
  -- all was written
  pub told_ok : (P : Type 0) → OnOk end P → OnOk r P
  told_ok P h = subst (λ z. OnOk z P) (sym e) (by end h)
    where
      by : (end : Result RunReport RunFault) → OnOk end P → OnOk (finish_told end) P
      by (Ok report) h = h
      by (Err f) h = tt

  -- a fault
  pub told_fault : (P : RunFault → Type 0) → IfErr end P → IfErr r P
  told_fault P h = subst (λ z. IfErr z P) (sym e) (by end h)
    where
      by : (end : Result RunReport RunFault) → IfErr end P → IfErr (finish_told end) P
      by (Ok report) h = tt
      by (Err f) h = h

  pub told_room : IfErr end HasRoom → IfErr r HasRoom
  told_room h = subst (λ z. IfErr z HasRoom) (sym e) (by end h)
    where
      by : (end : Result RunReport RunFault) → IfErr end HasRoom → IfErr (finish_told end) HasRoom
      by (Ok report) h = tt
      by (Err f) h = h

  -- no depth limit was given
  pub told_depth : IfErr end (IsBounded None) → IfErr r IsNotDeep
  told_depth h = subst (λ z. IfErr z IsNotDeep) (sym e) (by end h)
    where
      by : (end : Result RunReport RunFault) → IfErr end (IsBounded None) → IfErr (finish_told end) IsNotDeep
      by (Ok report) h = tt
      by (Err f) h = unlimited f h

  -- its texts
  module _ {T : Type 0} (IsDue : T → Due → Type 0) (texts : Option T) (old new : Option (List ℕ)) where
    pub told_ends : IfOk end (λ report. ConcludesFor IsDue texts report.ending old new) → IfOk r (λ finish. EndsFor IsDue texts finish old new)
    told_ends h = subst (λ z. IfOk z (λ finish. EndsFor IsDue texts finish old new)) (sym e) (by end h)
      where
        by : (end : Result RunReport RunFault) → IfOk end (λ report. ConcludesFor IsDue texts report.ending old new)
            → IfOk (finish_told end) (λ finish. EndsFor IsDue texts finish old new)
        by (Ok report) h = ends_so IsDue texts report.ending old new h
        by (Err f) h = tt

    pub told_placed : (place : Option Place) → place ≡ place_told end → IfOk end (λ report. ConcludesFor IsDue texts report.ending old new)
        → OnOk r (IsPlacedFor IsDue texts place)
    told_placed place same h = subst (λ z. OnOk z (IsPlacedFor IsDue texts place)) (sym e) (by end same h)
      where
        by : (end : Result RunReport RunFault) → place ≡ place_told end → IfOk end (λ report. ConcludesFor IsDue texts report.ending old new)
            → OnOk (finish_told end) (IsPlacedFor IsDue texts place)
        by (Ok report) same h = subst (IsPlacedFor IsDue texts) (sym same) (placed_so IsDue texts report.ending old new h)
        by (Err f) same h = tt

  -- nothing was refused
  pub told_unplaced : (place : Option Place) → place ≡ place_told end → OnErr r (place ≡ None)
  told_unplaced place same = subst (λ z. OnErr z (place ≡ None)) (sym e) (by end same)
    where
      by : (end : Result RunReport RunFault) → place ≡ place_told end → OnErr (finish_told end) (place ≡ None)
      by (Ok report) same = tt
      by (Err f) same = same

pub ruleset told_steps = (told_ok, told_fault, told_room, told_depth, told_ends, told_placed, told_unplaced, refused_map)

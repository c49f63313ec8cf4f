-- The lines of selected rewrites.
use Rattle.std.proofs.Common.{ap, ◌∙◌}
use Rattle.std.proofs.lemmas.List.{map-append}
use Rattle.std.proofs.lemmas.List.Elements.{filter-append}
use Rattle.std.specs.Prelude.{ℕ, ◌≡◌, List, ◌++◌, Option, filter, map}
use Rattle.rec_trace.specs.Trace.{Firing}
use Rattle.rec_trace_run.specs.Picks.{Picks, is_picked}
use Rattle.rec_trace_run.specs.Traces.{Shown, picked_lines, step_line}

-- the same picks with other bounds
abbrev pub bounded : Picks → Option ℕ → Option ℕ → Picks
bounded p first last = record { place = p.place; symbol = p.symbol; first = first; last = last }

module _ (source : List ℕ) (shown : Shown) (n : ℕ) where
  pub picked-append : (fs gs : List Firing) → picked_lines source shown n (fs ++ gs) ≡ picked_lines source shown n fs ++ picked_lines source shown n gs
  picked-append fs gs =
      ap (map (step_line source shown n)) (filter-append (is_picked source shown.picked) fs gs)
      ∙ map-append (step_line source shown n) (filter (is_picked source shown.picked) fs) (filter (is_picked source shown.picked) gs)

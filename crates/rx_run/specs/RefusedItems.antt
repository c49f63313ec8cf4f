-- Why arguments do not fit a pattern.
use Rattle.std.specs.Prelude.{List, Option, Some, None, Ok, Err, length}
use Rattle.std.specs.Option.{option_and_then}
use Rattle.rx_term.specs.Tree.{Tree}
use Rattle.rx_text.specs.Verdict.{Verdict, Spelt}
use Rattle.rx_pattern.specs.Filling as filling
use Rattle.rx_pattern.specs.Filling.{Kinds, filling, blanks}
use Rattle.rx_run.specs.PatternRuns.{elements}
use Rattle.rx_run.specs.declared.refused_items.Misfit.{Misfit}
use Rattle.rx_run.specs.declared.refused_items.Misfit.TheVariants.{Count, Kind}

-- misfit_of p ts: why these trees do not fit: their number, or the first one that its placeholder
-- does not accept; `None` if they fit
abbrev pub misfit_of : Tree → List Tree → Option Misfit
misfit_of p ts = elim (filling p ts) [
  | Ok t ↦ None
  | Err filling.Count ↦ Some (Count (length (blanks p)) (length ts))
  | Err (Kinds at) ↦ Some (Kind at)
]

-- misfit_among p found: why the elements do not fit; `None` if there is no list of elements
abbrev pub misfit_among : Tree → Option (List Tree) → Option Misfit
misfit_among p found = option_and_then (misfit_of p) found

-- misfit_in p v: why the arguments do not fit; `None` if their text spells no tree
abbrev pub misfit_in : Tree → Verdict → Option Misfit
misfit_in p (Spelt t) = misfit_among p (elements t)
misfit_in p v = None

-- The specified result of a run: its end, its output, and the location of an error. Contracts
-- compare runs with it.
use Rattle.std.specs.Prelude.{ℕ, Option, None, Bool, true, false, List, [], ◌++◌, codes, decimal}
use Rattle.rx_run.specs.declared.ending.Finish.{Finish}
use Rattle.rx_run.specs.declared.ending.Finish.TheVariants as finish
use Rattle.rx_run.specs.declared.ending.Place.{Place}

-- finish: done or rejected; text: all bytes that the run writes; place: the location of the error,
-- if it has one
pub record Due : Type 0 where
  pub finish : Finish
  pub text : List ℕ
  pub place : Option Place

-- done text: the run is done and writes `text`
abbrev pub done : List ℕ → Due
done text = record { finish = finish.Done; text = text; place = None }

-- refused word name place: an input is rejected, and the run writes one line: `word` and the error
-- code `name`
abbrev pub refused : List ℕ → List ℕ → Option Place → Due
refused word name place =
    record { finish = finish.Refused; text = word ++ name ++ codes "\n"; place = place }

-- steps_text counted n: a tab and the decimal `n` if `counted` is true, otherwise nothing
abbrev pub steps_text : Bool → ℕ → List ℕ
steps_text false steps = []
steps_text true steps = codes "\t" ++ decimal steps

-- A property of the specified output.
use Rattle.std.specs.Prelude.{◌≡◌, ℕ, List, Option}
use Rattle.rx_run.specs.Due.{Due}
use Rattle.rec_run.specs.Output.{Shown, IsDue}

-- OneDue: a text of a specification and a text of input terms, if any, have at most one specified
-- output
abbrev pub OneDue : Type 0
OneDue = (spec : List ℕ) (terms : Option (List ℕ)) (shown : Shown) (n : ℕ) (d e : Due)
    → IsDue spec terms shown n d → IsDue spec terms shown n e → d ≡ e

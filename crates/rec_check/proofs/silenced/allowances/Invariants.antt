use Rattle.std.proofs.Common.{◌≡◌, List, ℕ, length}
use Rattle.std.specs.Prelude.{◌||◌}
use Rattle.rec_check.specs.Inner.Allowances.{allowed, has_allowance}
use Rattle.rec_check.proofs.silenced.allowances.Given as goal

-- the comments so far are known
abbrev pub invariant-loop-first : goal.invariant-loop-first
invariant-loop-first l = (phrase : List ℕ) → allowed l.names phrase || has_allowance l.rest phrase ≡ has_allowance l.text phrase

abbrev pub decreases-loop-first : goal.decreases-loop-first
decreases-loop-first l = length l.rest

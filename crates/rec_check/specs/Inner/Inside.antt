-- Findings inside left-hand sides, in postorder.
use Rattle.std.specs.Prelude.{ℕ, List, flat_map}
use Rattle.rec_syntax.specs.Syntax.{Spec, arguments}
use Rattle.rec_check.specs.Findings.{Found, never_matching_in}
use Rattle.rec_check.specs.Rewriting.{postorder_all}

-- never_matching_inside text y: the arguments of left-hand sides that are rewritten first, rule by
-- rule
abbrev pub never_matching_inside : List ℕ → Spec → List Found
never_matching_inside text y =
    flat_map (λ r. never_matching_in text y (postorder_all (arguments r.left))) y.rules

use Rattle.std.proofs.Common.{◌≡◌, ◌+◌, drop}
use Rattle.std.specs.Option.{option_map}
use Rattle.rec_match.specs.Leaves.{number_position}
use Rattle.rec_match.proofs.leaves.position.Given as goal

abbrev pub invariant-loop-i : goal.invariant-loop-i
invariant-loop-i l = number_position l.numbers l.number ≡ option_map (λ k. l.i + k) (number_position (drop l.i l.numbers) l.number)

use Rattle.std.proofs.Common.{◌≡◌, ◌<◌, ◌++◌, [], length, drop}
use Rattle.std.specs.Option.{option_map}
use Rattle.std.specs.Prelude.{All}
use Rattle.rec_match.specs.Leaves.{code_places}
use Rattle.rec_match.specs.Placed.{ArePlaces}
use Rattle.rec_match.proofs.parts.Parts.value_places.Given as goal

abbrev pub invariant-loop-code : goal.invariant-loop-code
invariant-loop-code l = record {
  given : ArePlaces l.variables.items (length l.fn.given.of.items) l.given;
  within : All (λ v. v < length l.fn.given.of.items) l.variables.items;
  places : code_places l.self [] l.codes ≡ option_map (λ es. l.places.items ++ es) (code_places l.self l.variables.items (drop l.code-index l.codes));
}

use Rattle.std.proofs.Common.{◌≡◌, ◌≤◌, ◌++◌, [], drop, length}
use Rattle.std.specs.Option.{option_map}
use Rattle.rec_match.specs.Leaves.{code_places}
use Rattle.rec_match.proofs.parts.Parts.place.Given as goal

abbrev pub invariant-loop-code : goal.invariant-loop-code
invariant-loop-code l = record {
  few : length l.variables.items ≤ l.code-index;
  same : option_map (λ es. l.fn.places.items ++ es) (code_places l.self [] l.codes) ≡ option_map (λ es. l.places.items ++ es)
      (code_places l.self l.variables.items (drop l.code-index l.codes));
}

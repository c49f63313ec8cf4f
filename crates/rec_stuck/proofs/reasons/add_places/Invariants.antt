use Rattle.std.proofs.Common.{◌≡◌, ◌++◌, drop}
use Rattle.rec_stuck.specs.Stuck.{places_behind}
use Rattle.rec_stuck.proofs.reasons.add_places.Given as goal

-- with those that are left the text is whole
abbrev pub invariant-loop-spot : goal.invariant-loop-spot
invariant-loop-spot l = record {
  text : l.text.items ++ places_behind (drop l.spot-index l.spots) ≡ l.fn.text.items ++ places_behind l.spots;
}

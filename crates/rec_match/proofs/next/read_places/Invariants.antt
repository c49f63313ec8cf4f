use Rattle.std.proofs.Common.{◌≡◌, ◌≤◌, ◌+◌, ◌-◌, ◌++◌, length, map, take}
use Rattle.rec_match.specs.Forests.{value_in}
use Rattle.rec_match.proofs.next.read_places.Given as goal

abbrev pub invariant-loop-place : goal.invariant-loop-place
invariant-loop-place l = record {
  read : l.bind.items ≡ l.fn.bind.items ++ map (value_in 0 l.work) (take l.place-index l.places);
  room : length l.bind.items + (length l.places - l.place-index) ≤ l.bind.capacity;
}

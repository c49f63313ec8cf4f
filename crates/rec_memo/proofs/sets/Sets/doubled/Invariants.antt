use Rattle.std.proofs.Common.{◌≡◌, ◌<◌, ◌*◌, ℕ, length}
use Rattle.rec_memo.specs.Sets.{look_up, place_of}
use Rattle.rec_memo.proofs.sets.Sets.doubled.Given as goal

-- two sets for each before this one, which answer what that did
abbrev pub invariant-loop-place : goal.invariant-loop-place
invariant-loop-place l = record {
  count : l.count ≡ 2 * l.fn.self.count;
  len : length l.sets.items ≡ 2 * l.place;
  same : (k : ℕ) → place_of l.count k < 2 * l.place
      → look_up l.sets.items l.count k ≡ look_up l.fn.self.sets.items l.fn.self.count k;
}

use Rattle.std.proofs.Common.{◌≡◌, ◌≢◌, ◌<◌, ◌≤◌, ℕ, false, None}
use Rattle.std.specs.Prelude.{vec_len}
use Rattle.rec_memo.specs.Sets.{look_up, place_of, block_of, held_pair}
use Rattle.rec_memo.proofs.sets.Sets.retain_in.Given as goal

-- of the block's sets before this one the held pairs are left, of all others all
abbrev pub invariant-loop-place : goal.invariant-loop-place
invariant-loop-place g l = record {
  len : vec_len l.self.sets ≡ vec_len l.fn.self.sets;
  count : l.self.count ≡ l.fn.self.count;
  held : (k : ℕ) → block_of (place_of l.self.count k) ≡ l.block → place_of l.self.count k < l.place
      → look_up l.self.sets.items l.self.count k ≡ held_pair (g.B.TermBank.store l.bank) k (look_up l.fn.self.sets.items l.fn.self.count k);
  as_before : (k : ℕ) → l.place ≤ place_of l.self.count k → look_up l.self.sets.items l.self.count k ≡ look_up l.fn.self.sets.items l.fn.self.count k;
  others : (k : ℕ) → block_of (place_of l.self.count k) ≢ l.block → look_up l.self.sets.items l.self.count k ≡ look_up l.fn.self.sets.items l.fn.self.count k;
  free : l.left ≡ false → (k : ℕ) → block_of (place_of l.self.count k) ≡ l.block → place_of l.self.count k < l.place
      → look_up l.self.sets.items l.self.count k ≡ None;
}

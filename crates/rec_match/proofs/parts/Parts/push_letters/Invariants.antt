use Rattle.std.proofs.Common.{ℕ, List, drop, length}
use Rattle.rec_match.specs.Pushed.{CanPush, Pushed, counts_of}
use Rattle.rec_match.specs.declared.parts.Parts.{Parts}
use Rattle.rec_match.proofs.parts.Parts.push_letters.Given as goal

abbrev pub invariant-loop-letter : goal.invariant-loop-letter
invariant-loop-letter l = record {
  can : CanPush (length l.stack.items) (counts_of (drop l.letter-index l.letters));
  pushed : (qs : Parts) (out : List ℕ) → Pushed l.self l.stack.items (drop l.letter-index l.letters) qs out
      → Pushed l.fn.self l.fn.stack.items l.letters qs out;
}

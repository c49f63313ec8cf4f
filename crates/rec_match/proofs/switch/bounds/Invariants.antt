use Rattle.std.proofs.Common.{◌<◌, ◌≤◌, get_or, ℕ}
use Rattle.rec_match.specs.Forests.{number_at}
use Rattle.rec_match.specs.Matching.{numbers_of}
use Rattle.rec_match.proofs.switch.bounds.Given as goal

abbrev pub invariant-loop-symbol : goal.invariant-loop-symbol
invariant-loop-symbol l = record {
  least : (i d : ℕ) → i < l.symbol-index → l.low ≤ number_at (numbers_of l.links) (get_or l.symbols i d);
  greatest : (i d : ℕ) → i < l.symbol-index → number_at (numbers_of l.links) (get_or l.symbols i d) ≤ l.high;
}

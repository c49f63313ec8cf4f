use Rattle.std.proofs.Common.{ℕ, [], take}
use Rattle.rec_match.specs.Inner.Shares.{AreShares}
use Rattle.rec_match.specs.declared.parts.Parts.{Parts}
use Rattle.rec_match.proofs.shares.empty_shares.Given as goal

abbrev pub invariant-loop-symbol : goal.invariant-loop-symbol
invariant-loop-symbol l = (ps : Parts) (r base : ℕ) → AreShares ps r base (take l.symbol-index l.symbols) [] l.shares.items

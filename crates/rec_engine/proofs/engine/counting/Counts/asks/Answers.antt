use Rattle.std.proofs.Common.{ℕ, zero, suc, ◌<◌, ◌≡◌, false, arith}
use Rattle.std.specs.Prelude.{◌==◌, bit_and}
use Rattle.rec_engine.proofs.engine.counting.Counts.asks.Goals as goal

pub returns : goal.returns
returns c = by c.args.left
  where
    by : (n : ℕ) → (bit_and n c.args.self.now.mask == 0) ≡ false → 0 < n
    by zero e = absurd (cc e)
    by (suc n) e = omega arith

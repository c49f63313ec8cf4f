use Rattle.std.proofs.Common.{◌≡◌, ℕ, ◌%◌, ◌-◌, ◌*◌, ◌^◌, ◌<◌, ap, sym, ◌∙◌, arith, bit_and, w32}
use Rattle.std.specs.Int.{trailing_zeros}
use Rattle.std.proofs.Math.Nat.{mod-eq_of_lt}
use Rattle.std.proofs.Math.Pow.{pow-lt}
use Rattle.std.proofs.lemmas.Nat.{and_mask}
use Rattle.std.proofs.lemmas.Nat.Bits.{bit_at-trailing_zeros}
use Rattle.rx_arena.proofs.arena.home.Goals as goal

-- the low bits of a hash, below a power of two that is written as a shift of 1
low_bits : (hash n k : ℕ) → k < 32 → n ≡ 1 * 2 ^ k % 4294967296 → bit_and hash (n - 1) ≡ hash % n
low_bits hash n k lt shifted =
    let below = pow-lt {i = k} {j = 32} lt in
    let power : n ≡ 2 ^ k = shifted ∙ mod-eq_of_lt (omega (arith, below)) ∙ omega arith in
    ap (λ m. bit_and hash (m - 1)) power ∙ and_mask hash k ∙ ap (λ m. hash % m) (sym power)

pub returns-then-chains : goal.returns-then-chains
returns-then-chains c =
    let within = bit_at-trailing_zeros w32 c.args.chains c.requires c.ranges.chains.fits in
    ap (bit_and c.args.hash) c.from.ensures ∙ low_bits c.args.hash c.args.chains (trailing_zeros w32 c.args.chains) within.0 c.if-chains.true

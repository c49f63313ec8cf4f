use Rattle.std.proofs.Common.{refl, arith}
use Rattle.rx_arena.proofs.heads.mask_of.Goals as goal

pub returns-else-chains-gt0-clause-power : goal.returns-else-chains-gt0-clause-power
unfolding lib.Count.count_trailing_zeros
returns-else-chains-gt0-clause-power c = (omega arith, refl)

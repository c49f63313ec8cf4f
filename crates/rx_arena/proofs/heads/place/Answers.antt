use Rattle.std.proofs.Common.{sym, ◌∙◌, w32, ◌+◌}
use Rattle.std.specs.Int.{trailing_zeros}
use Rattle.rx_arena.proofs.HeadLemmas.{masked, few_bits, place_inside}
use Rattle.rx_arena.proofs.heads.place.Goals as goal

pub returns-then-chain-mask : goal.returns-then-chain-mask
returns-then-chain-mask c =
    masked c.args.mask c.args.factor (trailing_zeros w32 (c.args.mask + 1)) c.args.chain c.requires.1 (few_bits c.args.mask c.requires)
    ∙ sym (place_inside c.args.mask c.args.factor c.args.chain c.if-chain-mask.true)

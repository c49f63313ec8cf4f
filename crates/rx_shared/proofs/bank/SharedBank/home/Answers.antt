use Rattle.std.proofs.Common.{◌%◌, sym, ap, ◌∙◌}
use Rattle.rx_shared.proofs.PowerLemmas.{low_bits}
use Rattle.rx_shared.proofs.bank.SharedBank.home.Goals as goal

pub returns : goal.returns
returns c = let b = c.args.self.now in low_bits c.args.hash b.bits b.few ∙ ap (λ n. c.args.hash % n) (sym b.chained)

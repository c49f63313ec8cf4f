use Rattle.std.proofs.Common.{refl}
use Rattle.rx_plain.specs.Slots.{cell_of}
use Rattle.rx_plain.proofs.ReadingLemmas.{body-anns}
use Rattle.rx_plain.proofs.bank.PlainBankTermBank.anns.Goals as goal

pub returns : goal.returns
returns c = body-anns c.args.self.now c.args.t c.body.result.anns (cell_of c.body.result) c.body.ensures.holds refl c.requires

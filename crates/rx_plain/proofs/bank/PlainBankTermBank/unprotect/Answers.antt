use Rattle.rx_plain.specs.Inner.Soundness.{sound}
use Rattle.rx_plain.proofs.bank.PlainBankTermBank.unprotect.Goals as goal

pub roots-count-requires : goal.roots-count-requires
roots-count-requires c = (sound c.args.self.now).rooted_held c.args.t c.requires

pub set_roots-requires : goal.set_roots-requires
set_roots-requires c = (sound c.args.self.now).rooted_held c.args.t c.requires

use Rattle.std.proofs.Common.{subst, sym}
use Rattle.rx_shared.specs.State.{store_of}
use Rattle.rec_serve.specs.Inner.Banks.{IsEmptied}
use Rattle.rec_serve.proofs.ReasonLemmas.{emptied_new}
use Rattle.rec_serve.proofs.workspace.new_bank.Goals as goal

pub returns-in-Ok-new : goal.returns-in-Ok-new
returns-in-Ok-new c = subst (λ b. IsEmptied (store_of b) c.args.cells) (sym c.in-Ok-new.ensures.ok)
    (emptied_new (store_of c.in-Ok.bank) c.args.cells c.in-Ok.ensures.empty)

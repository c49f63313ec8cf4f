use Rattle.std.proofs.Common.{subst}
use Rattle.rx_term.specs.Steps.{MakesOrRefuses}
use Rattle.rx_plain.specs.Slots.{node_of, notes_of}
use Rattle.rx_plain.specs.State.{store_of}
use Rattle.rx_term.proofs.NoteLemmas.{annotated-cell}
use Rattle.rx_plain.proofs.bank.PlainBankTermBank.annotated.Goals as goal

pub returns : goal.returns
returns c =
    let e = annotated-cell (store_of c.args.self.now) (node_of c.body-body.result.shape) (notes_of c.body-body.result.anns)
    (notes_of c.notes-notes.result) c.args.t c.args.anns c.body-body.ensures.tree c.requires c.notes-notes.ensures in
    subst (λ o. MakesOrRefuses (store_of c.args.self.now) (store_of c.make.new.self) o c.make.result) e c.make.ensures

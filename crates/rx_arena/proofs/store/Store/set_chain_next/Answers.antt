use Rattle.std.proofs.Common.{◌<◌, length, List, IfSome, sym, subst}
use Rattle.std.specs.Prelude.{Option}
use Rattle.rx_arena.specs.Inner.Node.{Stored, cell_with_chain, IsLink}
use Rattle.rx_arena.proofs.AgreesLemmas.{agree-changed, link_to}
use Rattle.rx_arena.proofs.store.Store.set_chain_next.Goals as goal

pub invariant_of-self : goal.invariant_of-self
invariant_of-self _ c =
    let cells = c.self.inside.cells in let slot = c.place-at.result.slot in let next = c.target-target.result.slot in
    let below = subst (λ (cs : List (Option Stored)). IfSome c.args.next (λ t. t < length cs)) (sym c.self.view_is) c.requires.held.1 in
    let link : IsLink (length cells.slots) slot next = subst (λ s. IsLink (length cells.slots) s next) (sym c.place-at.ensures.0)
    (subst (IsLink (length cells.slots) c.args.slot) (sym c.target-target.ensures.0)
    (link_to (length cells.slots) c.args.slot c.args.next below c.requires.apart)) in
    agree-changed c.self.inside.alloc c.self.inside.blocks.items cells c.set_chain.new.self slot (cell_with_chain next) c.self.invariant
    c.set_chain.ensures.blocks c.set_chain.ensures.slots (λ m h. link)

use Rattle.std.proofs.Common.{◌≡◌, sym, subst, ◌∙◌, arith}
use Rattle.rx_arena.specs.Inner.Node.{node_at, is_protected_node}
use Rattle.rx_arena.specs.Inner.Held.{IsHeld}
use Rattle.rx_arena.specs.Inner.Tables.{nodes_of}
use Rattle.rx_arena.proofs.PutLemmas.{within_some}
use Rattle.rx_arena.proofs.TableLemmas.{told-length, told-at}
use Rattle.rx_arena.proofs.slots.Slots.is_protected.Goals as goal

pub index-requires : goal.index-requires
index-requires c =
    let ns = nodes_of c.self.inside.marks.items c.self.inside.nexts c.self.inside.cells in
    let h = (subst (λ z. IsHeld z c.args.slot) (sym c.self.view_is) c.requires) in
    let lt = within_some ns c.args.slot h.0 h.1 in
    let e = told-length is_protected_node c.self.inside.protected.items ns c.self.inside.told in
    let len = c.self.inside.protected.ok.0 in
    omega (arith, lt, e, len)

pub returns : goal.returns
returns c =
    let ns = nodes_of c.self.inside.marks.items c.self.inside.nexts c.self.inside.cells in
    let h = (subst (λ z. IsHeld z c.args.slot) (sym c.self.view_is) c.requires) in
    subst (λ z. c.index.result.now ≡ is_protected_node (node_at z c.args.slot)) c.self.view_is
    (c.index.ensures ∙ told-at is_protected_node c.self.inside.protected.items ns c.self.inside.told c.args.slot c.index.result.now
    (within_some ns c.args.slot h.0 h.1))

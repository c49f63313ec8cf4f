use Rattle.std.proofs.Common.{◌≡◌, IfSome, sym, subst}
use Rattle.rx_arena.specs.Inner.Node.{node_at}
use Rattle.rx_arena.specs.Inner.Held.{IsHeld}
use Rattle.rx_arena.specs.Inner.Tables.{nodes_of}
use Rattle.rx_arena.proofs.TableLemmas.{held-within, next-at}
use Rattle.rx_arena.proofs.slots.Slots.next.Goals as goal

pub get-requires : goal.get-requires
get-requires c = (held-within c.self.inside.marks.items c.self.inside.nexts c.self.inside.cells c.self.invariant c.args.slot
    (subst (λ z. IsHeld z c.args.slot) (sym c.self.view_is) c.requires)).1

pub returns : goal.returns
returns c =
    subst (λ z. IfSome (node_at z c.args.slot) (λ n. c.get.result ≡ n.next)) c.self.view_is
    (subst (λ t. IfSome (node_at (nodes_of c.self.inside.marks.items c.self.inside.nexts c.self.inside.cells) c.args.slot) (λ n. t ≡ n.next))
    (sym c.get.ensures)
    (next-at c.self.inside.marks.items c.self.inside.nexts c.self.inside.cells c.self.invariant c.args.slot))

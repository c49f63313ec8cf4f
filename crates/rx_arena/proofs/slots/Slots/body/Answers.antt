use Rattle.std.proofs.Common.{◌≡◌, IfSome, sym, subst}
use Rattle.rx_arena.specs.Inner.Node.{Stored, Node, node_at}
use Rattle.rx_arena.specs.Inner.Held.{IsHeld}
use Rattle.rx_arena.proofs.TableLemmas.{held-nodes, shown-nodes}
use Rattle.rx_arena.proofs.slots.Slots.body.Goals as goal

pub body-requires : goal.body-requires
body-requires c = held-nodes c.self.inside.marks.items c.self.inside.nexts c.self.inside.cells c.self.invariant c.args.slot
    (subst (λ z. IsHeld z c.args.slot) (sym c.self.view_is) c.requires)

pub returns : goal.returns
returns c = let Q = λ (n : Node). c.body.result ≡ n.body in
    subst (λ z. IfSome (node_at z c.args.slot) Q) c.self.view_is
    (shown-nodes c.self.inside.marks.items c.self.inside.nexts c.self.inside.cells c.self.invariant c.args.slot (λ (m : Stored).
    c.body.result ≡ m.body) Q (λ m e. e) c.body.ensures)

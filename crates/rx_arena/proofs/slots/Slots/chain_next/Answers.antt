use Rattle.std.proofs.Common.{◌≡◌, IfSome, sym, subst}
use Rattle.rx_arena.specs.Inner.Node.{Stored, Node, node_at}
use Rattle.rx_arena.specs.Inner.Held.{IsHeld}
use Rattle.rx_arena.proofs.TableLemmas.{held-nodes, shown-nodes, chain-nodes}
use Rattle.rx_arena.proofs.slots.Slots.chain_next.Goals as goal

pub chain_next-requires : goal.chain_next-requires
chain_next-requires c = let at = sym c.self.view_is in (
  held-nodes c.self.inside.marks.items c.self.inside.nexts c.self.inside.cells c.self.invariant c.args.slot
      (subst (λ z. IsHeld z c.args.slot) at c.requires.0),
  chain-nodes c.self.inside.marks.items c.self.inside.nexts c.self.inside.cells c.self.invariant c.args.slot
      (subst (λ z. IfSome (node_at z c.args.slot) (λ n. IfSome n.chain (IsHeld z))) at c.requires.1),
)

pub returns : goal.returns
returns c = let Q = λ (n : Node). c.chain_next.result ≡ n.chain in
    subst (λ z. IfSome (node_at z c.args.slot) Q) c.self.view_is
    (shown-nodes c.self.inside.marks.items c.self.inside.nexts c.self.inside.cells c.self.invariant c.args.slot (λ (m : Stored).
    c.chain_next.result ≡ m.chain) Q (λ m e. e) c.chain_next.ensures)

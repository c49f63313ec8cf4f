use Rattle.std.proofs.Common.{◌≡◌, IfSome, get_or, sym, subst, ◌∙◌, arith}
use Rattle.rx_arena.specs.Inner.Node.{node_at}
use Rattle.rx_arena.specs.Inner.Held.{IsHeld}
use Rattle.rx_arena.specs.Inner.Tables.{nodes_of}
use Rattle.rx_arena.proofs.TableLemmas.{held-within, mark-at, get_or_any}
use Rattle.rx_arena.proofs.slots.Slots.mark.Goals as goal

pub index-requires : goal.index-requires
index-requires c =
    let lt = held-within c.self.inside.marks.items c.self.inside.nexts c.self.inside.cells c.self.invariant c.args.slot
    (subst (λ z. IsHeld z c.args.slot) (sym c.self.view_is) c.requires) in
    let len = c.self.inside.marks.ok.0 in
    omega (arith, lt, len)

pub returns : goal.returns
returns c =
    let lt = held-within c.self.inside.marks.items c.self.inside.nexts c.self.inside.cells c.self.invariant c.args.slot
    (subst (λ z. IsHeld z c.args.slot) (sym c.self.view_is) c.requires) in
    let is : c.index.result.now ≡ get_or c.self.inside.marks.items c.args.slot 0 =
    c.index.ensures ∙ get_or_any c.self.inside.marks.items c.args.slot lt.0 c.index.result.now 0 in
    subst (λ z. IfSome (node_at z c.args.slot) (λ n. c.index.result.now ≡ n.mark)) c.self.view_is
    (subst (λ k. IfSome (node_at (nodes_of c.self.inside.marks.items c.self.inside.nexts c.self.inside.cells) c.args.slot) (λ n. k ≡ n.mark)) (sym is)
    (mark-at c.self.inside.marks.items c.self.inside.nexts c.self.inside.cells c.self.invariant c.args.slot))

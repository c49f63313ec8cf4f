use Rattle.std.proofs.Common.{◌<◌, length, map, refl, IfSome, sym, subst, ap, ◌∙◌}
use Rattle.rx_arena.specs.Inner.Node.{node_at, changed, cell_with_chain, with_chain, is_protected_node}
use Rattle.rx_arena.specs.Inner.Held.{IsHeld}
use Rattle.rx_arena.specs.Inner.Tables.{nodes_of}
use Rattle.rx_arena.specs.Faces.{word_beside}
use Rattle.rx_arena.proofs.FaceLemmas.{same_word, same_protected}
use Rattle.rx_arena.proofs.TableLemmas.{length-nodes, held-nodes, cell-nodes, told-kept}
use Rattle.rx_arena.proofs.slots.Slots.set_chain_next.Goals as goal

pub set_chain_next-requires-clause-held : goal.set_chain_next-requires-clause-held
set_chain_next-requires-clause-held c =
    let len = length-nodes c.self.inside.marks.items c.self.inside.nexts c.self.inside.cells c.self.invariant in (
      held-nodes c.self.inside.marks.items c.self.inside.nexts c.self.inside.cells c.self.invariant c.args.slot
          (subst (λ z. IsHeld z c.args.slot) (sym c.self.view_is) c.requires.held.0),
      subst (λ n. IfSome c.args.next (λ t. t < n)) len (subst (λ z. IfSome c.args.next (λ t. t < length z)) (sym c.self.view_is) c.requires.held.1),
    )

pub returns : goal.returns
returns c = ap (nodes_of c.self.inside.marks.items c.self.inside.nexts) c.set_chain_next.ensures
    ∙ cell-nodes c.self.inside.marks.items c.self.inside.nexts c.self.inside.cells c.self.invariant c.args.slot (cell_with_chain c.args.next)
    (with_chain c.args.next) (λ m. refl)
    ∙ ap (changed c.args.slot (with_chain c.args.next)) c.self.view_is

pub invariant_of-self-inside : goal.invariant_of-self-inside
invariant_of-self-inside c =
    let ns = nodes_of c.self.inside.marks.items c.self.inside.nexts c.self.inside.cells in
    let f = with_chain c.args.next in
    let is = ap (nodes_of c.self.inside.marks.items c.self.inside.nexts) c.set_chain_next.ensures
    ∙ cell-nodes c.self.inside.marks.items c.self.inside.nexts c.self.inside.cells c.self.invariant c.args.slot (cell_with_chain c.args.next) f (λ m. refl) in (
      told-kept is_protected_node c.self.inside.protected.items ns c.self.inside.told c.args.slot f
          (same_protected f (node_at ns c.args.slot) (λ n. refl)) ∙ ap (map is_protected_node) (sym is),
      (
        told-kept word_beside c.self.inside.words.items ns c.self.inside.said c.args.slot f
            (same_word f (node_at ns c.args.slot) (λ n. (refl, refl))) ∙ ap (map word_beside) (sym is),
        tt,
      ),
    )

use Rattle.std.proofs.Common.{map, refl, sym, subst, ap, ◌∙◌}
use Rattle.rx_arena.specs.Inner.Node.{node_at, changed, with_next, is_protected_node}
use Rattle.rx_arena.specs.Inner.Held.{IsHeld}
use Rattle.rx_arena.specs.Inner.Tables.{nodes_of}
use Rattle.rx_arena.specs.Faces.{word_beside}
use Rattle.rx_arena.proofs.FaceLemmas.{same_word, same_protected}
use Rattle.rx_arena.proofs.TableLemmas.{held-within, next-nodes, told-kept}
use Rattle.rx_arena.proofs.slots.Slots.set_next.Goals as goal

pub set-requires-clause-entry : goal.set-requires-clause-entry
set-requires-clause-entry c = (held-within c.self.inside.marks.items c.self.inside.nexts c.self.inside.cells c.self.invariant c.args.slot
    (subst (λ z. IsHeld z c.args.slot) (sym c.self.view_is) c.requires.held)).1

pub returns : goal.returns
returns c = ap (λ z. nodes_of c.self.inside.marks.items z c.self.inside.cells) c.set.ensures
    ∙ next-nodes c.self.inside.marks.items c.self.inside.nexts c.self.inside.cells c.self.invariant c.args.slot c.args.next
    ∙ ap (changed c.args.slot (with_next c.args.next)) c.self.view_is

pub invariant_of-self-inside : goal.invariant_of-self-inside
invariant_of-self-inside c =
    let ns = nodes_of c.self.inside.marks.items c.self.inside.nexts c.self.inside.cells in
    let f = with_next c.args.next in
    let is = ap (λ z. nodes_of c.self.inside.marks.items z c.self.inside.cells) c.set.ensures
    ∙ next-nodes c.self.inside.marks.items c.self.inside.nexts c.self.inside.cells c.self.invariant c.args.slot c.args.next in (
      told-kept is_protected_node c.self.inside.protected.items ns c.self.inside.told c.args.slot f
          (same_protected f (node_at ns c.args.slot) (λ n. refl)) ∙ ap (map is_protected_node) (sym is),
      (
        told-kept word_beside c.self.inside.words.items ns c.self.inside.said c.args.slot f
            (same_word f (node_at ns c.args.slot) (λ n. (refl, refl))) ∙ ap (map word_beside) (sym is),
        tt,
      ),
    )

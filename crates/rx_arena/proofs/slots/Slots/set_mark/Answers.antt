use Rattle.std.proofs.Common.{◌≤◌, map, refl, IfSome, sym, subst, ap, ◌∙◌, arith}
use Rattle.rx_arena.specs.Inner.Node.{node_at, changed, with_mark, is_protected_node}
use Rattle.rx_arena.specs.Inner.Held.{IsHeld}
use Rattle.rx_arena.specs.Inner.Tables.{nodes_of}
use Rattle.rx_arena.specs.Faces.{word_beside}
use Rattle.rx_arena.proofs.FaceLemmas.{marked_word, same_protected}
use Rattle.rx_arena.proofs.TableLemmas.{held-within, mark-nodes, told-kept}
use Rattle.rx_arena.proofs.slots.Slots.set_mark.Goals as goal

pub index_mut-requires : goal.index_mut-requires
index_mut-requires c =
    let lt = held-within c.self.inside.marks.items c.self.inside.nexts c.self.inside.cells c.self.invariant c.args.slot
    (subst (λ z. IsHeld z c.args.slot) (sym c.self.view_is) c.requires.held) in
    let len = c.self.inside.marks.ok.0 in
    omega (arith, lt, len)

pub returns : goal.returns
returns c = mark-nodes c.self.inside.marks.items c.self.inside.nexts c.self.inside.cells c.self.invariant c.args.slot c.args.mark
    ∙ ap (changed c.args.slot (with_mark c.args.mark)) c.self.view_is

pub invariant_of-self-inside : goal.invariant_of-self-inside
invariant_of-self-inside c =
    let ns = nodes_of c.self.inside.marks.items c.self.inside.nexts c.self.inside.cells in
    let f = with_mark c.args.mark in
    let taken = subst (λ z. IfSome (node_at z c.args.slot) (λ n. n.mark ≤ 1)) (sym c.self.view_is) c.requires.taken in
    let is = mark-nodes c.self.inside.marks.items c.self.inside.nexts c.self.inside.cells c.self.invariant c.args.slot c.args.mark in (
      told-kept is_protected_node c.self.inside.protected.items ns c.self.inside.told c.args.slot f
          (same_protected f (node_at ns c.args.slot) (λ n. refl)) ∙ ap (map is_protected_node) (sym is),
      (
        told-kept word_beside c.self.inside.words.items ns c.self.inside.said c.args.slot f
            (marked_word c.args.mark (node_at ns c.args.slot) c.requires.mark taken) ∙ ap (map word_beside) (sym is),
        tt,
      ),
    )

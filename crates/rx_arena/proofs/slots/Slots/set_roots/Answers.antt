use Rattle.std.proofs.Common.{map, refl, sym, subst, ap, ◌∙◌, arith, Some, set}
use Rattle.std.specs.Option.{option_map}
use Rattle.rx_arena.specs.Inner.Node.{node_at, changed, cell_with_roots, with_roots, is_protected_node}
use Rattle.rx_arena.specs.Inner.Held.{IsHeld}
use Rattle.rx_arena.specs.Inner.Tables.{nodes_of}
use Rattle.rx_arena.specs.Faces.{word_beside}
use Rattle.rx_arena.proofs.FaceLemmas.{same_word}
use Rattle.rx_arena.proofs.PutLemmas.{within_some}
use Rattle.rx_arena.proofs.TableLemmas.{held-nodes, cell-nodes, told-length, told-set, told-kept}
use Rattle.rx_arena.proofs.slots.Slots.set_roots.Goals as goal

pub set_roots-requires : goal.set_roots-requires
set_roots-requires c = held-nodes c.self.inside.marks.items c.self.inside.nexts c.self.inside.cells c.self.invariant c.args.slot
    (subst (λ z. IsHeld z c.args.slot) (sym c.self.view_is) c.requires)

pub index_mut-requires : goal.index_mut-requires
index_mut-requires c =
    let ns = nodes_of c.self.inside.marks.items c.self.inside.nexts c.self.inside.cells in
    let h = (subst (λ z. IsHeld z c.args.slot) (sym c.self.view_is) c.requires) in
    let lt = within_some ns c.args.slot h.0 h.1 in
    let e = told-length is_protected_node c.self.inside.protected.items ns c.self.inside.told in
    let len = c.self.inside.protected.ok.0 in
    omega (arith, lt, e, len)

pub returns : goal.returns
returns c = ap (nodes_of c.self.inside.marks.items c.self.inside.nexts) c.set_roots.ensures
    ∙ cell-nodes c.self.inside.marks.items c.self.inside.nexts c.self.inside.cells c.self.invariant c.args.slot (cell_with_roots c.args.count)
    (with_roots c.args.count) (λ m. refl)
    ∙ ap (changed c.args.slot (with_roots c.args.count)) c.self.view_is

pub invariant_of-self-inside : goal.invariant_of-self-inside
invariant_of-self-inside c =
    let ns = nodes_of c.self.inside.marks.items c.self.inside.nexts c.self.inside.cells in
    let f = with_roots c.args.count in
    let h = (subst (λ z. IsHeld z c.args.slot) (sym c.self.view_is) c.requires) in
    let is = ap (nodes_of c.self.inside.marks.items c.self.inside.nexts) c.set_roots.ensures
    ∙ cell-nodes c.self.inside.marks.items c.self.inside.nexts c.self.inside.cells c.self.invariant c.args.slot (cell_with_roots c.args.count) f (λ m.
    refl) in (
      told-set is_protected_node c.self.inside.protected.items ns c.self.inside.told c.args.slot (Some (f h.0))
          ∙ ap (λ z. map is_protected_node (set ns c.args.slot (option_map f z))) (sym h.1) ∙ ap (map is_protected_node) (sym is),
      (
        told-kept word_beside c.self.inside.words.items ns c.self.inside.said c.args.slot f
            (same_word f (node_at ns c.args.slot) (λ n. (refl, refl))) ∙ ap (map word_beside) (sym is),
        tt,
      ),
    )

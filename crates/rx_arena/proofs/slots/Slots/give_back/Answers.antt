use Rattle.std.proofs.Common.{map, set, refl, sym, subst, ap, ◌∙◌, arith}
use Rattle.std.specs.Option.{option_map}
use Rattle.rx_arena.specs.Inner.Node.{node_at, changed, given_back, is_protected_node}
use Rattle.rx_arena.specs.Inner.Held.{IsHeld}
use Rattle.rx_arena.specs.Inner.Tables.{nodes_of}
use Rattle.rx_arena.specs.Faces.{word_beside}
use Rattle.rx_arena.proofs.FaceLemmas.{given_back_word, same_protected}
use Rattle.rx_arena.proofs.PutLemmas.{within_some}
use Rattle.rx_arena.proofs.TableLemmas.{held-within, given_back-nodes, told-length, told-kept, told-set}
use Rattle.rx_arena.proofs.slots.Slots.give_back.Goals as goal

pub index_mut-requires : goal.index_mut-requires
index_mut-requires c =
    let lt = held-within c.self.inside.marks.items c.self.inside.nexts c.self.inside.cells c.self.invariant c.args.slot
    (subst (λ z. IsHeld z c.args.slot) (sym c.self.view_is) c.requires.held) in
    let len = c.self.inside.marks.ok.0 in
    omega (arith, lt, len)

pub index_mut-requires-2 : goal.index_mut-requires-2
index_mut-requires-2 c =
    let ns = nodes_of c.self.inside.marks.items c.self.inside.nexts c.self.inside.cells in
    let h = (subst (λ z. IsHeld z c.args.slot) (sym c.self.view_is) c.requires.held) in
    let lt = within_some ns c.args.slot h.0 h.1 in
    let e = told-length word_beside c.self.inside.words.items ns c.self.inside.said in
    let len = c.self.inside.words.ok.0 in
    omega (arith, lt, e, len)

pub set-requires-clause-entry : goal.set-requires-clause-entry
set-requires-clause-entry c = (held-within c.self.inside.marks.items c.self.inside.nexts c.self.inside.cells c.self.invariant c.args.slot
    (subst (λ z. IsHeld z c.args.slot) (sym c.self.view_is) c.requires.held)).1

pub returns : goal.returns
returns c = ap (λ z. nodes_of (set c.self.inside.marks.items c.args.slot 2) z c.self.inside.cells) c.set.ensures
    ∙ given_back-nodes c.self.inside.marks.items c.self.inside.nexts c.self.inside.cells c.self.invariant c.args.slot c.args.next
    ∙ ap (changed c.args.slot (given_back c.args.next)) c.self.view_is

pub invariant_of-self-inside : goal.invariant_of-self-inside
invariant_of-self-inside c =
    let ns = nodes_of c.self.inside.marks.items c.self.inside.nexts c.self.inside.cells in
    let f = given_back c.args.next in
    let is = ap (λ z. nodes_of (set c.self.inside.marks.items c.args.slot 2) z c.self.inside.cells) c.set.ensures
    ∙ given_back-nodes c.self.inside.marks.items c.self.inside.nexts c.self.inside.cells c.self.invariant c.args.slot c.args.next in (
      told-kept is_protected_node c.self.inside.protected.items ns c.self.inside.told c.args.slot f
          (same_protected f (node_at ns c.args.slot) (λ n. refl)) ∙ ap (map is_protected_node) (sym is),
      (
        ap (set c.self.inside.words.items c.args.slot) (given_back_word c.args.next (node_at ns c.args.slot))
            ∙ told-set word_beside c.self.inside.words.items ns c.self.inside.said c.args.slot (option_map f (node_at ns c.args.slot))
            ∙ ap (map word_beside) (sym is),
        tt,
      ),
    )

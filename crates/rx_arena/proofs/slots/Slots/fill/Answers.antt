use Rattle.std.proofs.Common.{◌<◌, length, map, set, Some, None, sym, subst, ap, ◌∙◌, arith}
use Rattle.rx_arena.specs.Inner.Node.{lone_cell, lone, is_protected_node}
use Rattle.rx_arena.specs.Inner.Tables.{nodes_of}
use Rattle.rx_arena.specs.Faces.{word_beside}
use Rattle.rx_arena.proofs.FaceLemmas.{word-taken}
use Rattle.rx_arena.proofs.TableLemmas.{within-nodes, set-nodes, told-length, told-set}
use Rattle.rx_arena.proofs.slots.Slots.fill.Goals as goal

pub fill-requires : goal.fill-requires
fill-requires c = (within-nodes c.self.inside.marks.items c.self.inside.nexts c.self.inside.cells c.self.invariant c.args.slot
    (subst (λ z. c.args.slot < length z) (sym c.self.view_is) c.requires.slot)).2

pub index_mut-requires : goal.index_mut-requires
index_mut-requires c =
    let lt = within-nodes c.self.inside.marks.items c.self.inside.nexts c.self.inside.cells c.self.invariant c.args.slot
    (subst (λ z. c.args.slot < length z) (sym c.self.view_is) c.requires.slot) in
    let len = c.self.inside.marks.ok.0 in
    omega (arith, lt, len)

pub index_mut-requires-2 : goal.index_mut-requires-2
index_mut-requires-2 c =
    let lt = subst (λ z. c.args.slot < length z) (sym c.self.view_is) c.requires.slot in
    let e = told-length is_protected_node c.self.inside.protected.items (nodes_of c.self.inside.marks.items c.self.inside.nexts c.self.inside.cells)
    c.self.inside.told in
    let len = c.self.inside.protected.ok.0 in
    omega (arith, lt, e, len)

pub index_mut-requires-3 : goal.index_mut-requires-3
index_mut-requires-3 c =
    let lt = subst (λ z. c.args.slot < length z) (sym c.self.view_is) c.requires.slot in
    let e = told-length word_beside c.self.inside.words.items (nodes_of c.self.inside.marks.items c.self.inside.nexts c.self.inside.cells) c.self.inside.said in
    let len = c.self.inside.words.ok.0 in
    omega (arith, lt, e, len)

pub set-requires-clause-entry : goal.set-requires-clause-entry
set-requires-clause-entry c = (within-nodes c.self.inside.marks.items c.self.inside.nexts c.self.inside.cells c.self.invariant c.args.slot
    (subst (λ z. c.args.slot < length z) (sym c.self.view_is) c.requires.slot)).1

pub returns : goal.returns
returns c =
    (λ i. nodes_of (set c.self.inside.marks.items c.args.slot c.args.mark) (c.set.ensures i) (c.fill.ensures i))
    ∙ set-nodes c.self.inside.marks.items c.self.inside.nexts c.self.inside.cells c.args.slot c.args.mark None (Some (lone_cell c.args.body)) c.self.invariant
    ∙ ap (λ z. set z c.args.slot (Some (lone c.args.mark c.args.body))) c.self.view_is

pub invariant_of-self-inside : goal.invariant_of-self-inside
invariant_of-self-inside c =
    let ns = nodes_of c.self.inside.marks.items c.self.inside.nexts c.self.inside.cells in
    let node = lone c.args.mark c.args.body in
    let is = (λ i. nodes_of (set c.self.inside.marks.items c.args.slot c.args.mark) (c.set.ensures i) (c.fill.ensures i))
    ∙ set-nodes c.self.inside.marks.items c.self.inside.nexts c.self.inside.cells c.args.slot c.args.mark None (Some (lone_cell c.args.body))
    c.self.invariant in (
      told-set is_protected_node c.self.inside.protected.items ns c.self.inside.told c.args.slot (Some node) ∙ ap (map is_protected_node) (sym is),
      (
        ap (set c.self.inside.words.items c.args.slot) (c.requires.word ∙ sym (word-taken node c.requires.mark))
            ∙ told-set word_beside c.self.inside.words.items ns c.self.inside.said c.args.slot (Some node) ∙ ap (map word_beside) (sym is),
        tt,
      ),
    )

use Rattle.std.proofs.Common.{◌≡◌, ◌<◌, length, sym, subst, ◌∙◌, arith}
use Rattle.rx_arena.specs.Inner.Node.{node_at}
use Rattle.rx_arena.specs.Inner.Tables.{nodes_of}
use Rattle.rx_arena.specs.Faces.{word_beside}
use Rattle.rx_arena.proofs.TableLemmas.{told-length, told-at}
use Rattle.rx_arena.proofs.slots.Slots.word.Goals as goal

pub index-requires : goal.index-requires
index-requires c =
    let lt = subst (λ z. c.args.slot < length z) (sym c.self.view_is) c.requires in
    let e = told-length word_beside c.self.inside.words.items (nodes_of c.self.inside.marks.items c.self.inside.nexts c.self.inside.cells) c.self.inside.said in
    let len = c.self.inside.words.ok.0 in
    omega (arith, lt, e, len)

pub returns : goal.returns
returns c =
    let lt = subst (λ z. c.args.slot < length z) (sym c.self.view_is) c.requires in
    subst (λ z. c.index.result.now ≡ word_beside (node_at z c.args.slot)) c.self.view_is
    (c.index.ensures ∙ told-at word_beside c.self.inside.words.items (nodes_of c.self.inside.marks.items c.self.inside.nexts c.self.inside.cells)
    c.self.inside.said
    c.args.slot c.index.result.now lt)

use Rattle.std.specs.FinMap as map
use Rattle.rx_term.specs.Tree.{Tree}
use Rattle.rx_term.specs.Heap.{noted_tree, node_tree, int_tree}
use Rattle.rx_term.specs.Store.{tree_at}
use Rattle.rx_plain.specs.Slots.{node_of, notes_of}
use Rattle.rx_plain.specs.State.{store_of}
use Rattle.rx_plain.proofs.ReadingLemmas.{int-cell}
use Rattle.std.proofs.Common.{Option, ap, ◌∙◌, ℕ, ◌≡◌, arith}
use Rattle.std.proofs.lemmas.Int.{to_z-of_z}
use Rattle.rx_plain.proofs.bank.PlainBankTermBank.kind.Goals as goal

pub returns-in-Int : goal.returns-in-Int
returns-in-Int c =
    let w = store_of c.args.self.now in
    let at : ℕ → Option Tree = λ t. map.get w.content t in
    let tree = c.body.ensures.tree in
    let shape = c.in-Int.is in
    let e : tree_at w c.args.t ≡ noted_tree at (int_tree c.in-Int.z) (notes_of c.body.result.anns) =
    tree ∙ ap (λ s. noted_tree at (node_tree at (λ s. map.get w.symbols s) (node_of s)) (notes_of c.body.result.anns)) shape in
    let r = int-cell at (tree_at w c.args.t) (notes_of c.body.result.anns) c.in-Int.z e c.requires in
    record { anns = r.0; here = grind (arith, to_z-of_z, r.1) }

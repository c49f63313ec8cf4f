use Rattle.std.proofs.Common.{IsSome, ℕ, ◌≡◌, ◌≢◌, Some, sym, ap, subst, ◌∙◌}
use Rattle.rx_arena.specs.declared.CellBody.{CellBody}
use Rattle.rx_arena.specs.Faces.{word_of}
use Rattle.rx_term.specs.Steps.{MakesOrRefuses}
use Rattle.rx_shared.specs.Bodies.{cell_of, IsWritten}
use Rattle.rx_shared.specs.Tidy.{heap_of}
use Rattle.rx_shared.specs.State.{store_of, tree_of_body}
use Rattle.rx_shared.proofs.bank.SharedBank.make_application.Goals as goal

pub make_by_hash-requires-clause-word : goal.make_by_hash-requires-clause-word
make_by_hash-requires-clause-word c = c.requires.word ∙ ap word_of (sym c.body.ensures)

pub make_by_hash-requires-clause-written : goal.make_by_hash-requires-clause-written
make_by_hash-requires-clause-written c = subst IsWritten (sym c.body.ensures) c.requires.written

pub make_by_hash-requires-clause-tree : goal.make_by_hash-requires-clause-tree
make_by_hash-requires-clause-tree c = subst (λ (x : CellBody). IsSome (tree_of_body (store_of c.args.self.now) x)) (sym c.body.ensures) c.requires.tree

pub make_by_hash-requires-clause-nowhere : goal.make_by_hash-requires-clause-nowhere
make_by_hash-requires-clause-nowhere c =
    subst (λ (x : CellBody). c.args.told ≡ 0 → (t : ℕ) → heap_of c.args.self.now.arena t ≢ Some (cell_of x)) (sym c.body.ensures) c.requires.nowhere

pub returns : goal.returns
returns c =
    let w = store_of c.args.self.now in
    subst (λ (x : CellBody). MakesOrRefuses w (store_of c.make_by_hash.new.self) (tree_of_body w x) c.make_by_hash.result) c.body.ensures c.make_by_hash.ensures

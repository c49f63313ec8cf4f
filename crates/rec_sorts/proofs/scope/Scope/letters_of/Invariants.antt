use Rattle.std.proofs.Common.{◌≡◌, map, take}
use Rattle.rx_term.specs.Walks.{held_tree}
use Rattle.rec_sorts.specs.Inner.GivenTerms.{node_letter}
use Rattle.rec_sorts.proofs.scope.Scope.letters_of.Given as goal

abbrev pub invariant-loop-node : goal.invariant-loop-node
invariant-loop-node g l = l.letters.items ≡ map (λ r. node_letter l.self (held_tree (g.B.TermBank.store l.bank) r)) (take l.node-index l.node-items)

use Rattle.std.proofs.Common.{◌≡◌, map, take}
use Rattle.std.specs.Prelude.{reverse}
use Rattle.rx_term.specs.Walks.{held_tree}
use Rattle.rec_sorts.specs.Walking.{backwards}
use Rattle.rec_sorts.specs.Inner.GivenTerms.{node_letter}
use Rattle.rec_sorts.proofs.scope.Scope.letters_of_all.Given as goal

abbrev pub invariant-loop-term : goal.invariant-loop-term
invariant-loop-term g l = map (λ v. v.items) l.letters.items ≡ map (λ r.
    reverse (map (node_letter l.self) (backwards (held_tree (g.B.TermBank.store l.bank) r)))) (take l.term-index l.terms)

use Rattle.std.proofs.Common.{◌≡◌, drop, Bool}
use Rattle.std.specs.List.{position_from}
use Rattle.rx_term.specs.declared.Term.{Term}
use Rattle.rx_term.specs.Walks.{held_tree}
use Rattle.rec_sorts.specs.Inner.GivenTerms.{is_broken_alone}
use Rattle.rec_sorts.proofs.scope.Scope.first_breaking.Given as goal

abbrev pub invariant-loop-at : goal.invariant-loop-at
invariant-loop-at g l =
    let is_it : Term → Bool = λ t. is_broken_alone l.self l.number (held_tree (g.B.TermBank.store l.bank) t) in
    position_from is_it l.at (drop l.at l.terms) ≡ position_from is_it 0 l.terms

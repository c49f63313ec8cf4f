use Rattle.std.proofs.Common.{◌≡◌, take, flat_map}
use Rattle.rx_term.specs.Tree.{to_list}
use Rattle.rx_term.specs.Walks.{AllHeld, held_trees}
use Rattle.rec_sorts.specs.TermRules.{arguments}
use Rattle.rec_sorts.proofs.walk.arguments.Given as goal

abbrev pub invariant-loop-term : goal.invariant-loop-term
invariant-loop-term g l =
    let w = g.B.TermBank.store l.bank in
    record {
      held : AllHeld w l.found.items;
      trees : held_trees w l.found.items ≡ flat_map (λ t. to_list (arguments t)) (held_trees w (take l.term-index l.terms));
    }

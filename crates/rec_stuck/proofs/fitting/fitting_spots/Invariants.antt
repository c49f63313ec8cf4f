use Rattle.std.proofs.Common.{◌≡◌, ◌++◌, ◌-◌, List, ℕ, drop, length, map}
use Rattle.rx_term.specs.Tree.{to_list}
use Rattle.rx_term.specs.Walks.{AllHeld, held_tree, held_trees}
use Rattle.rec_syntax.specs.Syntax.{Spec}
use Rattle.rec_match.specs.Matching.{HeadAt}
use Rattle.rec_match.specs.Next.{IsReady}
use Rattle.rec_stuck.specs.Inner.Calls.{AreSpots, IsCalled, fitting_among}
use Rattle.rec_stuck.specs.Stuck.{bare_of, fitting_spots}
use Rattle.rec_trace.specs.Lines.{rule_spot}
use Rattle.rec_stuck.proofs.fitting.fitting_spots.Given as goal

-- the spots so far were found, and with those of the rules that are left they are all
abbrev pub invariant-loop-found : goal.invariant-loop-found
invariant-loop-found g l = record {
  held : AllHeld (g.B.TermBank.store l.bank) l.arguments.items;
  trees : (y : Spec) (c : IsCalled y (g.B.TermBank.store l.bank) l.call) → held_trees (g.B.TermBank.store l.bank) l.arguments.items ≡ to_list c.args;
  head : HeadAt l.matcher l.at l.call.symbol;
  left : (source : List ℕ) (y : Spec) → IsReady y (g.B.TermBank.store l.bank) l.matcher → IsCalled y (g.B.TermBank.store l.bank) l.call
      → AreSpots source y l.spots
      → l.found.items ++ map (rule_spot source) (fitting_among y (bare_of (held_tree (g.B.TermBank.store l.bank) l.call.term)) (drop l.at y.rules))
      ≡ fitting_spots source y (bare_of (held_tree (g.B.TermBank.store l.bank) l.call.term));
}

abbrev pub decreases-loop-found : goal.decreases-loop-found
decreases-loop-found g l = length l.matcher.sides.items - l.at

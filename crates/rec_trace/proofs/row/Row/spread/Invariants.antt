use Rattle.std.proofs.Common.{◌≡◌, ◌≤◌, drop, length, map, take}
use Rattle.rx_term.specs.Walks.{held_tree}
use Rattle.rec_syntax.specs.Syntax.{Rule}
use Rattle.rec_sorts.specs.Binding.{Substitution}
use Rattle.rec_sorts.specs.Numbering.{named}
use Rattle.rec_trace.specs.Inner.Sides.{HasValues, IsMatch, move_of, side_of}
use Rattle.rec_trace.specs.Inner.Spreading.{top_of}
use Rattle.rec_trace.proofs.SpreadLemmas.{SpreadsTo}
use Rattle.rec_trace.proofs.row.Row.spread.Given as goal

abbrev pub invariant-letters : goal.invariant-letters
invariant-letters g l = record {
  within : l.at ≤ length l.letters;
  values : l.self.values ≡ l.fn.self.values;
  low : l.self.low ≡ l.fn.self.low;
  below : take (length l.fn.self.steps.items) l.self.steps.items ≡ l.fn.self.steps.items;
  spreading : (r : Rule) (s : Substitution) → IsMatch l.fn.engine.spec l.fn.rule (held_tree (g.B.TermBank.store l.fn.engine.bank) (top_of l.fn.self)) r s
      → HasValues (g.B.TermBank.store l.fn.engine.bank) (top_of l.fn.self) l.fn.bind s
      → SpreadsTo l.fn.engine.spec (g.B.TermBank.store l.fn.engine.bank) l.fn.self l.self (map (move_of s) (drop l.at (named (side_of r l.fn.side)))) l.pushed;
}

abbrev pub decreases-letters : goal.decreases-letters
decreases-letters g l = l.at

use Rattle.std.proofs.Common.{◌≤◌, ◌-◌, length}
use Rattle.rx_term.specs.Steps.{Grows}
use Rattle.rx_table.specs.Inner.Made.{AreMade}
use Rattle.rx_table.proofs.copy.copy_parts.Given as goal

-- the parts so far were copied
abbrev pub invariant-loop-made : goal.invariant-loop-made
invariant-loop-made g l = record {
  grows : Grows (g.C.TermBank.store l.fn.to) (g.C.TermBank.store l.to);
  few : length l.made.items ≤ length l.parts.terms.keys;
  made : AreMade (g.B.TermBank.store l.from) l.parts.terms.keys (λ t. t) (g.C.TermBank.store l.to) l.made.items;
}

abbrev pub decreases-loop-made : goal.decreases-loop-made
decreases-loop-made g l = length l.parts.terms.keys - length l.made.items

use Rattle.std.proofs.Common.{◌≡◌, ◌≤◌, length, drop}
use Rattle.rx_term.specs.Tree.{from_list}
use Rattle.rx_term.specs.Walks.{held_trees}
use Rattle.rec_syntax.specs.Parts.{words_of}
use Rattle.rec_sorts.specs.TermRules.{are_ill_sorted}
use Rattle.psilt_core.proofs.calling.are_ill_sorted.Given as goal

abbrev pub invariant-loop-i : goal.invariant-loop-i
invariant-loop-i g l = record {
  within : l.i ≤ length l.values;
  rest : are_ill_sorted l.engine.spec (words_of l.syntax.source l.sorts) (from_list (held_trees (g.B.TermBank.store l.engine.bank) l.values))
      ≡ are_ill_sorted l.engine.spec (words_of l.syntax.source (drop l.i l.sorts))
      (from_list (held_trees (g.B.TermBank.store l.engine.bank) (drop l.i l.values)));
}

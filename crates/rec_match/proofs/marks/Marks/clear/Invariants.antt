use Rattle.std.proofs.Common.{◌≡◌, length}
use Rattle.rec_match.specs.Inner.Marking.{AreMarked}
use Rattle.rec_match.proofs.marks.Marks.clear.Given as goal

abbrev pub invariant-loop-symbol : goal.invariant-loop-symbol
invariant-loop-symbol l = record {
  marked : AreMarked l.self;
  counted : length l.self.marked.items ≡ length l.fn.self.marked.items;
}

abbrev pub decreases-loop-symbol : goal.decreases-loop-symbol
decreases-loop-symbol l = length l.self.symbols.items

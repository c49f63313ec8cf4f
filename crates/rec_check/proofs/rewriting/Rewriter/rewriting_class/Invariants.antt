use Rattle.std.proofs.Common.{◌≡◌, ◌<◌, ◌-◌, get_or, length}
use Rattle.rec_syntax.specs.Syntax.{Term}
use Rattle.rec_sorts.specs.Numbering.{AreLetters}
use Rattle.rec_check.specs.Inner.Rewriters.{NoneIn}
use Rattle.rec_check.proofs.rewriting.Rewriter.rewriting_class.Given as goal

-- no rule of the class before this one rewrites the term, and this one is in the class
abbrev pub invariant-loop-rule : goal.invariant-loop-rule
invariant-loop-rule l = record {
  none : (t : Term) → AreLetters l.self.checked.now.spec l.term.letters.now t
      → NoneIn l.self.checked.now.spec l.self.classes.items l.class t l.rule;
  own : l.rule < length l.self.classes.items → get_or l.self.classes.items l.rule 0 ≡ l.class;
}

abbrev pub decreases-loop-rule : goal.decreases-loop-rule
decreases-loop-rule l = l.before - l.rule

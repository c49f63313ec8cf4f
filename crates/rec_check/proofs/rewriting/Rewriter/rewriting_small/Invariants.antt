use Rattle.std.proofs.Common.{◌≡◌, ◌<◌, ◌≤◌, get_or, ℕ, true}
use Rattle.rec_syntax.specs.Syntax.{Rule, Term}
use Rattle.rec_sorts.specs.Numbering.{AreLetters}
use Rattle.rec_sorts.specs.declared.letters.Letter.{Letter}
use Rattle.rec_sorts.specs.declared.letters.Meaning.TheVariants.{Symbol}
use Rattle.rec_check.specs.Inner.Rewriters.{NoneIn}
use Rattle.rec_check.specs.Rewriting.{rewrites}
use Rattle.rec_check.proofs.rewriting.Rewriter.rewriting_small.Given as goal

-- the first rule of the classes of the letters so far that rewrites the term
abbrev pub invariant-loop-letter : goal.invariant-loop-letter
invariant-loop-letter l = record {
  within : l.first ≤ l.before;
  rewrites_term : (t : Term) → AreLetters l.self.checked.now.spec l.term.letters.now t → l.first < l.before
      → (d : Rule) → rewrites l.self.checked.now.spec (get_or l.self.checked.now.spec.rules l.first d) t ≡ true;
  none : (t : Term) → AreLetters l.self.checked.now.spec l.term.letters.now t → (i : ℕ) (d : Letter) → i < l.letter-index
      → (k : ℕ) → (get_or l.term.letters.now i d).meaning ≡ Symbol k
      → NoneIn l.self.checked.now.spec l.self.classes.items k t l.first;
}

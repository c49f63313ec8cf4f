use Rattle.std.proofs.Common.{◌≡◌, ◌<◌, ◌-◌, get_or, length}
use Rattle.rec_syntax.specs.Syntax.{Term, head}
use Rattle.rec_sorts.specs.Numbering.{AreLetters, name_of}
use Rattle.rec_sorts.specs.declared.letters.Meaning.TheVariants.{Symbol}
use Rattle.rec_check.specs.Inner.Rewriters.{IsRewriter}
use Rattle.rec_check.proofs.UncoveredLemmas.{NoneMatches}
use Rattle.rec_check.proofs.rewriting.Rewriter.matching_symbol.Given as goal

-- no left side before this rule's matches the term, and this one is one of the symbol's
abbrev pub invariant-loop-rule : goal.invariant-loop-rule
invariant-loop-rule l = record {
  none : (t : Term) → AreLetters l.self.checked.now.spec l.term.letters.now t → (head t).bytes ≡ name_of l.self.checked.now.spec (Symbol l.symbol)
      → NoneMatches l.self.checked.now.spec t l.rule;
  own : (r : IsRewriter l.self) → l.rule < length r.heads → get_or r.heads l.rule 0 ≡ l.symbol;
}

abbrev pub decreases-loop-rule : goal.decreases-loop-rule
decreases-loop-rule l = length l.self.spots.items - l.rule

use Rattle.std.proofs.Common.{subst, sym}
use Rattle.std.specs.Prelude.{List, get_or}
use Rattle.rec_sorts.specs.Numbering.{AreLetters}
use Rattle.rec_sorts.specs.declared.letters.Letter.{Letter}
use Rattle.rec_check.proofs.rewriting.Rewriter.push_inner.Goals as goal

pub push_inner_words-requires-clause-letters : goal.push_inner_words-requires-clause-letters
push_inner_words-requires-clause-letters c = λ r.
    let y = c.args.self.now.checked.now.spec in
    subst (λ (ls : List Letter). AreLetters y ls (get_or y.rules c.args.rule r).left) (sym c.deref-2.ensures.value) (c.letters.ensures r).0

use Rattle.std.proofs.Common.{◌≡◌, ◌++◌, drop}
use Rattle.rec_check.specs.Named.{as_words}
use Rattle.std.specs.Prelude.{length}
use Rattle.rec_syntax.specs.Parts.{words_of}
use Rattle.rec_check.specs.Walks.{misfits}
use Rattle.rec_check.proofs.scope.Scope.push_misfits.Given as goal

abbrev pub invariant-loop-head : goal.invariant-loop-head
invariant-loop-head l = as_words l.found.items ++ misfits l.self.syntax.now.spec (as_words (drop (length l.yielded) l.heads))
    (words_of l.self.syntax.now.source (drop (length l.yielded) l.sorts)) ≡ as_words l.initial.found.items ++ misfits l.self.syntax.now.spec
    (as_words l.heads) (words_of l.self.syntax.now.source l.sorts)

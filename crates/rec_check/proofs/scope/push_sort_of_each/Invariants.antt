use Rattle.std.proofs.Common.{◌≡◌, ◌++◌, take, map}
use Rattle.rec_check.specs.Named.{as_word, as_words}
use Rattle.rec_check.proofs.scope.push_sort_of_each.Given as goal

abbrev pub invariant-loop-word : goal.invariant-loop-word
invariant-loop-word l = as_words l.words.items ≡ as_words l.initial.words.items ++ map (λ _. as_word l.sort) (take l._word-index l._word-items)

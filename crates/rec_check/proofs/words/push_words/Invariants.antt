use Rattle.std.proofs.Common.{◌≡◌, ◌++◌, take}
use Rattle.rec_check.specs.Named.{as_words}
use Rattle.rec_syntax.specs.Parts.{words_of}
use Rattle.rec_check.proofs.words.push_words.Given as goal

abbrev pub invariant-loop-span : goal.invariant-loop-span
invariant-loop-span l = as_words l.words.items ≡ as_words l.initial.words.items ++ words_of l.syntax.source (take l.span-index l.spans)

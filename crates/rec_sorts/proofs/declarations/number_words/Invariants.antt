use Rattle.std.proofs.Common.{◌≡◌, ◌+◌, drop}
use Rattle.rec_syntax.specs.Parts.{words_of}
use Rattle.rec_sorts.specs.Least.{earlier}
use Rattle.rec_sorts.specs.Names.{given_to, numbers_after, least_repeated}
use Rattle.rec_sorts.proofs.declarations.number_words.Given as goal

abbrev pub invariant-loop-i : goal.invariant-loop-i
invariant-loop-i l = record {
  numbers : numbers_after (given_to l.names) (l.first + l.i) (words_of l.source (drop l.i l.words)) ≡ numbers_after (given_to l.initial.names) l.first
      (words_of l.source l.words);
  repeated : earlier l.repeated (least_repeated (given_to l.names) (l.first + l.i) (words_of l.source (drop l.i l.words))) ≡ least_repeated
      (given_to l.initial.names) l.first (words_of l.source l.words);
}

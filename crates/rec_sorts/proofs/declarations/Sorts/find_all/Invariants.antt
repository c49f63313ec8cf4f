use Rattle.std.proofs.Common.{◌≡◌, take, drop}
use Rattle.rec_syntax.specs.Parts.{words_of}
use Rattle.rec_sorts.specs.Least.{earlier}
use Rattle.rec_sorts.specs.Names.{given_to}
use Rattle.rec_sorts.specs.Declaring.{sort_numbers, least_unnumbered}
use Rattle.rec_sorts.proofs.declarations.Sorts.find_all.Given as goal

abbrev pub invariant-loop-word : goal.invariant-loop-word
invariant-loop-word l = record {
  sorts : l.sorts.items ≡ sort_numbers (given_to l.self.names) (words_of l.self.source.now (take l.word-index l.words));
  missing : earlier l.unknown (least_unnumbered (given_to l.self.names) (words_of l.self.source.now (drop l.word-index l.words))) ≡ least_unnumbered
      (given_to l.self.names) (words_of l.self.source.now l.words);
}

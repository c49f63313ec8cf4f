use Rattle.std.proofs.Common.{◌≡◌, ◌++◌, take, map}
use Rattle.rec_sorts.proofs.declarations.Declared.group.Given as goal

abbrev pub invariant-loop-word : goal.invariant-loop-word
invariant-loop-word l = record {
  words : l.self.words.items ≡ l.initial.self.words.items ++ take l.word-index l.group.others.items;
  sorts : l.self.sorts.items ≡ l.initial.self.sorts.items ++ map (λ _. l.sort) (take l.word-index l.group.others.items);
  arguments : l.self.arguments ≡ l.initial.self.arguments;
  unknown : l.self.unknown ≡ l.initial.self.unknown;
}

use Rattle.std.proofs.Common.{◌≡◌, take, drop, map}
use Rattle.rec_syntax.specs.Parts.{rule_of}
use Rattle.rec_sorts.specs.Least.{joined}
use Rattle.rec_sorts.specs.Numbering.{Pairwise}
use Rattle.rec_sorts.specs.Reading.{SpellsRule, rules_places}
use Rattle.rec_sorts.proofs.scope.Scope.rules.Given as goal

abbrev pub invariant-loop-rule : goal.invariant-loop-rule
invariant-loop-rule l = record {
  letters : Pairwise (SpellsRule l.self) l.letters.items (map (rule_of l.self.source.now) (take l.rule-index l.rules));
  places : joined l.places (rules_places l.self (map (rule_of l.self.source.now) (drop l.rule-index l.rules))) ≡ rules_places l.self
      (map (rule_of l.self.source.now) l.rules);
}

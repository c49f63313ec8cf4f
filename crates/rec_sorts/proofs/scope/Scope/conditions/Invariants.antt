use Rattle.std.proofs.Common.{◌≡◌, take, drop, map}
use Rattle.rec_syntax.specs.Parts.{condition_of}
use Rattle.rec_sorts.specs.Least.{joined}
use Rattle.rec_sorts.specs.Numbering.{Pairwise}
use Rattle.rec_sorts.specs.Reading.{binds_variable, SpellsCondition, conditions_places}
use Rattle.rec_sorts.proofs.scope.Scope.conditions.Given as goal

abbrev pub invariant-loop-condition : goal.invariant-loop-condition
invariant-loop-condition l = record {
  letters : Pairwise (SpellsCondition l.self) l.letters.items (map (condition_of l.self.source.now) (take l.condition-index l.conditions));
  places : joined l.places (conditions_places l.self (binds_variable l.bound.letters.now)
      (map (condition_of l.self.source.now) (drop l.condition-index l.conditions))) ≡ conditions_places l.self (binds_variable l.bound.letters.now)
      (map (condition_of l.self.source.now) l.conditions);
}

use Rattle.std.proofs.Common.{arith}
use Rattle.rec_syntax.specs.Parts.{condition_of}
use Rattle.rec_sorts.specs.Reading.{binds_variable, SpellsCondition, condition_places}
use Rattle.rec_sorts.proofs.TurnLemmas.{Pairwise_turn, Pairwise_end, places_turn, places_end}
use Rattle.rec_sorts.proofs.scope.Scope.conditions.Goals as goal

pub loop-condition-preserved : goal.loop-condition-preserved
loop-condition-preserved c =
    let s = c.args.self.now in
    let bound = binds_variable c.args.bound.now.letters.now in
    record {
      letters = Pairwise_turn (SpellsCondition s) (condition_of s.source.now) c.args.conditions.now c.loop-condition.condition-index
          c.condition-item.result c.loop-condition.letters.items c.push.new.self.items c.in_ok-read.read.letters
          (omega arith) c.condition-item.is c.in_ok-push.ensures.items c.loop-condition.invariant.letters c.in_ok-read.ensures.letters;
      places = places_turn (condition_of s.source.now) (condition_places s bound) c.args.conditions.now c.loop-condition.condition-index
          c.condition-item.result c.loop-condition.places c.in_ok-read.read.places c.join-places.result _
          (omega arith) c.condition-item.is c.join-places.ensures c.in_ok-read.ensures.places c.loop-condition.invariant.places;
    }

pub returns-clause-letters : goal.returns-clause-letters
returns-clause-letters c =
    let s = c.args.self.now in
    Pairwise_end (SpellsCondition s) (condition_of s.source.now) c.args.conditions.now c.loop-condition.condition-index c.loop-condition.letters.items
    c.loop-condition-test.false c.loop-condition.invariant.letters

pub returns-clause-places : goal.returns-clause-places
returns-clause-places c =
    let s = c.args.self.now in
    places_end (condition_of s.source.now) (condition_places s (binds_variable c.args.bound.now.letters.now)) c.args.conditions.now
    c.loop-condition.condition-index c.loop-condition.places _ c.loop-condition-test.false c.loop-condition.invariant.places

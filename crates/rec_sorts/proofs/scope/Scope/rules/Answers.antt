use Rattle.std.proofs.Common.{arith}
use Rattle.rec_syntax.specs.Parts.{rule_of}
use Rattle.rec_sorts.specs.Reading.{SpellsRule, rule_places}
use Rattle.rec_sorts.proofs.TurnLemmas.{Pairwise_turn, Pairwise_end, places_turn, places_end}
use Rattle.rec_sorts.proofs.scope.Scope.rules.Goals as goal

pub loop-rule-preserved : goal.loop-rule-preserved
loop-rule-preserved c =
    let s = c.args.self.now in
    record {
      letters = Pairwise_turn (SpellsRule s) (rule_of s.source.now) c.args.rules.now c.loop-rule.rule-index c.rule-item.result
          c.loop-rule.letters.items c.push.new.self.items c.in_ok-read.read.letters
          (omega arith) c.rule-item.is c.in_ok-push.ensures.items c.loop-rule.invariant.letters c.in_ok-read.ensures.letters;
      places = places_turn (rule_of s.source.now) (rule_places s) c.args.rules.now c.loop-rule.rule-index c.rule-item.result c.loop-rule.places
          c.in_ok-read.read.places c.join-places.result _
          (omega arith) c.rule-item.is c.join-places.ensures c.in_ok-read.ensures.places c.loop-rule.invariant.places;
    }

pub returns-clause-letters : goal.returns-clause-letters
returns-clause-letters c =
    let s = c.args.self.now in
    Pairwise_end (SpellsRule s) (rule_of s.source.now) c.args.rules.now c.loop-rule.rule-index c.loop-rule.letters.items c.loop-rule-test.false
    c.loop-rule.invariant.letters

pub returns-clause-places : goal.returns-clause-places
returns-clause-places c =
    let s = c.args.self.now in
    places_end (rule_of s.source.now) (rule_places s) c.args.rules.now c.loop-rule.rule-index c.loop-rule.places _ c.loop-rule-test.false
    c.loop-rule.invariant.places

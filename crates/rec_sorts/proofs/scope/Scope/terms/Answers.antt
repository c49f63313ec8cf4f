use Rattle.std.proofs.Common.{arith}
use Rattle.rec_syntax.specs.Parts.{term_of}
use Rattle.rec_sorts.specs.Reading.{SpellsTerm, open_term_places}
use Rattle.rec_sorts.proofs.TurnLemmas.{Pairwise_turn, Pairwise_end, places_turn, places_end}
use Rattle.rec_sorts.proofs.scope.Scope.terms.Goals as goal

pub loop-term-preserved : goal.loop-term-preserved
loop-term-preserved c =
    let s = c.args.self.now in
    record {
      letters = Pairwise_turn (λ v t. SpellsTerm s v.items t) (term_of s.source.now) c.args.terms.now c.loop-term.term-index c.term-item.result
          c.loop-term.letters.items c.push.new.self.items c.in_ok-read.read.letters
          (omega arith) c.term-item.is c.in_ok-push.ensures.items c.loop-term.invariant.letters c.in_ok-read.ensures.letters;
      places = places_turn (term_of s.source.now) (open_term_places s) c.args.terms.now c.loop-term.term-index c.term-item.result c.loop-term.places
          c.in_ok-read.read.places c.join-places.result _
          (omega arith) c.term-item.is c.join-places.ensures c.in_ok-read.ensures.places c.loop-term.invariant.places;
    }

pub returns-clause-letters : goal.returns-clause-letters
returns-clause-letters c =
    let s = c.args.self.now in
    Pairwise_end (λ v t. SpellsTerm s v.items t) (term_of s.source.now) c.args.terms.now c.loop-term.term-index c.loop-term.letters.items
    c.loop-term-test.false c.loop-term.invariant.letters

pub returns-clause-places : goal.returns-clause-places
returns-clause-places c =
    let s = c.args.self.now in
    places_end (term_of s.source.now) (open_term_places s) c.args.terms.now c.loop-term.term-index c.loop-term.places _ c.loop-term-test.false
    c.loop-term.invariant.places

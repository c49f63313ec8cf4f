use Rattle.std.proofs.Common.{◌≡◌, take, drop, map}
use Rattle.rec_syntax.specs.Parts.{term_of}
use Rattle.rec_sorts.specs.Least.{joined}
use Rattle.rec_sorts.specs.Numbering.{Pairwise}
use Rattle.rec_sorts.specs.Reading.{SpellsTerm, open_terms_places}
use Rattle.rec_sorts.proofs.scope.Scope.terms.Given as goal

abbrev pub invariant-loop-term : goal.invariant-loop-term
invariant-loop-term l = record {
  letters : Pairwise (λ v t. SpellsTerm l.self v.items t) l.letters.items (map (term_of l.self.source.now) (take l.term-index l.terms));
  places : joined l.places (open_terms_places l.self (map (term_of l.self.source.now) (drop l.term-index l.terms))) ≡ open_terms_places l.self
      (map (term_of l.self.source.now) l.terms);
}

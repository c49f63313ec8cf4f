use Rattle.std.proofs.Common.{ap, ◌∙◌, false}
use Rattle.rec_syntax.specs.Parts.{term_of}
use Rattle.rec_sorts.specs.Reading.{unbound_among}
use Rattle.rec_sorts.proofs.RulePartLemmas.{open_term_places-parts}
use Rattle.rec_sorts.proofs.scope.Scope.open_term.Goals as goal

pub returns-clause-places : goal.returns-clause-places
returns-clause-places c =
    let s = c.args.self.now in
    c.join.ensures
    ∙ open_term_places-parts s (term_of s.source.now c.args.term.now) c.in_ok-read.read c.first_variable.result c.in_ok-read.ensures.places_read
    (c.first_variable.ensures ∙ ap (unbound_among (λ _. false)) (c.deref.ensures.value ∙ c.in_ok-read.ensures.letters_read))

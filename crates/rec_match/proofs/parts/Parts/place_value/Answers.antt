use Rattle.std.proofs.Common.{rules, sym, ap, subst, ◌∙◌, length}
use Rattle.std.proofs.lemmas.List.{get_or_default}
use Rattle.rec_match.specs.Placed.{ArePlacesIn}
use Rattle.rec_match.specs.declared.parts.Part.{Part}
use Rattle.rec_match.proofs.LeafLemmas.{placed_again, placed_first}
use Rattle.rec_match.proofs.parts.Parts.place_value.Goals as goal

pub returns-in-Some-clause-place : goal.returns-in-Some-clause-place
returns-in-Some-clause-place c =
    placed_again c.args.self.now c.args.code c.args.variables.now.items c.in-Variable.variable
    (ap (λ (p : Part). p.meaning) (get_or_default c.args.self.now.parts.items c.args.code.part _ c.index.result.now c.requires.there.there
    ∙ sym c.index.ensures) ∙ c.in-Variable.is)
    c.args.places.now.items _ c.in-Some.value (c.in-Some.ensures c.args.variables.now.items c.requires.given) c.in_ok-push.ensures.items

pub returns-clause-place : goal.returns-clause-place
returns-clause-place c =
    placed_first c.args.self.now c.args.code c.args.variables.now.items c.in-Variable.variable
    (ap (λ (p : Part). p.meaning) (get_or_default c.args.self.now.parts.items c.args.code.part _ c.index.result.now c.requires.there.there
    ∙ sym c.index.ensures) ∙ c.in-Variable.is)
    c.push-2.new.self.items c.args.places.now.items _ (c.in_default-place.ensures c.args.variables.now.items c.requires.given)
    c.in_ok-push-2.ensures.items c.in_ok-push-3.ensures.items

pub returns-clause-given : goal.returns-clause-given
returns-clause-given c =
    subst (λ xs. ArePlacesIn xs (length c.args.given.now.of.items) c.give.new.self.of.items) (sym c.in_ok-push-2.ensures.items)
    (c.give.ensures c.args.variables.now.items c.requires.given (c.in_default-place.ensures c.args.variables.now.items c.requires.given) (search rules))

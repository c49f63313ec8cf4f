use Rattle.std.proofs.Common.{ap, ◌∙◌}
use Rattle.rec_syntax.specs.Parts.{rule_of}
use Rattle.rec_sorts.specs.Reading.{bound_places}
use Rattle.rec_sorts.proofs.RulePartLemmas.{rule_places-parts}
use Rattle.rec_sorts.proofs.scope.Scope.rule.Goals as goal

pub returns-clause-places : goal.returns-clause-places
returns-clause-places c =
    let s = c.args.self.now in
    let r = rule_of s.source.now c.args.rule.now in
    let left = c.sides.new.left.items in
    let right = c.sides.new.room.right.items in
    c.join.ensures
    ∙ rule_places-parts s r left right _ _ c.in_ok-of_sides.ensures.left c.in_ok-of_sides.ensures.right c.in_ok-of_sides.ensures.places
    (c.in_ok-read.ensures.places ∙ ap (λ xs. bound_places s xs right r.conditions) (c.in_ok-bound.ensures ∙ c.deref.ensures.value))

use Rattle.std.proofs.Common.{◌≡◌, [], rules, ap}
use Rattle.rec_uses.specs.Inner.Values.{as_uses}
use Rattle.rec_uses.proofs.UseLemmas.{all_pushed}
use Rattle.rec_uses.proofs.uses.uses_of.Goals as goal

pub returns : goal.returns
returns c =
    let none : c.new-uses.result.items ≡ [] = search rules in
    all_pushed c.args.syntax.now.spec _ _ _ _ _ _ (as_uses c.new-uses.result.items) _ _ _ _ _ _ c.sorts.ensures.sorts
    c.constructors.ensures.constructors c.operators.ensures.operators c.groups.ensures.groups c.rules.ensures.rules c.terms.ensures.terms
    (ap as_uses none) c.in_ok-push_words.ensures c.in_ok-push_declarations.ensures c.in_ok-push_declarations-2.ensures
    c.in_ok-push_groups.ensures c.in_ok-push_rules.ensures c.in_ok-push_terms.ensures

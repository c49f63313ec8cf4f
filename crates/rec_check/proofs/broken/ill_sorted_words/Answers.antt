use Rattle.std.proofs.Common.{◌≡◌, sym, ap, ◌∙◌, ◌++◌}
use Rattle.std.specs.Prelude.{count_by}
use Rattle.rec_sorts.specs.Lookup.{rule_terms}
use Rattle.rec_check.specs.Errors.{judged_words}
use Rattle.rec_check.specs.declared.finding.Rule.TheVariants.{IllSorted}
use Rattle.rec_check.specs.Named.{as_nodes}
use Rattle.rec_check.specs.Walks.{flat_terms, ill_sorted_among}
use Rattle.std.specs.Prelude.{[]}
use Rattle.rec_syntax.specs.Syntax.{Sourced}
use Rattle.rec_check.proofs.WalkLemmas.{same-ill_sorted}
use Rattle.rec_check.proofs.WordLemmas.{if_ok_same}
use Rattle.rec_check.proofs.broken.ill_sorted_words.Goals as goal

pub returns : goal.returns
returns c =
    let y = c.args.syntax.now.spec in
    let ts = rule_terms y.rules ++ y.terms in
    let nodes : as_nodes c.deref.result.now ≡ flat_terms ts = ap as_nodes c.deref.ensures.value ∙ c.in_ok-nodes.ensures in
    if_ok_same c.ill_sorted_words.result (judged_words y IllSorted)
    (ill_sorted_among c.in_ok-scope.scope.syntax.now.spec [] (as_nodes c.deref.result.now))
    c.ill_sorted_words.ensures
    (λ p. same-ill_sorted y [] ts p
    ∙ ap (λ ns. count_by p (ill_sorted_among y [] ns)) (sym nodes)
    ∙ ap (λ (s : Sourced). count_by p (ill_sorted_among s.spec [] (as_nodes c.deref.result.now))) (sym c.in_ok-scope.ensures.same))

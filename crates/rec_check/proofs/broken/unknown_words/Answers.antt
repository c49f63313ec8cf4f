use Rattle.std.proofs.Common.{◌≡◌, sym, ap, ◌∙◌, ◌++◌}
use Rattle.std.specs.Prelude.{count_by}
use Rattle.rec_sorts.specs.Lookup.{names, rule_terms, symbols, variable_words}
use Rattle.rec_sorts.specs.SpecRules.{missing, unknown_words}
use Rattle.rec_check.specs.Named.{as_words, node_words}
use Rattle.rec_check.specs.Walks.{flat_terms}
use Rattle.rec_check.proofs.WalkLemmas.{same-missing}
use Rattle.rec_check.proofs.WordLemmas.{if_ok_same}
use Rattle.rec_check.proofs.broken.unknown_words.Goals as goal

pub returns : goal.returns
returns c =
    let y = c.args.syntax.now.spec in
    let ts = rule_terms y.rules ++ y.terms in
    let ks = names (symbols y) ++ variable_words y.variables in
    let words : as_words c.deref.result.now ≡ node_words (flat_terms ts) = ap as_words c.deref.ensures.value ∙ c.in_ok-words.ensures in
    if_ok_same c.missing_words.result (unknown_words y) (missing ks (as_words c.deref.result.now)) (c.missing_words.ensures ks c.in_ok-known.ensures) (λ p.
    same-missing ks ts p ∙ ap (λ ws. count_by p (missing ks ws)) (sym words))

use Rattle.std.proofs.Common.{◌≡◌, sym, ap, ◌∙◌}
use Rattle.std.specs.Prelude.{count_by}
use Rattle.rec_sorts.specs.Lookup.{variable_words}
use Rattle.rec_sorts.specs.SpecRules.{open_terms}
use Rattle.rec_check.specs.Lookups.{present}
use Rattle.rec_check.specs.Named.{as_words, node_words}
use Rattle.rec_check.specs.Walks.{flat_terms}
use Rattle.rec_check.proofs.WalkLemmas.{same-present}
use Rattle.rec_check.proofs.WordLemmas.{if_ok_same}
use Rattle.rec_check.proofs.broken.open_terms.Goals as goal

pub returns : goal.returns
returns c =
    let y = c.args.syntax.now.spec in
    let ks = variable_words y.variables in
    let words : as_words c.deref.result.now ≡ node_words (flat_terms y.terms) = ap as_words c.deref.ensures.value ∙ c.in_ok-words.ensures in
    if_ok_same c.present_words.result (open_terms y) (present ks (as_words c.deref.result.now)) (c.present_words.ensures ks c.in_ok-known.ensures) (λ p.
    same-present ks y.terms p ∙ ap (λ ws. count_by p (present ks ws)) (sym words))

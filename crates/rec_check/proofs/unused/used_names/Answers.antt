use Rattle.std.proofs.Common.{◌≡◌, sym, ap, ◌∙◌, ◌++◌}
use Rattle.rec_sorts.specs.Lookup.{mentions, rule_terms}
use Rattle.rec_sorts.specs.SpecRules.{all_terms, heads}
use Rattle.rec_check.specs.Named.{as_words, node_words}
use Rattle.rec_check.specs.Walks.{flat_terms}
use Rattle.rec_check.proofs.WalkLemmas.{mentions-same, same-words}
use Rattle.rec_check.proofs.WordLemmas.{if_ok_knows}
use Rattle.rec_check.proofs.unused.used_names.Goals as goal

pub returns : goal.returns
returns c =
    let y = c.args.syntax.now.spec in
    let ts = rule_terms y.rules ++ y.terms in
    let words : as_words c.deref.result.now ≡ node_words (flat_terms ts) = ap as_words c.deref.ensures.value ∙ c.in_ok-words.ensures in
    if_ok_knows c.of.result (as_words c.deref.result.now) (heads (all_terms y)) c.of.ensures.known
    (λ name. ap (λ ws. mentions ws name) words ∙ sym (mentions-same (heads (all_terms y)) (node_words (flat_terms ts)) name (same-words ts)))

use Rattle.std.proofs.Common.{ap, ◌∙◌}
use Rattle.rec_syntax.specs.Nodes.{flat}
use Rattle.rec_syntax.specs.Parts.{rule_of}
use Rattle.rec_sorts.specs.SpecRules.{missing}
use Rattle.rec_check.specs.Named.{as_words, node_words}
use Rattle.rec_check.proofs.WordLemmas.{if_ok_equal}
use Rattle.rec_check.proofs.broken.unbound_variables_of.Goals as goal

pub returns : goal.returns
returns c =
    let left = node_words (flat (rule_of c.args.syntax.now.source c.args.rule.now).left) in
    if_ok_equal c.missing_words.result (missing left (as_words c.deref.result.now)) _ (c.missing_words.ensures left c.in_ok-bound.ensures)
    (ap (missing left) (ap as_words c.deref.ensures.value ∙ c.in_ok-used.ensures))

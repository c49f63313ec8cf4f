use Rattle.std.proofs.Common.{map, sym, ap, ◌∙◌, ◌++◌}
use Rattle.std.specs.Prelude.{flat_map}
use Rattle.rec_syntax.specs.Parts.{rule_of}
use Rattle.rec_check.specs.Named.{as_words}
use Rattle.rec_check.specs.Walks.{unlike_in}
use Rattle.rec_check.proofs.WalkLemmas.{heads-unlike_rules}
use Rattle.rec_check.proofs.broken.unlike_sides.Goals as goal

pub returns : goal.returns
returns c =
    let y = c.args.syntax.now.spec in
    c.in_ok-push_unlike_rules.ensures
    ∙ ap (λ ws. as_words ws ++ flat_map (unlike_in y) (map (rule_of c.args.syntax.now.source) c.rules.result.now)) c.new-found.ensures.items
    ∙ ap (flat_map (unlike_in y)) c.rules.ensures.rules
    ∙ sym (heads-unlike_rules y y.rules)

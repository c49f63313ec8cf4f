use Rattle.std.proofs.Common.{map, sym, ap, ◌∙◌, ◌++◌}
use Rattle.std.specs.Prelude.{flat_map, count_by}
use Rattle.rec_syntax.specs.Parts.{rule_of}
use Rattle.rec_check.specs.Named.{as_words}
use Rattle.rec_check.specs.Walks.{unbound_in}
use Rattle.rec_check.proofs.WalkLemmas.{same-unbound}
use Rattle.rec_check.proofs.broken.unbound_variables.Goals as goal

pub returns : goal.returns
returns c =
    let y = c.args.syntax.now.spec in
    let found = c.in_ok-push_unbound.ensures
    ∙ ap (λ ws. as_words ws ++ flat_map (unbound_in y) (map (rule_of c.args.syntax.now.source) c.rules.result.now)) c.new-found.ensures.items
    ∙ ap (flat_map (unbound_in y)) c.rules.ensures.rules in
    λ p. same-unbound y y.rules p ∙ ap (count_by p) (sym found)

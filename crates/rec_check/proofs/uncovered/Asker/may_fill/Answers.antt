use Rattle.std.proofs.Common.{ap, ◌∙◌}
use Rattle.std.specs.Prelude.{is_some}
use Rattle.rec_sorts.specs.Lookup.{mentions, names, symbols}
use Rattle.rec_sorts.specs.SpecRules.{all_terms, heads}
use Rattle.rec_check.specs.Lookups.{number_in}
use Rattle.rec_check.specs.Uncovered.{begins_rule}
use Rattle.rec_check.proofs.UncoveredLemmas.{filled_bools, name_at}
use Rattle.rec_check.proofs.uncovered.Asker.may_fill.Goals as goal

pub returns : goal.returns
returns c = λ d at.
    let a = c.args.self.now in
    let y = a.checked.now.spec in
    let name = d.name.bytes in
    let is = c.symbol_name-name.ensures ∙ name_at (symbols a.checked.now.spec) c.args.symbol d at in
    c.fills.ensures ∙ filled_bools c.has-is_begun.result c.has-is_made.result c.has-is_used.result
    (begins_rule y name) (mentions (names y.constructors) name) (mentions (heads (all_terms y)) name)
    (c.has-is_begun.ensures ∙ ap (λ n. is_some (number_in a.begun n)) is ∙ c.requires.begun d.name.bytes)
    (c.has-is_made.ensures ∙ ap (λ n. is_some (number_in a.made n)) is ∙ c.requires.made d.name.bytes)
    (c.has-is_used.ensures ∙ ap (λ n. is_some (number_in a.used n)) is ∙ c.requires.used d.name.bytes)

use Rattle.std.proofs.Common.{ap, ◌∙◌}
use Rattle.std.specs.Prelude.{is_some}
use Rattle.rec_sorts.specs.Lookup.{symbols}
use Rattle.rec_check.specs.Lookups.{number_in}
use Rattle.rec_check.proofs.UncoveredLemmas.{name_at}
use Rattle.rec_check.proofs.uncovered.Asker.is_ruled.Goals as goal

pub returns-clause-begins : goal.returns-clause-begins
returns-clause-begins c = λ d at. c.has.ensures ∙ ap (λ n. is_some (number_in c.args.self.now.begun n))
    (c.symbol_name.ensures ∙ name_at (symbols c.args.self.now.checked.now.spec) c.args.symbol d at) ∙ c.requires.begun d.name.bytes

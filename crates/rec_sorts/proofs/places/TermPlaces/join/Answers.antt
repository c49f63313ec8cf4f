use Rattle.std.proofs.Common.{sym, ◌∙◌}
use Rattle.rec_sorts.proofs.LeastPlaceLemmas.{joined_kept}
use Rattle.rec_sorts.proofs.places.TermPlaces.join.Goals as goal

pub returns-then-is_nowhere : goal.returns-then-is_nowhere
returns-then-is_nowhere c = sym (joined_kept c.args.self c.args.other (sym c.is_nowhere.ensures ∙ c.if-is_nowhere.true))

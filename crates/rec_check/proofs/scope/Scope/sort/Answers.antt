use Rattle.std.proofs.Common.{sym, ◌∙◌}
use Rattle.rec_check.proofs.LookupLemmas.{sort_found, sort_none}
use Rattle.rec_check.proofs.scope.Scope.sort.Goals as goal

pub returns-in-Some : goal.returns-in-Some
returns-in-Some c = c.sort_numbered.ensures ∙ sort_found c.args.self.now c.requires c.args.name.now c.in-Some.number (sym c.number.ensures ∙ c.in-Some.is)

pub returns-in-None : goal.returns-in-None
returns-in-None c = sort_none c.args.self.now c.requires c.args.name.now (sym c.number.ensures ∙ c.in-None.is)

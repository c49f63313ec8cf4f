use Rattle.std.proofs.Common.{sym, ◌∙◌}
use Rattle.rec_check.proofs.LookupLemmas.{symbol_at, symbol_none}
use Rattle.rec_check.proofs.scope.Scope.declaration.Goals as goal

pub returns-in-Some-clause-symbol : goal.returns-in-Some-clause-symbol
returns-in-Some-clause-symbol c = c.symbol_numbered.ensures.symbol
    ∙ symbol_at c.args.self.now c.requires c.args.name.now c.in-Some.number (sym c.number.ensures ∙ c.in-Some.is)

pub returns-in-None-clause-symbol : goal.returns-in-None-clause-symbol
returns-in-None-clause-symbol c = symbol_none c.args.self.now c.requires c.args.name.now (sym c.number.ensures ∙ c.in-None.is)

use Rattle.std.proofs.Common.{◌∙◌}
use Rattle.rec_trace.proofs.ListLemmas.{on-ok}
use Rattle.rec_trace.proofs.SavedLemmas.{all-saved, row-left}
use Rattle.rec_trace.proofs.saved.Saved.save_all.Goals as goal

pub returns-clause-leaves : goal.returns-clause-leaves
returns-clause-leaves g c =
    row-left (g.B.TermBank.store c.args.engine.now.bank) (g.B.TermBank.store c.save-saved.new.engine.bank) c.args.row.now c.save-saved.new.row
    c.cut.new.self c.save-saved.new.self c.args.count c.requires.can.within c.save-saved.ensures.keeps c.cut.ensures.steps c.cut.ensures.values
    c.cut.ensures.low

pub returns-clause-all : goal.returns-clause-all
returns-clause-all g c =
    on-ok c.save-saved.result
    (all-saved (g.B.TermBank.store c.args.engine.now.bank) (g.B.TermBank.store c.save-saved.new.engine.bank) c.args.row.now c.save-saved.new.row
    c.save-saved.new.self c.len-all.result (c.len-all.ensures ∙ c.args.row.now.values.ok.0))
    c.save-saved.ensures.saves

use Rattle.std.proofs.Common.{refl}
use Rattle.rec_trace.specs.Inner.Saving.{Saves}
use Rattle.rec_trace.proofs.SavedLemmas.{row-kept, row-refused, row-saved, row-stays, shortened}
use Rattle.rec_trace.proofs.saved.Saved.save.Given as given
use Rattle.rec_trace.proofs.saved.Saved.save.Goals.{In_ok-lengthen}
use Rattle.rec_trace.proofs.saved.Saved.save.Goals as goal

pub lengthen-requires-clause-saved : goal.lengthen-requires-clause-saved
lengthen-requires-clause-saved g c =
    shortened (g.B.TermBank.store c.args.engine.now.bank) (g.B.TermBank.store c.shorten.new.engine.bank) c.args.row.now c.args.self.now c.shorten.new.self
    c.requires.can.saved c.shorten.ensures.trees c.in_ok-shorten.ensures.shortens

pub returns-in_err-shorten-clause-keeps : goal.returns-in_err-shorten-clause-keeps
returns-in_err-shorten-clause-keeps g c =
    row-stays (g.B.TermBank.store c.args.engine.now.bank) (g.B.TermBank.store c.shorten.new.engine.bank) c.args.row.now c.args.self.now c.shorten.new.self
    c.requires.can.saved c.shorten.ensures.trees c.shorten.ensures.stays.kept c.in_err-shorten.ensures.refused

pub returns-in_err-lengthen-clause-keeps : goal.returns-in_err-lengthen-clause-keeps
returns-in_err-lengthen-clause-keeps g c =
    row-refused (g.B.TermBank.store c.args.engine.now.bank) (g.B.TermBank.store c.shorten.new.engine.bank)
    (g.B.TermBank.store c.lengthen.new.engine.bank) c.args.row.now (record c.args.row.now { values = c.lengthen.new.values }) c.args.self.now
    c.shorten.new.self c.lengthen.new.self c.requires.can.held c.requires.can.saved c.shorten.ensures.trees c.in_ok-shorten.ensures.shortens refl refl
    c.lengthen.ensures.relists.stays.kept c.in_err-lengthen.ensures.refused

-- the row's values are saved
saves : (g : given.Over) (c : In_ok-lengthen g) → Saves (g.B.TermBank.store c.args.engine.now.bank) (g.B.TermBank.store c.lengthen.new.engine.bank)
    c.args.row.now (record { steps = c.args.row.now.steps; values = c.lengthen.new.values; low = c.lengthen.new.self.count }) c.lengthen.new.self c.args.count
saves g c =
    row-saved (g.B.TermBank.store c.args.engine.now.bank) (g.B.TermBank.store c.shorten.new.engine.bank) (g.B.TermBank.store c.lengthen.new.engine.bank)
    c.args.row.now (record { steps = c.args.row.now.steps; values = c.lengthen.new.values; low = c.lengthen.new.self.count }) c.lengthen.new.self c.args.count
    c.requires.can.held c.shorten.ensures.trees refl refl c.lengthen.ensures.relists.stays.kept c.in_ok-lengthen.ensures.lengthens

pub returns-clause-saves : goal.returns-clause-saves
returns-clause-saves g c = saves g (goal.at.returns-clause-saves g c).In_ok-lengthen

pub returns-clause-keeps : goal.returns-clause-keeps
returns-clause-keeps g c =
    row-kept (g.B.TermBank.store c.args.engine.now.bank) (g.B.TermBank.store c.lengthen.new.engine.bank) c.args.row.now
    (record { steps = c.args.row.now.steps; values = c.lengthen.new.values; low = c.lengthen.new.self.count }) c.lengthen.new.self c.args.count
    (saves g (goal.at.returns-clause-keeps g c).In_ok-lengthen)

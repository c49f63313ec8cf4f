use Rattle.std.proofs.Common.{[], refl, subst, sym, ◌∙◌}
use Rattle.rec_trace.specs.Tracing.{whole_of}
use Rattle.rec_trace.proofs.RewriteLemmas.{IsWritten, StandsStill, all-left, copy-answer, copy-written, stays-called, still-called, still-left}
use Rattle.rec_trace.proofs.tracer.Tracer.whole.Given as given
use Rattle.rec_trace.proofs.tracer.Tracer.whole.Goals.{After-save_all, After-write, In_ok-copy}
use Rattle.rec_trace.proofs.tracer.Tracer.whole.Goals as goal

-- the copy writes down the whole term
wrote : (g : given.Over) (c : In_ok-copy g) → IsWritten c.save_all.new.engine.spec (g.B.TermBank.store c.save_all.new.engine.bank) c.in_ok-copy.copy
    (whole_of c.args.engine.now.spec (g.B.TermBank.store c.args.engine.now.bank) c.args.self.now)
wrote g c =
    let y = c.args.engine.now.spec in
    let w = g.B.TermBank.store c.args.engine.now.bank in
    let w1 = g.B.TermBank.store c.save_all.new.engine.bank in
    let t = c.args.self.now in
    subst (λ z. IsWritten z w1 c.in_ok-copy.copy (whole_of y w t)) (sym c.save_all.ensures.relists.same.spec)
    (copy-written y w w1 t c.save_all.new.row c.in_ok-copy.copy c.save_all.new.self c.len-count.result c.requires
    (c.len-count.ensures ∙ t.row.values.ok.0) c.save_all.ensures.leaves c.in_ok-copy.ensures.steps c.in_ok-copy.ensures.values)

pub write-requires-clause-row : goal.write-requires-clause-row
write-requires-clause-row g c = (wrote g (goal.at.write-requires-clause-row g c).In_ok-copy).row

pub write-requires-clause-fits : goal.write-requires-clause-fits
write-requires-clause-fits g c = (wrote g (goal.at.write-requires-clause-fits g c).In_ok-copy).fits

pub returns-clause-spares : goal.returns-clause-spares
returns-clause-spares g c =
    stays-called (g.B.TermBank.store c.args.engine.now.bank) (g.B.TermBank.store c.save_all.new.engine.bank) (g.B.TermBank.store c.write.new.engine.bank)
    c.args.self.now.saved.list c.save_all.new.self.list [] c.save_all.ensures.relists.stays c.write.ensures.builds.keeps

-- the state stays where values were saved
left : (g : given.Over) (c : After-save_all g)
    → StandsStill c.args.engine.now.spec (g.B.TermBank.store c.args.engine.now.bank) (g.B.TermBank.store c.save_all.new.engine.bank)
    c.args.self.now (record c.args.self.now { row = c.save_all.new.row; saved = c.save_all.new.self })
left g c =
    let t = c.args.self.now in
    still-left (g.B.TermBank.store c.args.engine.now.bank) (g.B.TermBank.store c.save_all.new.engine.bank) t.row c.save_all.new.row c.save_all.new.self
    c.len-count.result c.save_all.ensures.leaves c.args.engine.now.spec t (record t { row = c.save_all.new.row; saved = c.save_all.new.self }) c.requires
    refl (all-left t c.len-count.result (c.len-count.ensures ∙ t.row.values.ok.0)) refl refl refl

-- and where the copy was written down
written : (g : given.Over) (c : After-write g)
    → StandsStill c.args.engine.now.spec (g.B.TermBank.store c.args.engine.now.bank) (g.B.TermBank.store c.write.new.engine.bank)
    c.args.self.now (record c.args.self.now { row = c.save_all.new.row; saved = c.save_all.new.self })
written g c =
    let t = c.args.self.now in
    still-called (g.B.TermBank.store c.args.engine.now.bank) (g.B.TermBank.store c.save_all.new.engine.bank) t.row c.save_all.new.row c.save_all.new.self
    c.len-count.result c.save_all.ensures.leaves c.args.engine.now.spec t (record t { row = c.save_all.new.row; saved = c.save_all.new.self }) c.requires
    refl (all-left t c.len-count.result (c.len-count.ensures ∙ t.row.values.ok.0)) refl refl refl (g.B.TermBank.store c.write.new.engine.bank) []
    c.requires.order.row.held c.in_ok-save_all.ensures.all c.write.ensures.builds.keeps

pub returns-in_err-save_all-clause-stands : goal.returns-in_err-save_all-clause-stands
returns-in_err-save_all-clause-stands g c = (left g (goal.at.returns-in_err-save_all-clause-stands g c).After-save_all).stands

pub returns-in_err-save_all-clause-rest : goal.returns-in_err-save_all-clause-rest
returns-in_err-save_all-clause-rest g c = (left g (goal.at.returns-in_err-save_all-clause-rest g c).After-save_all).rest

pub returns-in_err-copy-clause-stands : goal.returns-in_err-copy-clause-stands
returns-in_err-copy-clause-stands g c = (left g (goal.at.returns-in_err-copy-clause-stands g c).After-save_all).stands

pub returns-in_err-copy-clause-rest : goal.returns-in_err-copy-clause-rest
returns-in_err-copy-clause-rest g c = (left g (goal.at.returns-in_err-copy-clause-rest g c).After-save_all).rest

pub returns-clause-stands : goal.returns-clause-stands
returns-clause-stands g c = (written g (goal.at.returns-clause-stands g c).After-write).stands

pub returns-clause-rest : goal.returns-clause-rest
returns-clause-rest g c = (written g (goal.at.returns-clause-rest g c).After-write).rest

pub returns-clause-whole : goal.returns-clause-whole
returns-clause-whole g c =
    copy-answer c.save_all.new.engine.spec (g.B.TermBank.store c.save_all.new.engine.bank) (g.B.TermBank.store c.write.new.engine.bank) c.in_ok-copy.copy
    (whole_of c.args.engine.now.spec (g.B.TermBank.store c.args.engine.now.bank) c.args.self.now) c.write.result
    (wrote g (goal.at.returns-clause-whole g c).In_ok-copy) c.write.ensures.written

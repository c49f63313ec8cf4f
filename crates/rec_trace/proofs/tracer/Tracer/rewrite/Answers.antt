use Rattle.std.proofs.Common.{[], refl, subst, sym, ◌∙◌}
use Rattle.rec_trace.specs.Lists.{Stays}
use Rattle.rec_trace.specs.Tracing.{Rewrites}
use Rattle.rec_trace.proofs.RewriteLemmas.{StandsStill, above-held, above-redex, called-parts, stays-called}
use Rattle.rec_trace.proofs.RewriteLemmas.{still-called, still-left, still-refused, under-redex}
use Rattle.rec_trace.proofs.tracer.Tracer.rewrite.Given as given
use Rattle.rec_trace.proofs.tracer.Tracer.rewrite.Goals.{After-save_all, After-write_contractum}
use Rattle.rec_trace.proofs.tracer.Tracer.rewrite.Goals as goal

pub write_contractum-requires : goal.write_contractum-requires
write_contractum-requires g c =
    let w = g.B.TermBank.store c.args.engine.now.bank in
    let w1 = g.B.TermBank.store c.save_all.new.engine.bank in
    let t = c.args.self.now in
    let u = c.requires.redex.0 in
    let same = above-redex w t.row c.give.new.self c.args.redex u c.requires.stands.order.row.held c.requires.redex.2 c.in_ok-give.ensures.values w1
    c.save_all.ensures.leaves.parts in
    record {
      redex = (
        u,
        c.requires.redex.1,
        same ∙ c.requires.redex.2,
        subst (λ y. Rewrites y c.args.rule u c.requires.redex.1) (sym c.save_all.ensures.relists.same.spec) c.requires.redex.3,
      );
    }

pub returns-in_err-give-clause-stands : goal.returns-in_err-give-clause-stands
returns-in_err-give-clause-stands g c =
    let t = c.args.self.now in
    (still-refused c.args.engine.now.spec (g.B.TermBank.store c.args.engine.now.bank) t (record t { row = c.give.new.self }) c.requires.stands
    c.give.ensures.steps c.in_err-give.ensures.same c.give.ensures.low refl refl).stands

-- the state stays where values were saved
left : (g : given.Over) (c : After-save_all g)
    → StandsStill c.args.engine.now.spec (g.B.TermBank.store c.args.engine.now.bank) (g.B.TermBank.store c.save_all.new.engine.bank)
    c.args.self.now (record c.args.self.now { row = c.save_all.new.row; saved = c.save_all.new.self })
left g c =
    let w = g.B.TermBank.store c.args.engine.now.bank in
    let t = c.args.self.now in
    still-left w (g.B.TermBank.store c.save_all.new.engine.bank) c.give.new.self c.save_all.new.row c.save_all.new.self c.len-count.result
    c.save_all.ensures.leaves c.args.engine.now.spec t (record t { row = c.save_all.new.row; saved = c.save_all.new.self }) c.requires.stands
    c.give.ensures.steps
    (under-redex w t.row c.give.new.self c.args.redex c.requires.redex.0 c.requires.stands.order.row.held c.requires.redex.2 c.in_ok-give.ensures.values
    c.len-count.result (c.len-count.ensures ∙ t.row.values.ok.0)) refl refl refl

-- and where what the redex becomes was written down
written : (g : given.Over) (c : After-write_contractum g)
    → StandsStill c.args.engine.now.spec (g.B.TermBank.store c.args.engine.now.bank) (g.B.TermBank.store c.write_contractum.new.engine.bank)
    c.args.self.now c.write_contractum.new.self
written g c =
    let w = g.B.TermBank.store c.args.engine.now.bank in
    let t = c.args.self.now in
    let u = c.requires.redex.0 in
    let held = c.requires.stands.order.row.held in
    let values = c.in_ok-give.ensures.values in
    still-called w (g.B.TermBank.store c.save_all.new.engine.bank) c.give.new.self c.save_all.new.row c.save_all.new.self c.len-count.result
    c.save_all.ensures.leaves c.args.engine.now.spec t c.write_contractum.new.self c.requires.stands c.give.ensures.steps
    (under-redex w t.row c.give.new.self c.args.redex u held c.requires.redex.2 values c.len-count.result (c.len-count.ensures ∙ t.row.values.ok.0))
    c.write_contractum.ensures.row c.write_contractum.ensures.saved c.write_contractum.ensures.left
    (g.B.TermBank.store c.write_contractum.new.engine.bank) []
    (above-held w t.row c.give.new.self c.args.redex u held c.requires.redex.2 values) c.in_ok-save_all.ensures.all c.write_contractum.ensures.builds.keeps

pub returns-in_err-save_all-clause-stands : goal.returns-in_err-save_all-clause-stands
returns-in_err-save_all-clause-stands g c = (left g (goal.at.returns-in_err-save_all-clause-stands g c).After-save_all).stands

pub returns-in_err-save_all-clause-rest : goal.returns-in_err-save_all-clause-rest
returns-in_err-save_all-clause-rest g c = (left g (goal.at.returns-in_err-save_all-clause-rest g c).After-save_all).rest

pub returns-in_err-save_all-clause-whole : goal.returns-in_err-save_all-clause-whole
returns-in_err-save_all-clause-whole g c = (left g (goal.at.returns-in_err-save_all-clause-whole g c).After-save_all).whole

pub returns-in_err-contractum-clause-stands : goal.returns-in_err-contractum-clause-stands
returns-in_err-contractum-clause-stands g c = (written g (goal.at.returns-in_err-contractum-clause-stands g c).After-write_contractum).stands

pub returns-in_err-contractum-clause-rest : goal.returns-in_err-contractum-clause-rest
returns-in_err-contractum-clause-rest g c = (written g (goal.at.returns-in_err-contractum-clause-rest g c).After-write_contractum).rest

pub returns-in_err-contractum-clause-whole : goal.returns-in_err-contractum-clause-whole
returns-in_err-contractum-clause-whole g c = (written g (goal.at.returns-in_err-contractum-clause-whole g c).After-write_contractum).whole

pub returns-clause-stands : goal.returns-clause-stands
returns-clause-stands g c = (written g (goal.at.returns-clause-stands g c).After-write_contractum).stands

pub returns-clause-rest : goal.returns-clause-rest
returns-clause-rest g c = (written g (goal.at.returns-clause-rest g c).After-write_contractum).rest

pub returns-clause-whole : goal.returns-clause-whole
returns-clause-whole g c = (written g (goal.at.returns-clause-whole g c).After-write_contractum).whole

pub returns-in_err-contractum-clause-spares : goal.returns-in_err-contractum-clause-spares
returns-in_err-contractum-clause-spares g c =
    subst (λ s. Stays (g.B.TermBank.store c.args.engine.now.bank) (g.B.TermBank.store c.write_contractum.new.engine.bank) c.args.self.now.saved.list s.list)
    (sym c.write_contractum.ensures.saved)
    (stays-called (g.B.TermBank.store c.args.engine.now.bank) (g.B.TermBank.store c.save_all.new.engine.bank)
    (g.B.TermBank.store c.write_contractum.new.engine.bank) c.args.self.now.saved.list c.save_all.new.self.list [] c.save_all.ensures.relists.stays
    c.write_contractum.ensures.builds.keeps)

pub returns-clause-spares : goal.returns-clause-spares
returns-clause-spares g c =
    subst (λ s. Stays (g.B.TermBank.store c.args.engine.now.bank) (g.B.TermBank.store c.write_contractum.new.engine.bank) c.args.self.now.saved.list s.list)
    (sym c.write_contractum.ensures.saved)
    (stays-called (g.B.TermBank.store c.args.engine.now.bank) (g.B.TermBank.store c.save_all.new.engine.bank)
    (g.B.TermBank.store c.write_contractum.new.engine.bank) c.args.self.now.saved.list c.save_all.new.self.list [] c.save_all.ensures.relists.stays
    c.write_contractum.ensures.builds.keeps)

pub returns-clause-redex : goal.returns-clause-redex
returns-clause-redex g c =
    let w = g.B.TermBank.store c.args.engine.now.bank in
    let w1 = g.B.TermBank.store c.save_all.new.engine.bank in
    let w2 = g.B.TermBank.store c.write_contractum.new.engine.bank in
    let t = c.args.self.now in
    let u = c.requires.redex.0 in
    above-redex w t.row c.give.new.self c.args.redex u c.requires.stands.order.row.held c.requires.redex.2 c.in_ok-give.ensures.values w2
    (called-parts w w1 c.give.new.self c.save_all.new.row c.save_all.new.self c.len-count.result c.save_all.ensures.leaves w2 []
    (above-held w t.row c.give.new.self c.args.redex u c.requires.stands.order.row.held c.requires.redex.2 c.in_ok-give.ensures.values)
    c.in_ok-save_all.ensures.all c.write_contractum.ensures.builds.keeps)

pub returns-clause-contractum : goal.returns-clause-contractum
returns-clause-contractum g c = λ u v redex_at rewrites.
    let w = g.B.TermBank.store c.args.engine.now.bank in
    let w1 = g.B.TermBank.store c.save_all.new.engine.bank in
    let t = c.args.self.now in
    let same = above-redex w t.row c.give.new.self c.args.redex u c.requires.stands.order.row.held redex_at c.in_ok-give.ensures.values w1
    c.save_all.ensures.leaves.parts in
    c.in_ok-contractum.ensures.contractum u v (same ∙ redex_at) (subst (λ y. Rewrites y c.args.rule u v) (sym c.save_all.ensures.relists.same.spec) rewrites)

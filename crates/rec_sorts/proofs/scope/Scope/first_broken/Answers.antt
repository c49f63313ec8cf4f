use Rattle.std.proofs.Common.{◌∙◌, sym, refl, true, false}
use Rattle.rec_sorts.proofs.WalkedLemmas.{broken_is}
use Rattle.rec_sorts.proofs.scope.Scope.first_broken.Goals as goal

pub returns-then-any_no_application : goal.returns-then-any_no_application
returns-then-any_no_application g c =
    broken_is (g.B.TermBank.store c.args.bank.now) c.args.self.now c.args.all.now c.args.inner.now true _ _ _ _
    (sym c.if-any_no_application.true ∙ c.any_no_application.ensures) refl refl refl refl

pub returns-then-any_annotated : goal.returns-then-any_annotated
returns-then-any_annotated g c =
    broken_is (g.B.TermBank.store c.args.bank.now) c.args.self.now c.args.all.now c.args.inner.now false true _ _ _
    (sym c.if-any_no_application.false ∙ c.any_no_application.ensures) (sym c.if-any_annotated.true ∙ c.any_annotated.ensures) refl refl refl

pub returns-then-any_nameless : goal.returns-then-any_nameless
returns-then-any_nameless g c =
    broken_is (g.B.TermBank.store c.args.bank.now) c.args.self.now c.args.all.now c.args.inner.now false false true _ _
    (sym c.if-any_no_application.false ∙ c.any_no_application.ensures) (sym c.if-any_annotated.false ∙ c.any_annotated.ensures)
    (sym c.if-any_nameless.true ∙ c.any_nameless.ensures) refl refl

pub returns-then-any_misfilled : goal.returns-then-any_misfilled
returns-then-any_misfilled g c =
    broken_is (g.B.TermBank.store c.args.bank.now) c.args.self.now c.args.all.now c.args.inner.now false false false true _
    (sym c.if-any_no_application.false ∙ c.any_no_application.ensures) (sym c.if-any_annotated.false ∙ c.any_annotated.ensures)
    (sym c.if-any_nameless.false ∙ c.any_nameless.ensures) (sym c.if-any_misfilled.true ∙ c.any_misfilled.ensures) refl

pub returns-then-any_misfit : goal.returns-then-any_misfit
returns-then-any_misfit g c =
    broken_is (g.B.TermBank.store c.args.bank.now) c.args.self.now c.args.all.now c.args.inner.now false false false false true
    (sym c.if-any_no_application.false ∙ c.any_no_application.ensures) (sym c.if-any_annotated.false ∙ c.any_annotated.ensures)
    (sym c.if-any_nameless.false ∙ c.any_nameless.ensures) (sym c.if-any_misfilled.false ∙ c.any_misfilled.ensures)
    (sym c.if-any_misfit.true ∙ c.any_misfit.ensures)

pub returns-else-any_misfit : goal.returns-else-any_misfit
returns-else-any_misfit g c =
    broken_is (g.B.TermBank.store c.args.bank.now) c.args.self.now c.args.all.now c.args.inner.now false false false false false
    (sym c.if-any_no_application.false ∙ c.any_no_application.ensures) (sym c.if-any_annotated.false ∙ c.any_annotated.ensures)
    (sym c.if-any_nameless.false ∙ c.any_nameless.ensures) (sym c.if-any_misfilled.false ∙ c.any_misfilled.ensures)
    (sym c.if-any_misfit.false ∙ c.any_misfit.ensures)

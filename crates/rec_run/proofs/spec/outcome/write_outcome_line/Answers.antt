use Rattle.std.proofs.Common.{ap, subst}
use Rattle.std.specs.Io.KnownBytes.{Appends}
use Rattle.rx_text.specs.Written.{AppendsFront}
use Rattle.std.specs.Prelude.{◌++◌, codes}
use Rattle.rx_term.specs.Tree.{annotations}
use Rattle.rec_run.specs.EvaluatedLines.{is_limit_line, outcome_text, said}
use Rattle.rec_run.specs.GivenTerms.{item_at}
use Rattle.rx_run.specs.declared.ending.RunFault.TheVariants.{Write}
use Rattle.rec_run.proofs.EvaluatedLemmas.{front_due}
use Rattle.rx_text.proofs.AppendingLemmas.{appends_both, front_after, front_before}
use Rattle.rx_run.proofs.ErrorLemmas.{if_err_any, if_err_at}
use Rattle.rec_run.proofs.spec.outcome.write_outcome_line.Goals as goal

pub returns-in_err-limited-clause-err : goal.returns-in_err-limited-clause-err
returns-in_err-limited-clause-err g c =
    let w = g.B.TermBank.store c.args.bank.now in
    let shown = outcome_text c.args.run.settings w c.args.evaluated.outcome in
    let more = said (is_limit_line c.args.run.settings.form w c.args.evaluated.outcome) c.args.run.settings.limits (annotations (item_at w c.args.evaluated.term)) in
    if_err_any c.from_residual.result _
    (λ fault. front_due fault (shown ++ more) _ _ (front_before _ _ shown more c.in_err-limited.ensures.err))

pub returns-in_err-write_said-clause-err : goal.returns-in_err-write_said-clause-err
returns-in_err-write_said-clause-err g c =
    let w = g.B.TermBank.store c.args.bank.now in
    let shown = outcome_text c.args.run.settings w c.args.evaluated.outcome in
    let more = said (is_limit_line c.args.run.settings.form w c.args.evaluated.outcome) c.args.run.settings.limits (annotations (item_at w c.args.evaluated.term)) in
    let limits = c.args.run.settings.limits in
    let same = ap (λ b. said b limits (annotations (item_at w c.args.evaluated.term))) c.in_ok-limited.ensures.limit in
    if_err_any c.from_residual-in_err-write_said.result _
    (λ fault. front_due fault (shown ++ more) _ _ (front_after _ _ _ shown more c.in_ok-limited.ensures.ok
    (subst (λ t. AppendsFront t (g.W.Write.contents c.write_outcome.new.out.writer.now) (g.W.Write.contents c.write_said.new.out.writer.now)) same
    c.in_err-write_said.ensures.err)))

pub returns-in_err-put-clause-err : goal.returns-in_err-put-clause-err
returns-in_err-put-clause-err g c =
    let w = g.B.TermBank.store c.args.bank.now in
    let shown = outcome_text c.args.run.settings w c.args.evaluated.outcome in
    let more = said (is_limit_line c.args.run.settings.form w c.args.evaluated.outcome) c.args.run.settings.limits (annotations (item_at w c.args.evaluated.term)) in
    let limits = c.args.run.settings.limits in
    let same = ap (λ b. said b limits (annotations (item_at w c.args.evaluated.term))) c.in_ok-limited.ensures.limit in
    if_err_at c.from_residual-in_err-put.result _ Write c.from_residual-in_err-put.ensures.1
    (front_after _ _ _ (shown ++ more) (codes "\n")
    (appends_both _ _ _ shown more c.in_ok-limited.ensures.ok
    (subst (λ t. Appends (g.W.Write.contents c.write_outcome.new.out.writer.now) (g.W.Write.contents c.write_said.new.out.writer.now) t) same
    c.in_ok-write_said.ensures.ok)) c.in_err-put.ensures.front)

pub returns-clause-ok : goal.returns-clause-ok
returns-clause-ok g c =
    let w = g.B.TermBank.store c.args.bank.now in
    let shown = outcome_text c.args.run.settings w c.args.evaluated.outcome in
    let more = said (is_limit_line c.args.run.settings.form w c.args.evaluated.outcome) c.args.run.settings.limits (annotations (item_at w c.args.evaluated.term)) in
    let limits = c.args.run.settings.limits in
    let same = ap (λ b. said b limits (annotations (item_at w c.args.evaluated.term))) c.in_ok-limited.ensures.limit in
    appends_both _ _ _ (shown ++ more) (codes "\n")
    (appends_both _ _ _ shown more c.in_ok-limited.ensures.ok
    (subst (λ t. Appends (g.W.Write.contents c.write_outcome.new.out.writer.now) (g.W.Write.contents c.write_said.new.out.writer.now) t) same
    c.in_ok-write_said.ensures.ok)) c.in_ok-put.ensures.written

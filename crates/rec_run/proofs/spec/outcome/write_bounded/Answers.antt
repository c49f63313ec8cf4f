use Rattle.std.proofs.Common.{◌≡◌, ◌≤◌, ◌++◌, IfSome, ap, length, subst, ◌∙◌}
use Rattle.rx_term.specs.Store.{tree_at}
use Rattle.rx_text.specs.Canon.{canon}
use Rattle.rx_text.specs.Written.{AppendsFront}
use Rattle.rec_run.specs.EvaluatedLines.{figures_of}
use Rattle.rec_run.proofs.PrintedLemmas.{whole-line}
use Rattle.rx_text.proofs.AppendingLemmas.{front_after, front_before, on_err}
use Rattle.rec_run.proofs.spec.outcome.write_bounded.Goals as goal

pub returns-in_err-put-in-Some-clause-err : goal.returns-in_err-put-in-Some-clause-err
returns-in_err-put-in-Some-clause-err g c =
    let w = g.B.TermBank.store c.args.bank.now in
    let numbers = figures_of c.args.run.settings w c.args.valued.term c.args.valued.steps in
    let is = subst (λ o. IfSome o (λ v. IfSome (tree_at w c.args.valued.term) (λ u. v.items ≡ canon u))) c.in-Some.is c.in_ok-text.ensures.whole in
    let short = subst (λ o. IfSome o (λ v. length v.items ≤ c.args.most)) c.in-Some.is c.in_ok-text.ensures.within in
    let e = ap (λ t. t ++ numbers) c.deref.ensures.value ∙ whole-line w c.args.valued.term c.args.most numbers c.in-Some.text.items c.requires.held is short in
    on_err c.from_residual-in_err-put-in-Some.result
    (subst (λ t. AppendsFront t (g.W.Write.contents c.args.out.now.writer.now) (g.W.Write.contents c.put.new.self.writer.now)) e
    (front_before _ _ c.deref.result.now numbers c.in_err-put-in-Some.ensures.front))

pub returns-in_err-write_figures-in-Some-clause-err : goal.returns-in_err-write_figures-in-Some-clause-err
returns-in_err-write_figures-in-Some-clause-err g c =
    let w = g.B.TermBank.store c.args.bank.now in
    let numbers = figures_of c.args.run.settings w c.args.valued.term c.args.valued.steps in
    let is = subst (λ o. IfSome o (λ v. IfSome (tree_at w c.args.valued.term) (λ u. v.items ≡ canon u))) c.in-Some.is c.in_ok-text.ensures.whole in
    let short = subst (λ o. IfSome o (λ v. length v.items ≤ c.args.most)) c.in-Some.is c.in_ok-text.ensures.within in
    let e = ap (λ t. t ++ numbers) c.deref.ensures.value ∙ whole-line w c.args.valued.term c.args.most numbers c.in-Some.text.items c.requires.held is short in
    on_err c.from_residual-in_err-write_figures-in-Some.result
    (subst (λ t. AppendsFront t (g.W.Write.contents c.args.out.now.writer.now) (g.W.Write.contents c.write_figures.new.out.writer.now)) e
    (front_after _ _ _ c.deref.result.now numbers c.in_ok-put-in-Some.ensures.written c.in_err-write_figures-in-Some.ensures.err))

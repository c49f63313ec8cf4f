use Rattle.std.proofs.Common.{ap, subst, sym, ◌∙◌}
use Rattle.std.specs.Prelude.{Some}
use Rattle.rx_term.specs.Walks.{held_tree}
use Rattle.rx_text.specs.Canon.{canon}
use Rattle.rx_run.proofs.ErrorLemmas.{on_ok_of}
use Rattle.rec_match.specs.Next.{IsReady}
use Rattle.rec_trace.specs.Lines.{cut}
use Rattle.rec_trace.specs.declared.lines.Spot.{Spot}
use Rattle.std.specs.Prelude.{List}
use Rattle.rec_stuck.specs.Inner.Calls.{AreSpots, IsCalled}
use Rattle.rec_stuck.specs.Stuck.{bare_of, fitting_spots}
use Rattle.rec_stuck.proofs.AddLemmas.{line-told}
use Rattle.rec_stuck.proofs.report.StuckReport.add_call.Goals as goal

pub returns-clause-lines : goal.returns-clause-lines
returns-clause-lines g c =
    let y = c.args.engine.now.spec in
    let store = g.B.TermBank.store in
    let bank = c.args.engine.now.bank in
    let call = c.args.call in
    let text = c.deref-2.ensures.value ∙ c.in_ok-text.ensures ∙ ap (λ b. cut (Some 60) (canon (bare_of (held_tree (store b) call.term)))) c.bank.ensures in
    on_ok_of c.add_line.result
    (λ h source spots.
    let ready = subst (λ b. IsReady y (store b) c.matcher.result.now) (sym c.bank-2.ensures) c.matcher.ensures in
    let called = subst (λ b. IsCalled y (store b) call) (sym c.bank-2.ensures) c.requires.call in
    let there = subst (λ (ps : List Spot). AreSpots source y ps) (sym c.deref.ensures.value) spots in
    let found = c.deref-3.ensures.value ∙ c.in_ok-spots.ensures source y ready called there
    ∙ ap (λ b. fitting_spots source y (bare_of (held_tree (store b) call.term))) c.bank-2.ensures in
    line-told source y (held_tree (store bank) call.term) _ _ _ _ text found h)
    c.add_line.ensures

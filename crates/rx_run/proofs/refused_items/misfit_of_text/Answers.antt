use Rattle.std.proofs.Common.{refl, subst}
use Rattle.rx_term.specs.declared.Term.{Term}
use Rattle.rx_run.specs.RefusedItems.{misfit_in}
use Rattle.rx_run.specs.TermRuns.{IsReadingOf}
use Rattle.rx_run.specs.declared.ending.Source.TheVariants as source
use Rattle.rx_run.specs.declared.refusal.Reading.{Reading}
use Rattle.rx_run.proofs.ErrorLemmas.{if_err_at}
use Rattle.rx_run.proofs.FaultLemmas.{at_once}
use Rattle.rx_run.proofs.PatternDueLemmas.{if_ok_map}
use Rattle.rx_run.proofs.RefusedItemLemmas.{spelt_item, unspelt_item}
use Rattle.rx_run.proofs.refused_items.misfit_of_text.Goals as goal

pub returns-in-Refused-clause-why : goal.returns-in-Refused-clause-why
returns-in-Refused-clause-why g c =
    let w = g.B.TermBank.store c.parse.new.bank in
    let v = c.in_ok-parse.ensures.read in
    unspelt_item (misfit_in c.args.pattern.now) source.Args c.args.args.now c.in-Refused.field-0 v.0 refl (λ at. refl)
    (subst (λ (r : Reading Term). IsReadingOf source.Args w r v.0) c.in-Refused.is v.1) v.2

pub returns-clause-why : goal.returns-clause-why
returns-clause-why g c =
    let w = g.B.TermBank.store c.parse.new.bank in
    let v = c.in_ok-parse.ensures.read in
    if_ok_map c.misfit_of_term.result _ _
    (λ found h. spelt_item (misfit_in c.args.pattern.now) source.Args w c.args.args.now c.in-Good.t v.0 found
    (subst (λ (r : Reading Term). IsReadingOf source.Args w r v.0) c.in-Good.is v.1) v.2 h)
    c.misfit_of_term.ensures.why

pub returns-in_err-parse-clause-fault : goal.returns-in_err-parse-clause-fault
returns-in_err-parse-clause-fault g c =
    let f = c.in_err-parse.field-0.0 in
    if_err_at c.from_residual.result _ f c.from_residual.ensures.1
    (at_once (g.B.TermBank.store c.args.bank) (g.B.TermBank.store c.parse.new.bank) f c.in_err-parse.ensures.fault)

use Rattle.std.proofs.Common.{Err, ap, length, refl}
use Rattle.rx_run.proofs.RefusedItemLemmas.{misfit_count, misfit_kind}
use Rattle.rx_run.proofs.refused_items.misfit_of_elements.Goals as goal

pub returns-in-Err-Count-clause-why : goal.returns-in-Err-Count-clause-why
returns-in-Err-Count-clause-why g c = λ ts held.
    misfit_count (g.B.TermBank.store c.args.bank.now) c.args.pattern.now c.args.args.now ts c.placeholders.result (length c.args.args.now)
    c.placeholders.ensures refl held
    ((c.in-Err-Count.ensures.count ts held).0 (ap Err c.in-Err-Count.field-0-is))

pub returns-in-Err-Kind-clause-why : goal.returns-in-Err-Kind-clause-why
returns-in-Err-Kind-clause-why g c = λ ts held.
    misfit_kind c.args.pattern.now ts c.in-Err-Kind.at ((c.in-Err-Kind.ensures.kind ts held c.in-Err-Kind.at).0 (ap Err c.in-Err-Kind.field-0-is))

use Rattle.std.proofs.Common.{◌≡◌, refl, subst}
use Rattle.std.specs.Option.{IfSome}
use Rattle.rec_sorts.specs.TermRules.{broken_element}
use Rattle.rx_term.specs.declared.Term.{Term}
use Rattle.rec_run.specs.RefusedItems.{term_in}
use Rattle.rx_run.specs.TermRuns.{IsReadingOf}
use Rattle.rx_run.specs.declared.ending.Source.TheVariants as source
use Rattle.rx_run.specs.declared.refusal.Reading.{Reading}
use Rattle.rx_run.proofs.RefusedItemLemmas.{spelt_item, unspelt_item}
use Rattle.rec_run.proofs.refused_items.refused_term_over.Goals as goal

pub returns-in-Refused : goal.returns-in-Refused
returns-in-Refused g c =
    let w = g.B.TermBank.store c.parse.new.bank in
    let v = c.in_ok-parse.ensures.read in
    unspelt_item (term_in c.args.checked.now.spec) source.Terms c.args.terms.now c.in-Refused.field-0 v.0 refl (λ at. refl)
    (subst (λ (r : Reading Term). IsReadingOf source.Terms w r v.0) c.in-Refused.is v.1) v.2

pub returns : goal.returns
returns g c =
    let w = g.B.TermBank.store c.parse.new.bank in
    let v = c.in_ok-parse.ensures.read in
    let y = c.args.checked.now.spec in
    let found = c.in_ok-broken_element-in-Good.field-0 in
    spelt_item (term_in y) source.Terms w c.args.terms.now c.in-Good.list v.0 found
    (subst (λ (r : Reading Term). IsReadingOf source.Terms w r v.0) c.in-Good.is v.1) v.2
    (λ s here. subst (λ o. IfSome o (λ t. found ≡ broken_element y t)) here c.in_ok-broken_element-in-Good.ensures)

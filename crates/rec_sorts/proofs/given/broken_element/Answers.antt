use Rattle.std.proofs.Common.{◌∙◌, sym, subst}
use Rattle.rec_sorts.specs.Agreeing.{IsScope}
use Rattle.rec_sorts.proofs.FirstBrokenLemmas.{element-found}
use Rattle.rec_sorts.proofs.given.broken_element.Goals as goal

pub returns : goal.returns
returns g c =
    let s = c.in_ok-scope.scope in
    let y = c.args.checked.now.spec in
    let scope : IsScope y s = subst (λ v. IsScope v.spec s) c.syntax.ensures.same c.in_ok-scope.ensures in
    element-found y s scope c.syntax.ensures.kept (g.B.TermBank.store c.args.bank.now) c.args.list c.in-Some.number c.first_breaking_item.result
    (sym c.is_plain_list.ensures ∙ c.if-not-is_plain_list.false) (sym c.in-Some.is ∙ c.in_ok-number.ensures)
    c.first_breaking_item.ensures

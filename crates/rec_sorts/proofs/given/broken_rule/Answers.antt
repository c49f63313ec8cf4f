use Rattle.std.proofs.Common.{◌∙◌, ◌≡◌, IfOk, refl, sym, subst}
use Rattle.rx_term.specs.Walks.{held_tree}
use Rattle.rec_sorts.specs.Agreeing.{IsScope}
use Rattle.rec_sorts.proofs.GivenRuleLemmas.{broken-list}
use Rattle.rec_sorts.proofs.given.broken_rule.Goals as goal

pub returns : goal.returns
returns g c =
    let w = g.B.TermBank.store c.args.bank.now in
    let y = c.args.checked.now.spec in
    let s = c.in_ok-scope.scope in
    let scope : IsScope y s = subst (λ v. IsScope v.spec s) c.syntax.ensures.same c.in_ok-scope.ensures in
    subst (λ o. IfOk c.broken_by_items.result (λ r. r ≡ o))
    (broken-list y s scope c.syntax.ensures.kept (held_tree w c.args.list) _ _ (sym c.is_plain_list.ensures ∙ c.if-not-is_plain_list.false) refl refl)
    c.broken_by_items.ensures

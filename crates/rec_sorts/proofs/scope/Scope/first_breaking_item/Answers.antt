use Rattle.std.proofs.Common.{◌∙◌, ◌≡◌, IfOk, ap, subst}
use Rattle.std.specs.List.{position}
use Rattle.rx_term.specs.Walks.{held_trees}
use Rattle.rec_sorts.specs.Inner.GivenTerms.{is_broken_alone}
use Rattle.rec_sorts.proofs.FirstBrokenLemmas.{breaking-held}
use Rattle.rec_sorts.proofs.scope.Scope.first_breaking_item.Goals as goal

pub returns : goal.returns
returns g c =
    let w = g.B.TermBank.store c.args.bank.now in
    let s = c.args.self.now in
    subst (λ o. IfOk c.first_breaking.result (λ r. r ≡ o))
    (breaking-held s w c.args.number c.deref.result.now ∙ ap (position (is_broken_alone s c.args.number))
    (ap (held_trees w) c.deref.ensures.value ∙ c.in_ok-items.ensures.trees))
    c.first_breaking.ensures

use Rattle.std.proofs.Common.{◌≡◌, ◌∙◌, ◌++◌, ◌∷◌, [], Some, ap, nat_eq, subst}
use Rattle.std.specs.Option.{option_eq}
use Rattle.rx_term.specs.Walks.{held_tree, held_trees}
use Rattle.rec_sorts.specs.ListNodes.{AreNodes}
use Rattle.rec_sorts.proofs.GivenRuleLemmas.{broken-found}
use Rattle.rec_sorts.proofs.scope.Scope.breaks_alone.Goals as goal

pub returns : goal.returns
returns g c =
    let w = g.B.TermBank.store c.args.bank.now in
    let found = c.in_ok-found.found in
    let one : c.push.new.self.items ≡ c.args.term ∷ [] = c.in_ok-push.ensures.items ∙ ap (λ rs. rs ++ c.args.term ∷ []) c.new-terms.ensures.items in
    c.eq.ensures
    ∙ ap (λ o. option_eq nat_eq o (Some c.args.number))
    (c.first_broken.ensures
    ∙ broken-found c.args.self.now w (held_tree w c.args.term ∷ []) found c.deref.result.now c.deref-2.result.now c.deref.ensures.value
    c.deref-2.ensures.value (subst (λ rs. AreNodes w (held_trees w rs) found) one c.in_ok-found.ensures))

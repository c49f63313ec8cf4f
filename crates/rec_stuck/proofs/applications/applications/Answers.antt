use Rattle.std.proofs.Common.{◌++◌, ◌∷◌, [], ap, refl, ◌∙◌}
use Rattle.rx_term.specs.Walks.{held_tree}
use Rattle.rec_stuck.specs.declared.applications.Visit.TheVariants.{Enter}
use Rattle.rec_stuck.proofs.VisitLemmas.{walk-begins, walk-ends}
use Rattle.rec_stuck.proofs.applications.applications.Goals as goal

pub returns-clause-trees : goal.returns-clause-trees
returns-clause-trees g c =
    let w = g.B.TermBank.store c.args.bank.now in
    let v = held_tree w c.args.value in
    let one = c.in_ok-push.ensures.items ∙ ap (λ vs. vs ++ Enter c.args.value ∷ []) c.new-visits.ensures.items in
    walk-ends w v _ _ refl (c.in_ok-leave_all.ensures.walked v (walk-begins w c.args.value _ _ one c.new-left.ensures.empty))

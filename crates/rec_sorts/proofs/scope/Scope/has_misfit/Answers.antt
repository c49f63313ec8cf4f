use Rattle.std.proofs.Common.{◌∙◌, sym, ap, drop}
use Rattle.rec_sorts.specs.Inner.GivenTerms.{are_misfits}
use Rattle.rec_sorts.proofs.WalkedLemmas.{items_of-none, misfits-none}
use Rattle.rec_sorts.proofs.scope.Scope.has_misfit.Goals as goal

pub returns-in_default-kind : goal.returns-in_default-kind
returns-in_default-kind g c =
    let w = g.B.TermBank.store c.args.bank.now in
    let s = c.args.self.now in
    let sorts = drop c.loop-sort.sort-index c.arguments-sort-items.result.now in
    sym (misfits-none s sorts)
    ∙ ap (are_misfits s sorts) (sym (items_of-none w c.loop-sort.rest c.kind-in-loop-sort.result c.kind-in-loop-sort.ensures c.in_default-kind.not-Cons))
    ∙ c.loop-sort.invariant.same

use Rattle.std.proofs.Common.{subst, sym}
use Rattle.std.specs.Option.{option_and_then}
use Rattle.rx_term.specs.Store.{tree_at}
use Rattle.rx_term.specs.Walks.{AllHeld}
use Rattle.rx_run.specs.PatternRuns.{elements}
use Rattle.rx_run.proofs.PatternTermLemmas.{elements_held}
use Rattle.rx_run.proofs.refused_items.misfit_of_term.Goals as goal

pub misfit_of_elements-requires : goal.misfit_of_elements-requires
misfit_of_elements-requires g c =
    let w = g.B.TermBank.store c.args.bank.now in
    subst (AllHeld w) (sym c.deref.ensures.value)
    (elements_held w (option_and_then elements (tree_at w c.args.t)) c.in-Some.args.items (rw c.in-Some.is at c.in_ok-elements_of.ensures))

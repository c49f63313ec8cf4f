use Rattle.std.proofs.Common.{ap, is_some, subst, sym}
use Rattle.rx_term.specs.Walks.{held_tree}
use Rattle.rec_sorts.specs.Laws.{Every}
use Rattle.rec_engine.specs.Inner.Given.{IsNode}
use Rattle.rec_engine.specs.Inner.Visits.{CanVisit}
use Rattle.rec_engine.specs.declared.terms.visits.Visit.TheVariants.{Enter}
use Rattle.rec_engine.proofs.NormalLemmas.{given-nodes}
use Rattle.rec_engine.proofs.VisitLemmas.{can-pushed, root-of}
use Rattle.rec_engine.proofs.vm.Machine.call_shape.Goals as goal

pub visit_all-requires-clause-can : goal.visit_all-requires-clause-can
visit_all-requires-clause-can g c =
    let y = c.args.self.now.checked.spec in
    let w = g.B.TermBank.store c.args.self.now.heap.bank in
    can-pushed (IsNode y) w c.new-visits.result.items c.push.new.self.items (Enter c.args.t) c.in_ok-push.ensures.items
    (subst (Every (CanVisit (IsNode y) w)) (sym c.new-visits.ensures.items) tt)
    (record { held = ap is_some c.requires.given.held; nodes = given-nodes y w c.args.t c.requires.given })

pub arguments_shape-requires-clause-node : goal.arguments_shape-requires-clause-node
arguments_shape-requires-clause-node g c =
    let y = c.args.self.now.checked.spec in
    let w = g.B.TermBank.store c.args.self.now.heap.bank in
    root-of (IsNode y) (held_tree w c.args.t) (given-nodes y w c.args.t c.requires.given)

use Rattle.std.proofs.Common.{◌≡◌, Some, ap, ◌∙◌}
use Rattle.rx_term.specs.Store.{tree_at}
use Rattle.rx_term.specs.Walks.{held_tree, held_trees}
use Rattle.rec_sorts.specs.Evaluation.{Call}
use Rattle.rec_engine.specs.Machine.{called}
use Rattle.rec_engine.proofs.NormalLemmas.{given-nodes}
use Rattle.rec_engine.specs.Inner.Given.{IsNode}
use Rattle.rec_engine.proofs.VisitLemmas.{root-of}
use Rattle.rec_engine.proofs.SharedLemmas.{callee-call, callee-filled, call-evaluates, call-answers}
use Rattle.rec_engine.proofs.vm.Machine.evaluate_call.Goals as goal

pub node_op-requires-clause-node : goal.node_op-requires-clause-node
node_op-requires-clause-node g c =
    let y = c.args.self.now.checked.spec in
    let w = g.B.TermBank.store c.args.self.now.heap.bank in
    root-of (IsNode y) (held_tree w c.args.t) (given-nodes y w c.args.t c.requires.given)

pub call_with-requires-clause-count : goal.call_with-requires-clause-count
call_with-requires-clause-count g c =
    let w = g.B.TermBank.store c.args.self.now.heap.bank in
    callee-filled c.args.self.now.checked.spec (held_tree w c.args.t) c.in-Call.symbol c.in-Call.count c.node_op.result c.node_op.ensures c.in-Call.is w
    c.deref.result.now (ap (held_trees w) c.deref.ensures.value ∙ c.in-Ok.ensures.trees)

pub returns-clause-exact : goal.returns-clause-exact
returns-clause-exact g c =
    let y = c.args.self.now.checked.spec in
    let w = g.B.TermBank.store c.args.self.now.heap.bank in
    let values = c.deref.result.now in
    let call = callee-call y (held_tree w c.args.t) c.in-Call.symbol c.in-Call.count c.node_op.result c.node_op.ensures c.in-Call.is in
    call-answers y (g.B.TermBank.store c.call_with.new.self.heap.bank) c.args.n (λ u. tree_at w c.args.t ≡ Some u)
    (Call y c.args.n (called y c.in-Call.symbol (held_trees w values))) c.call_with.result
    (λ u e. call-evaluates y c.args.self.now.code c.requires.ready.code c.args.n w c.args.t u c.in-Call.symbol c.in-Call.count values c.requires.given e call
    c.requires.values (ap (held_trees w) c.deref.ensures.value ∙ c.in-Ok.ensures.trees)) c.call_with.ensures.exact

use Rattle.rec_check.specs.Named.{as_words}
use Rattle.rec_check.proofs.NodeLemmas.{ill_sorted_next}
use Rattle.rec_check.proofs.scope.Scope.ill_sorted_words.Goals as goal

pub loop-node-preserved : goal.loop-node-preserved
loop-node-preserved c =
    ill_sorted_next c.args.self.now.syntax.now.spec c.args.nodes.now c.loop-node.node-index c.node-item.result c.loop-node.heads.items
    c.push_ill_sorted.new.heads.items (as_words c.loop-node.found.items) (as_words c.push_ill_sorted.new.found.items) _ c.loop-node-test.true
    c.node-item.is c.in_ok-push_ill_sorted.ensures.found c.in_ok-push_ill_sorted.ensures.heads c.loop-node.invariant

use Rattle.std.proofs.Common.{subst, sym}
use Rattle.rx_term.specs.Walks.{AllHeld, held_trees}
use Rattle.rx_term.proofs.WalkLemmas.{AllHeld-push, AllHeld-split}
use Rattle.rec_sorts.specs.Walking.{unstacked}
use Rattle.rec_sorts.proofs.WalkedLemmas.{node_turn, node_less, found_turn}
use Rattle.rec_sorts.proofs.walk.nodes.Goals as goal

pub push_arguments-requires-clause-stack : goal.push_arguments-requires-clause-stack
push_arguments-requires-clause-stack g c =
    let w = g.B.TermBank.store c.args.bank.now in
    (AllHeld-split w c.pop.new.self.items c.in-Some.node (subst (AllHeld w) c.in-Some.ensures.items c.loop-node.invariant.stacked)).0

pub loop-node-smaller : goal.loop-node-smaller
loop-node-smaller g c =
    node_less (g.B.TermBank.store c.args.bank.now) c.loop-node.stack.items c.pop.new.self.items c.push_arguments.new.stack.items c.in-Some.node
    c.in-Some.ensures.items c.in_ok-push_arguments.ensures.trees

pub loop-node-preserved : goal.loop-node-preserved
loop-node-preserved g c =
    let w = g.B.TermBank.store c.args.bank.now in
    let turn = node_turn w c.loop-node.stack.items c.pop.new.self.items c.push_arguments.new.stack.items c.in-Some.node c.in-Some.ensures.items
    c.in_ok-push_arguments.ensures.trees in
    record {
      stacked = c.in_ok-push_arguments.ensures.held;
      held = subst (AllHeld w) (sym c.in_ok-push.ensures.items) (AllHeld-push w c.loop-node.found.items c.in-Some.node c.loop-node.invariant.held
          (AllHeld-split w c.pop.new.self.items c.in-Some.node (subst (AllHeld w) c.in-Some.ensures.items c.loop-node.invariant.stacked)).1);
      trees = found_turn w c.loop-node.found.items c.push.new.self.items c.loop-node.stack.items c.push_arguments.new.stack.items c.in-Some.node
          (unstacked (held_trees w c.args.stack.items)) c.in_ok-push.ensures.items turn c.loop-node.invariant.trees;
    }

use Rattle.std.proofs.Common.{ap, arith, is_some, subst, sym}
use Rattle.rx_term.specs.Tree.{count_of}
use Rattle.rx_term.specs.Walks.{AllHeld}
use Rattle.rx_term.proofs.WalkLemmas.{AllHeld-push}
use Rattle.rec_sorts.proofs.WalkedLemmas.{first_there, rest_there, items_of-cons, items_turn}
use Rattle.rec_sorts.proofs.walk.push_items.Goals as goal

pub loop-stack-smaller : goal.loop-stack-smaller
loop-stack-smaller g c =
    let w = g.B.TermBank.store c.args.bank.now in
    let e = ap count_of (items_of-cons w c.loop-stack.rest c.head.result c.tail-rest.result c.in-Cons.ensures c.head.ensures c.tail-rest.ensures) in
    omega arith

pub loop-stack-preserved : goal.loop-stack-preserved
loop-stack-preserved g c =
    let w = g.B.TermBank.store c.args.bank.now in
    let r = c.loop-stack.rest in
    let h = c.in-Cons.ensures in
    record {
      rest = ap is_some (rest_there w r c.head.result c.tail-rest.result h c.head.ensures c.tail-rest.ensures);
      held = subst (AllHeld w) (sym c.in_ok-push.ensures.items) (AllHeld-push w c.loop-stack.stack.items c.head.result c.loop-stack.invariant.held
          (ap is_some (first_there w r c.head.result c.tail-rest.result h c.head.ensures c.tail-rest.ensures)));
      trees = items_turn w c.loop-stack.stack.items c.push.new.self.items c.args.stack.now.items r c.head.result c.tail-rest.result c.args.list
          c.in_ok-push.ensures.items (items_of-cons w r c.head.result c.tail-rest.result h c.head.ensures c.tail-rest.ensures) c.loop-stack.invariant.trees;
    }

use Rattle.std.proofs.Common.{◌≡◌, ◌∙◌, [], ap, rules, subst, sym}
use Rattle.std.proofs.lemmas.Bool.{OnFalse_at}
use Rattle.std.specs.Prelude.{nat_eq}
use Rattle.std.specs.List.{list_any}
use Rattle.rx_term.specs.Walks.{AllHeld}
use Rattle.rx_term.proofs.WalkLemmas.{AllHeld-push, AllHeld-split}
use Rattle.rec_sorts.proofs.VisitLemmas.{different-more, seen, seen-more, skipped-less, unseen, visits-end, visits-find, visits-skip}
use Rattle.rec_sorts.proofs.WalkedLemmas.{node_less}
use Rattle.rec_sorts.proofs.walk.distinct_nodes.Goals as goal

pub push_arguments-requires : goal.push_arguments-requires
push_arguments-requires g c =
    let w = g.B.TermBank.store c.args.bank.now in
    let held = AllHeld-split w c.pop.new.self.items c.in-Some.term (subst (AllHeld w) c.in-Some.ensures.items c.loop-term.invariant.stacked) in
    record { term = held.1; stack = held.0 }

pub loop-term-smaller : goal.loop-term-smaller
loop-term-smaller g c =
    node_less (g.B.TermBank.store c.args.bank.now) c.loop-term.stack.items c.pop.new.self.items c.push_arguments.new.stack.items c.in-Some.term
    c.in-Some.ensures.items c.in_ok-push_arguments.ensures.trees

pub loop-term-preserved : goal.loop-term-preserved
loop-term-preserved g c =
    let w = g.B.TermBank.store c.args.bank.now in
    let found = c.loop-term.found.items in
    let term = c.in-Some.term in
    let i = c.loop-term.invariant in
    let pushed = c.in_ok-push.ensures.items in
    let new = unseen _ _ _ c.in_ok-is_new.ensures.added (i.visited term.0) c.if-not-is_new.false in
    record {
      stacked = c.in_ok-push_arguments.ensures.held;
      held = subst (AllHeld w) (sym pushed) (AllHeld-push w found term i.held
          (AllHeld-split w c.pop.new.self.items term (subst (AllHeld w) c.in-Some.ensures.items i.stacked)).1);
      visited = λ q. seen-more term found c.push.new.self.items pushed q _ _ (i.visited q) (c.in_ok-is_new.ensures.updates.0 q);
      distinct = different-more term found c.push.new.self.items pushed i.distinct new;
      visits = visits-find w c.args.stack.items found c.loop-term.stack.items c.pop.new.self.items term c.in-Some.ensures.items c.push.new.self.items
          c.push_arguments.new.stack.items pushed c.in_ok-push_arguments.ensures.trees i.visits;
    }

pub loop-term-smaller-then-not-is_new : goal.loop-term-smaller-then-not-is_new
loop-term-smaller-then-not-is_new g c =
    skipped-less (g.B.TermBank.store c.args.bank.now) c.args.stack.items c.loop-term.found.items c.loop-term.stack.items c.pop.new.self.items c.in-Some.term
    c.in-Some.ensures.items

pub loop-term-preserved-then-not-is_new : goal.loop-term-preserved-then-not-is_new
loop-term-preserved-then-not-is_new g c =
    let w = g.B.TermBank.store c.args.bank.now in
    let found = c.loop-term.found.items in
    let term = c.in-Some.term in
    let i = c.loop-term.invariant in
    let kept = OnFalse_at c.if-not-is_new.true c.in_ok-is_new.ensures.unchanged in
    let old = seen _ _ _ c.in_ok-is_new.ensures.added (i.visited term.0) c.if-not-is_new.true in
    record {
      stacked = (AllHeld-split w c.pop.new.self.items term (subst (AllHeld w) c.in-Some.ensures.items i.stacked)).0;
      held = i.held;
      visited = λ q. ap (list_any (nat_eq q)) kept ∙ i.visited q;
      distinct = i.distinct;
      visits = visits-skip w c.args.stack.items found c.loop-term.stack.items c.pop.new.self.items term c.in-Some.ensures.items old i.visits;
    }

pub returns-clause-same : goal.returns-clause-same
returns-clause-same g c =
    let none_left : c.loop-term.stack.items ≡ [] = search rules in
    visits-end (g.B.TermBank.store c.args.bank.now) c.args.stack.items c.loop-term.found.items c.loop-term.stack.items none_left c.loop-term.invariant.visits

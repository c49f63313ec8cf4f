use Rattle.std.proofs.Common.{subst, sym, [], List}
use Rattle.std.proofs.lemmas.List.{take_all}
use Rattle.rec_sorts.specs.declared.letters.Letter.{Letter}
use Rattle.rec_check.specs.Inner.Grounds.{AreJoined, sorts_had}
use Rattle.rec_check.specs.declared.uncovered.Ground.{Ground}
use Rattle.rec_check.proofs.UncoveredLemmas.{joined_none, joined_turn}
use Rattle.rec_check.proofs.uncovered.join.Goals as goal

pub loop-i-init : goal.loop-i-init
loop-i-init c = λ y all. subst (λ (ls : List Letter). AreJoined y [] ls c.args.text.now.items c.args.text.now.items) (sym c.new-letters.ensures.items)
    (joined_none y c.args.text.now.items)

pub loop-i-preserved : goal.loop-i-preserved
loop-i-preserved c = λ y all.
    joined_turn y c.args.terms.now c.loop-i.i c.index-terms-i.result c.loop-i.letters.items c.extend_from_slice-in-loop-i.new.self.items
    c.deref-in-loop-i.result.now c.args.text.now.items c.loop-i.text.items c.push.new.self.items c.deref.result.now
    c.extend_from_slice.new.self.items c.mark_before.result c.loop-i-test.true c.index-terms-i.is
    c.mark_before.ensures.first c.mark_before.ensures.other c.in_ok-push.ensures.items c.deref.ensures.value c.in_ok-extend_from_slice.ensures.items
    c.deref-in-loop-i.ensures.value c.in_ok-extend_from_slice-2.ensures.items all (c.loop-i.invariant y all)

pub returns : goal.returns
returns c = λ y all. subst (λ (ts : List Ground). AreJoined y (sorts_had ts) c.loop-i.letters.items c.args.text.now.items c.loop-i.text.items)
    (take_all c.loop-i.i c.args.terms.now c.loop-i-test.false) (c.loop-i.invariant y all)

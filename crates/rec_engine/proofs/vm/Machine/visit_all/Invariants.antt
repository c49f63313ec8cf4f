use Rattle.rec_sorts.specs.Laws.{Every}
use Rattle.rec_engine.specs.Inner.Given.{IsNode}
use Rattle.rec_engine.specs.Inner.Shared.{AreShapes}
use Rattle.rec_engine.specs.Inner.Visits.{CanVisit, visits_ahead}
use Rattle.rec_engine.proofs.vm.Machine.visit_all.Given as goal

abbrev pub invariant-loop-visit : goal.invariant-loop-visit
invariant-loop-visit g l =
    let w = g.B.TermBank.store l.self.heap.bank in
    record {
      can : Every (CanVisit (IsNode l.self.checked.spec) w) l.visits.items;
      shapes : AreShapes l.self.checked.spec l.self.code.matcher w l.shapes;
    }

abbrev pub decreases-loop-visit : goal.decreases-loop-visit
decreases-loop-visit g l = visits_ahead (g.B.TermBank.store l.self.heap.bank) l.visits.items

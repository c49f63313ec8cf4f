use Rattle.rec_engine.proofs.StayLemmas.{stays-more, sound-next, after-next}
use Rattle.rec_engine.proofs.TurnLemmas.{ok-map}
use Rattle.rec_engine.proofs.SharedLemmas.{some-map}
use Rattle.rec_engine.proofs.vm.Machine.run_call.Goals as goal

pub run_under-requires : goal.run_under-requires
run_under-requires g c = record {
  sound = sound-next c.requires.sound c.invoke.ensures.stays c.in_ok-flow.ensures.goes.held;
  some = (let o = c.requires.some.0 in (
    o,
    after-next c.invoke.ensures.stays c.invoke.new.self.state c.invoke.new.self.heap.work.items o c.in_ok-flow.flow
        (c.in_ok-flow.ensures.goes.each o c.requires.some.1),
  ));
}

pub returns-clause-stays : goal.returns-clause-stays
returns-clause-stays g c = stays-more c.invoke.ensures.stays c.run_under.ensures.stays

pub returns-clause-comes : goal.returns-clause-comes
returns-clause-comes g c = ok-map c.run_under.result (λ r k. some-map r (λ end f o h.
    f o (after-next c.invoke.ensures.stays c.invoke.new.self.state c.invoke.new.self.heap.work.items o c.in_ok-flow.flow
    (c.in_ok-flow.ensures.goes.each o h))) k) c.run_under.ensures.comes

use Rattle.std.proofs.Common.{Some}
use Rattle.rx_sweep.specs.Inner.Marking.{ahead}
use Rattle.rx_sweep.proofs.BareLemmas.{same_taken}
use Rattle.rx_sweep.proofs.marking.mark_list.Goals as goal

pub mark_slot-requires-clause-taken : goal.mark_slot-requires-clause-taken
mark_slot-requires-clause-taken c = same_taken c.args.arena.now (ahead c.mark_ahead.new.arena (Some c.in-Some.next)) c.in-Some.ensures.marks.same
    c.args.head.0 c.requires.head

pub mark_ahead-requires-in-None-clause-taken : goal.mark_ahead-requires-in-None-clause-taken
mark_ahead-requires-in-None-clause-taken c = same_taken c.args.arena.now c.mark_ahead.new.arena c.in-None.ensures.marks.same c.args.head.0 c.requires.head

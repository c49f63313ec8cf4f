use Rattle.rx_sweep.proofs.CollectedLemmas.{closed_one, gray_one, chained_two, roots_two, all_marked, collected, same_two}
use Rattle.rx_sweep.proofs.HomingLemmas.{same_homed}
use Rattle.rx_sweep.proofs.collect_by_hash.Goals as goal

pub mark_on-requires-clause-closed : goal.mark_on-requires-clause-closed
mark_on-requires-clause-closed c = let r = c.mark_roots.ensures in closed_one c.args.arena.now r.old_law c.requires.can c.mark_roots.new.arena r.marks

pub mark_on-requires-clause-gray : goal.mark_on-requires-clause-gray
mark_on-requires-clause-gray c = let r = c.mark_roots.ensures in gray_one c.args.arena.now r.old_law c.requires.can c.mark_roots.new.arena r.marks

pub sweep_by_hash-requires-clause-chained : goal.sweep_by_hash-requires-clause-chained
sweep_by_hash-requires-clause-chained c =
    let r = c.mark_roots.ensures in
    let m = c.mark_on.ensures in
    chained_two c.args.arena.now r.old_law c.requires.can c.mark_roots.new.arena r.marks r.law c.mark_on.new.arena m.same m.stay m.reached m.closed

pub sweep_by_hash-requires-clause-roots : goal.sweep_by_hash-requires-clause-roots
sweep_by_hash-requires-clause-roots c =
    let r = c.mark_roots.ensures in
    let m = c.mark_on.ensures in
    roots_two c.args.arena.now r.old_law c.requires.can c.mark_roots.new.arena r.marks r.law c.mark_on.new.arena m.same m.stay m.reached m.closed

pub sweep_by_hash-requires-clause-homed : goal.sweep_by_hash-requires-clause-homed
sweep_by_hash-requires-clause-homed c =
    let r = c.mark_roots.ensures in
    let m = c.mark_on.ensures in
    same_homed c.args.arena.now c.mark_on.new.arena (same_two c.args.arena.now r.old_law c.requires.can c.mark_roots.new.arena r.marks r.law
    c.mark_on.new.arena m.same m.stay m.reached m.closed) c.requires.homed

pub turn_marks-requires-clause-marked : goal.turn_marks-requires-clause-marked
turn_marks-requires-clause-marked c =
    let r = c.mark_roots.ensures in
    let m = c.mark_on.ensures in
    all_marked c.args.arena.now r.old_law c.requires.can c.mark_roots.new.arena r.marks r.law c.mark_on.new.arena m.same m.stay m.reached m.closed
    c.sweep_by_hash.new.arena c.sweep_by_hash.ensures.swept

pub returns-clause-collected : goal.returns-clause-collected
returns-clause-collected c =
    let r = c.mark_roots.ensures in
    let m = c.mark_on.ensures in
    collected c.args.arena.now r.old_law c.requires.can c.mark_roots.new.arena r.marks r.law c.mark_on.new.arena m.same m.stay m.reached m.closed
    c.sweep_by_hash.new.arena c.sweep_by_hash.ensures.swept c.turn_marks.new.self c.turn_marks.ensures.after

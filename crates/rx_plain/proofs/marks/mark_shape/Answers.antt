use Rattle.std.proofs.Common.{[], ◌∷◌}
use Rattle.rx_term.proofs.PartsLemmas.{cons_head, cons_tail}
use Rattle.rx_plain.proofs.MarkLemmas.{Marks-trans, within-after}
use Rattle.rx_plain.proofs.marks.mark_shape.Goals as goal

pub mark-first-requires : goal.mark-first-requires
mark-first-requires c = c.requires c.in-Cons.head.0 (rw c.in-Cons.is (cons_head c.in-Cons.head.0 (c.in-Cons.tail.0 ∷ [])))

pub mark-second-requires : goal.mark-second-requires
mark-second-requires c = within-after c.mark-first.ensures.marks c.in-Cons.tail.0
    (c.requires c.in-Cons.tail.0 (rw c.in-Cons.is (cons_tail c.in-Cons.head.0 (c.in-Cons.tail.0 ∷ []) c.in-Cons.tail.0 (cons_head c.in-Cons.tail.0 []))))

pub mark-requires : goal.mark-requires
mark-requires c = c.requires c.in-Appl.args.0 (rw c.in-Appl.is (cons_head c.in-Appl.args.0 []))

pub mark-requires-in-Hole : goal.mark-requires-in-Hole
mark-requires-in-Hole c = c.requires c.in-Hole.inner.0 (rw c.in-Hole.is (cons_head c.in-Hole.inner.0 []))

pub returns-else-first-clause-marks : goal.returns-else-first-clause-marks
returns-else-first-clause-marks c = rw c.in-Cons.is (Marks-trans c.mark-first.ensures.marks c.mark-second.ensures.marks)

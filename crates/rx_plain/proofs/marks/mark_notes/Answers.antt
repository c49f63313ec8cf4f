use Rattle.std.proofs.Common.{[]}
use Rattle.rx_term.proofs.PartsLemmas.{cons_head}
use Rattle.rx_plain.proofs.marks.mark_notes.Goals as goal

pub mark-requires : goal.mark-requires
mark-requires c = c.requires c.in-Some.list.0 (rw c.in-Some.is (cons_head c.in-Some.list.0 []))

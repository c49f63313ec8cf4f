use Rattle.rec_sorts.proofs.LinkLemmas.{LinkedSoFar}
use Rattle.rec_sorts.proofs.links.linked_symbols.Given as goal

abbrev pub invariant-loop-number : goal.invariant-loop-number
invariant-loop-number g l = LinkedSoFar l.checked.spec (g.B.TermBank.store l.fn.bank) (g.B.TermBank.store l.bank) l.symbols.items l.number

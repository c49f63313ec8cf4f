use Rattle.rec_memo.specs.Handed.{HandsOver}
use Rattle.rec_memo.proofs.memo.Memo.hand_over_block.Given as goal

abbrev pub invariant-loop-place : goal.invariant-loop-place
invariant-loop-place g l = HandsOver (g.B.TermBank.store l.bank) l.self l.fn.all.items l.all.items

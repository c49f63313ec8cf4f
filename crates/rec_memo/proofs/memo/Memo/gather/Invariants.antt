use Rattle.rec_memo.specs.Handed.{HandsOver}
use Rattle.rec_memo.proofs.memo.Memo.gather.Given as goal

abbrev pub invariant-loop-block : goal.invariant-loop-block
invariant-loop-block g l = HandsOver (g.B.TermBank.store l.bank) l.self l.kept l.all.items

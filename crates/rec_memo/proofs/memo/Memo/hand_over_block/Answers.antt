use Rattle.rec_memo.proofs.HandedLemmas.{hands-none, hands-more}
use Rattle.rec_memo.proofs.memo.Memo.hand_over_block.Goals as goal

pub loop-place-init : goal.loop-place-init
loop-place-init g c = hands-none (g.B.TermBank.store c.args.bank.now) c.args.self.now c.args.all.now.items

pub loop-place-preserved : goal.loop-place-preserved
loop-place-preserved g c = hands-more c.loop-place.invariant (hands-more c.in_ok-hand_over.ensures c.in_ok-hand_over-2.ensures)

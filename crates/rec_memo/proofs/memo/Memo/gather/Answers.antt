use Rattle.std.proofs.Common.{List, ◌++◌, ap, subst, sym, ◌∙◌}
use Rattle.rx_term.specs.declared.Term.{Term}
use Rattle.rec_memo.specs.Handed.{HandsOver}
use Rattle.rec_memo.proofs.HandedLemmas.{hands-none, hands-more}
use Rattle.rec_memo.proofs.memo.Memo.gather.Goals as goal

pub loop-block-init : goal.loop-block-init
loop-block-init g c =
    let w = g.B.TermBank.store c.args.bank.now in
    let xs = c.args.kept.now in
    subst (HandsOver w c.args.self.now xs) (sym (c.in_ok-extend_from_slice.ensures.items
    ∙ ap (λ (ys : List Term). ys ++ xs) c.in_ok-all.ensures.items)) (hands-none w c.args.self.now xs)

pub loop-block-preserved : goal.loop-block-preserved
loop-block-preserved g c = hands-more c.loop-block.invariant c.in_ok-hand_over_block.ensures

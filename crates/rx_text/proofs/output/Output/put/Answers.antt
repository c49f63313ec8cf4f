use Rattle.std.proofs.Common.{rules}
use Rattle.rx_text.proofs.AppendingLemmas.{appends_piece, keeps_front, on_err}
use Rattle.rx_text.proofs.output.Output.put.Goals as goal

pub loop-at-preserved : goal.loop-at-preserved
loop-at-preserved g c = (
  search rules,
  appends_piece _ _ _ _ _ _ c.loop-at.invariant.1 c.in_ok-count.ensures.bytes,
  search rules,
  search rules,
)

pub returns-in_err-count-clause-front : goal.returns-in_err-count-clause-front
returns-in_err-count-clause-front g c =
    on_err _ (keeps_front _ _ _ _ _ c.loop-at.invariant.1 c.in_err-count.ensures.bytes)

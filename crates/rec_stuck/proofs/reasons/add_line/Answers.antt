use Rattle.rec_stuck.proofs.AddLemmas.{line-made}
use Rattle.rec_stuck.proofs.reasons.add_line.Goals as goal

pub returns : goal.returns
returns c = line-made _ _ _ _ _ _ _ _ c.in_ok-extend_from_slice.ensures.items c.in_ok-extend_from_slice-2.ensures.items
    c.in_ok-extend_from_slice-3.ensures.items c.in_ok-add_reason.ensures c.in_ok-extend_from_slice-4.ensures.items

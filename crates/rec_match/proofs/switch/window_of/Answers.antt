use Rattle.std.proofs.Common.{arith}
use Rattle.rec_match.proofs.switch.window_of.Goals as goal

pub returns : goal.returns
returns c i lt =
    let above = c.bounds-low.ensures.least i 0 lt in
    let below = c.bounds-low.ensures.greatest i 0 lt in
    let far = c.in_ok-span.ensures (omega (arith, above, below)) in
    (above, omega (arith, below, far))

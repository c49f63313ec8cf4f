use Rattle.std.proofs.Common.{ap, ◌∙◌}
use Rattle.std.specs.Ordering.{nat_cmp}
use Rattle.std.specs.FinMap as map
use Rattle.rx_term.specs.Name.{Signature}
use Rattle.psilt_core.proofs.work.Work.new.Goals as goal

pub over-requires : goal.over-requires
over-requires c = ap map.len c.in-Ok.ensures.empty.1 ∙ map.len-empty nat_cmp Signature

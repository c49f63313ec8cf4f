use Rattle.std.proofs.Common.{◌-◌, [], length, unwrap_or}
use Rattle.rx_term.specs.Tree.{Items, none}
use Rattle.rx_term.specs.Store.{tree_at}
use Rattle.rx_pattern.specs.Code.{code}
use Rattle.rx_pattern.proofs.FlatteningLemmas.{Underway}
use Rattle.rx_pattern.proofs.flatten.flatten.Given as goal

abbrev pub invariant-loop-job : goal.invariant-loop-job
invariant-loop-job g l =
    let w = g.B.TermBank.store l.fn.bank in
    Underway w (unwrap_or (tree_at w l.fn.t) (Items none none)) l.nodes.items l.jobs.items

abbrev pub decreases-loop-job : goal.decreases-loop-job
decreases-loop-job g l = length (code (unwrap_or (tree_at (g.B.TermBank.store l.fn.bank) l.fn.t) (Items none none)) []) - length l.nodes.items

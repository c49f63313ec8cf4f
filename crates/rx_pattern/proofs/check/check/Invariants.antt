use Rattle.std.proofs.Common.{reverse, unwrap_or}
use Rattle.rx_term.specs.Tree.{Items, none}
use Rattle.rx_term.specs.Store.{tree_at}
use Rattle.rx_pattern.proofs.CheckLemmas.{Looking, weight_of}
use Rattle.rx_pattern.proofs.check.check.Given as goal

abbrev pub invariant-loop-u : goal.invariant-loop-u
invariant-loop-u g l =
    let w = g.B.TermBank.store l.bank in
    Looking w (unwrap_or (tree_at w l.fn.t) (Items none none)) l.plain l.stack.items

abbrev pub decreases-loop-u : goal.decreases-loop-u
decreases-loop-u g l = weight_of (g.B.TermBank.store l.bank) (reverse l.stack.items)

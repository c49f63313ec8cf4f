use Rattle.std.proofs.Common.{drop, map, unwrap_or}
use Rattle.rx_term.specs.Tree.{Items, none}
use Rattle.rx_term.specs.Store.{tree_at}
use Rattle.rx_term.specs.Steps.{Grows}
use Rattle.rx_pattern.specs.Matching.{matching}
use Rattle.rx_pattern.specs.Nodes.{step_of, tree_of_nodes}
use Rattle.rx_pattern.specs.Held.{AddsOnlyLists}
use Rattle.rx_pattern.proofs.MatchLemmas.{Underway}
use Rattle.rx_pattern.proofs.subjects.match_nodes.Given as goal

abbrev pub invariant-loop-node : goal.invariant-loop-node
invariant-loop-node g l =
    let old = g.B.TermBank.store l.fn.bank in
    let w = g.B.TermBank.store l.bank in
    record {
      underway : Underway w (map step_of (drop l.node-index l.nodes))
          (matching (tree_of_nodes l.nodes) (unwrap_or (tree_at old l.fn.t) (Items none none))) l.subjects.items l.out.items;
      grows : Grows old w;
      added : AddsOnlyLists old w;
    }

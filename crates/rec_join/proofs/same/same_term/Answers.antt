use Rattle.std.proofs.Common.{◌≡◌, map, rules}
use Rattle.rec_syntax.specs.Parts.{node_of}
use Rattle.rec_join.specs.Inner.Nodes.{unplaced_node}
use Rattle.rec_join.proofs.TermLemmas.{same_spelled}
use Rattle.rec_join.proofs.same.same_term.Goals as goal

pub returns : goal.returns
returns c = λ e.
    let xs = map (node_of c.args.a.now.source) c.args.x.now.nodes.items in
    let ys = map (node_of c.args.b.now.source) c.args.y.now.nodes.items in
    let same : map unplaced_node xs ≡ map unplaced_node ys = search rules in
    same_spelled xs ys same

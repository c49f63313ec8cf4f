use Rattle.std.proofs.Common.{refl}
use Rattle.rx_term.specs.Walks.{held_tree}
use Rattle.rx_render.specs.Graph.{links}
use Rattle.rx_render.proofs.DrawingLemmas.{follows_on}
use Rattle.rx_render.proofs.graph.Graph.follow_links.Goals as goal

pub returns : goal.returns
returns g c =
    let w = g.B.TermBank.store c.args.bank.now in
    follows_on c.follow_annotations.result w c.args.from (links (held_tree w c.args.part)) _ _ c.args.self.now c.follow_inside.new.self
    c.follow_annotations.new.self refl c.in_ok-follow_inside.ensures c.follow_annotations.ensures

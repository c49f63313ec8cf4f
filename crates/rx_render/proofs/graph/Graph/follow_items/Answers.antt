use Rattle.std.proofs.Common.{◌∷◌, []}
use Rattle.std.specs.Prelude.{codes}
use Rattle.rx_term.specs.Walks.{held_tree}
use Rattle.rx_render.specs.Graph.{inside_links, link_to}
use Rattle.rx_render.proofs.DrawingLemmas.{follows_on, items_links}
use Rattle.rx_render.proofs.graph.Graph.follow_items.Goals as goal

pub returns : goal.returns
returns g c =
    let w = g.B.TermBank.store c.args.bank.now in
    follows_on c.follow-2.result w c.args.from (inside_links (held_tree w c.args.list)) (link_to (codes "head") (held_tree w c.head.result) ∷ [])
    (link_to (codes "tail") (held_tree w c.tail.result) ∷ []) c.args.self.now c.follow.new.self c.follow-2.new.self
    (items_links w c.args.list c.head.result c.tail.result c.requires.list c.head.ensures c.tail.ensures) c.in_ok-follow.ensures c.follow-2.ensures

use Rattle.rx_render.proofs.GraphLemmas.{own_links}
use Rattle.rx_render.proofs.PartLemmas.{lists_parts}
use Rattle.rx_render.proofs.laws.graph_nodes.Goals as goal

pub returns : goal.returns
returns c = record { parts = lists_parts; links = own_links }

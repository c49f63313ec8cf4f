use Rattle.std.proofs.Common.{◌≡◌}
use Rattle.rx_term.specs.Walks.{held_tree}
use Rattle.rx_text.specs.Output.{IsSameOutput}
use Rattle.rx_render.proofs.DrawingLemmas.{Drawn}
use Rattle.rx_render.proofs.drawing.write_parts.Given as goal

abbrev pub invariant-loop-number : goal.invariant-loop-number
invariant-loop-number g l =
    let w = g.B.TermBank.store l.fn.bank in
    Drawn w (held_tree w l.fn.t) l.fn.extent.nodes l.number (g.W.Write.contents l.fn.out.writer.now) (g.W.Write.contents l.out.writer.now) l.graph
    × (l.out.refused ≡ l.fn.out.refused) × IsSameOutput l.fn.out l.out

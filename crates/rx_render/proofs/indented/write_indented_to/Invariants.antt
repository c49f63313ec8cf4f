use Rattle.std.proofs.Common.{◌≡◌, []}
use Rattle.rx_term.specs.Store.{tree_at}
use Rattle.rx_text.specs.Inner.Jobs.{seen}
use Rattle.rx_text.specs.Output.{IsSameOutput}
use Rattle.rx_render.specs.Laid.{laid}
use Rattle.rx_render.specs.Layout.{jobs_size}
use Rattle.rx_render.proofs.LayoutLemmas.{Writing}
use Rattle.rx_render.proofs.indented.write_indented_to.Given as goal

abbrev pub invariant-loop-job : goal.invariant-loop-job
invariant-loop-job g l =
    let w = g.B.TermBank.store l.fn.bank in
    Writing w l.fn.indentation (seen [] (laid l.fn.indentation) (tree_at w l.fn.t)) (g.W.Write.contents l.fn.out.writer.now)
    (g.W.Write.contents l.out.writer.now) l.layout
    × (l.out.refused ≡ l.fn.out.refused) × IsSameOutput l.fn.out l.out

abbrev pub decreases-loop-job : goal.decreases-loop-job
decreases-loop-job g l = jobs_size (g.B.TermBank.store l.fn.bank) l.layout.jobs.items

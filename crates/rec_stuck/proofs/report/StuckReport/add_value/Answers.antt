use Rattle.std.proofs.Common.{◌++◌, ap, ◌∙◌}
use Rattle.rx_term.specs.Walks.{held_tree}
use Rattle.rx_run.proofs.ErrorLemmas.{on_ok_of}
use Rattle.std.proofs.Common.{◌≡◌, subst}
use Rattle.rec_stuck.specs.Stuck.{applications, different}
use Rattle.rec_stuck.specs.Inner.Visits.{AreThere, trees_of}
use Rattle.rec_stuck.proofs.AddLemmas.{all-lines}
use Rattle.rec_stuck.proofs.report.StuckReport.add_value.Goals as goal

pub add_applications-requires-clause-there : goal.add_applications-requires-clause-there
add_applications-requires-clause-there g c = subst (λ b. AreThere (g.B.TermBank.store b) c.in_ok-found.found.keys) c.bank.ensures c.in_ok-found.ensures.there

pub returns-clause-lines : goal.returns-clause-lines
returns-clause-lines g c =
    let y = c.args.engine.now.spec in
    let w = g.B.TermBank.store c.args.engine.now.bank in
    let old = c.args.self.now.lines.items in
    let v = held_tree w c.args.value in
    let trees = subst (λ b. trees_of (g.B.TermBank.store b) c.in_ok-found.found.keys ≡ different
    (applications (held_tree (g.B.TermBank.store b) c.args.value))) c.bank.ensures c.in_ok-found.ensures.trees in
    on_ok_of c.add_applications.result (λ h source spots. h source spots ∙ ap (λ z. old ++ z) (all-lines source y w c.in_ok-found.found.keys v trees))
    c.add_applications.ensures.lines

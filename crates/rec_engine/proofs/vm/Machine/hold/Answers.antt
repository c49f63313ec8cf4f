use Rattle.std.proofs.Common.{subst}
use Rattle.rx_term.specs.Steps.{Keeps}
use Rattle.rec_engine.proofs.EvaluationLemmas.{first-two}
use Rattle.rec_engine.proofs.StayLemmas.{stays-kept}
use Rattle.rec_engine.proofs.vm.Machine.hold.Goals as goal

pub returns-clause-stays : goal.returns-clause-stays
returns-clause-stays g c =
    let w0 = g.B.TermBank.store c.args.self.now.heap.bank in
    let w1 = g.B.TermBank.store c.make.new.self.bank in
    let two = first-two c.clear.new.self.items c.push.new.work.items c.push-2.new.work.items c.args.t c.args.list c.clear.ensures.items
    c.in_ok-push.ensures.pushed c.in_ok-push-2.ensures.pushed in
    stays-kept c.requires.ready (subst (λ xs. Keeps w0 w1 xs) two c.make.ensures.kept.keeps) c.make.ensures.kept.known

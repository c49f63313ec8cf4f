use Rattle.std.proofs.Common.{subst}
use Rattle.rx_term.specs.Steps.{Keeps}
use Rattle.rec_engine.proofs.StayLemmas.{stays-kept}
use Rattle.rec_engine.proofs.vm.Machine.hold_at.Goals as goal

pub returns-in_err-held-clause-stays : goal.returns-in_err-held-clause-stays
returns-in_err-held-clause-stays g c =
    let w0 = g.B.TermBank.store c.args.self.now.heap.bank in
    let w1 = g.B.TermBank.store c.make.new.self.bank in
    stays-kept c.requires.ready (subst (λ xs. Keeps w0 w1 xs) c.in-Ok.ensures.items c.make.ensures.kept.keeps) c.make.ensures.kept.known

pub returns-clause-stays : goal.returns-clause-stays
returns-clause-stays g c =
    let w0 = g.B.TermBank.store c.args.self.now.heap.bank in
    let w1 = g.B.TermBank.store c.make.new.self.bank in
    stays-kept c.requires.ready (subst (λ xs. Keeps w0 w1 xs) c.in-Ok.ensures.items c.make.ensures.kept.keeps) c.make.ensures.kept.known

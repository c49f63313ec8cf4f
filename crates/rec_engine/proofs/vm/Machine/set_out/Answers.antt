use Rattle.std.proofs.Common.{subst, ap, length, ◌∙◌, arith}
use Rattle.rx_term.specs.Steps.{Keeps}
use Rattle.rec_engine.proofs.CallLemmas.{set-first, set-second, set-held}
use Rattle.rec_engine.proofs.StayLemmas.{stays-kept}
use Rattle.rec_engine.proofs.vm.Machine.set_out.Goals as goal

pub insert-requires : goal.insert-requires
insert-requires g c =
    let long = ap length (c.make.ensures.same ∙ set-first c.clear.new.self.items c.push.new.work.items c.push_all.new.work.items
    c.args.kept c.args.values.now c.clear.ensures.items c.in_ok-push.ensures.pushed c.in_ok-push_all.ensures.pushed) in
    omega (arith, long)

pub returns-in_err-empty-clause-stays : goal.returns-in_err-empty-clause-stays
returns-in_err-empty-clause-stays g c =
    let w0 = g.B.TermBank.store c.args.self.now.heap.bank in
    let w1 = g.B.TermBank.store c.make.new.self.bank in
    stays-kept c.requires.ready (subst (λ xs. Keeps w0 w1 xs) (set-first c.clear.new.self.items c.push.new.work.items c.push_all.new.work.items
    c.args.kept c.args.values.now c.clear.ensures.items c.in_ok-push.ensures.pushed c.in_ok-push_all.ensures.pushed) c.make.ensures.kept.keeps)
    c.make.ensures.kept.known

pub returns-in_err-insert-clause-stays : goal.returns-in_err-insert-clause-stays
returns-in_err-insert-clause-stays g c =
    let w0 = g.B.TermBank.store c.args.self.now.heap.bank in
    let w1 = g.B.TermBank.store c.make.new.self.bank in
    stays-kept c.requires.ready (subst (λ xs. Keeps w0 w1 xs) (set-first c.clear.new.self.items c.push.new.work.items c.push_all.new.work.items
    c.args.kept c.args.values.now c.clear.ensures.items c.in_ok-push.ensures.pushed c.in_ok-push_all.ensures.pushed) c.make.ensures.kept.keeps)
    c.make.ensures.kept.known

pub returns-clause-stays : goal.returns-clause-stays
returns-clause-stays g c =
    let w0 = g.B.TermBank.store c.args.self.now.heap.bank in
    let w1 = g.B.TermBank.store c.make.new.self.bank in
    stays-kept c.requires.ready (subst (λ xs. Keeps w0 w1 xs) (set-first c.clear.new.self.items c.push.new.work.items c.push_all.new.work.items
    c.args.kept c.args.values.now c.clear.ensures.items c.in_ok-push.ensures.pushed c.in_ok-push_all.ensures.pushed) c.make.ensures.kept.keeps)
    c.make.ensures.kept.known

pub returns-clause-set : goal.returns-clause-set
returns-clause-set g c =
    set-second c.make.new.self.work.items c.insert.new.work.items c.args.kept c.in_ok-empty.empty c.args.values.now
    (c.make.ensures.same ∙ set-first c.clear.new.self.items c.push.new.work.items c.push_all.new.work.items c.args.kept
    c.args.values.now c.clear.ensures.items c.in_ok-push.ensures.pushed c.in_ok-push_all.ensures.pushed)
    c.in_ok-insert.ensures.inserted

pub returns-clause-held : goal.returns-clause-held
returns-clause-held g c =
    let w0 = g.B.TermBank.store c.args.self.now.heap.bank in
    let w1 = g.B.TermBank.store c.make.new.self.bank in
    set-held w0 w1 c.args.kept c.in_ok-empty.empty c.args.values.now _
    (subst (λ xs. Keeps w0 w1 xs) (set-first c.clear.new.self.items c.push.new.work.items c.push_all.new.work.items
    c.args.kept c.args.values.now c.clear.ensures.items c.in_ok-push.ensures.pushed c.in_ok-push_all.ensures.pushed)
    c.make.ensures.kept.keeps) c.requires.kept c.requires.values c.in_ok-empty.ensures.makes
    (set-second c.make.new.self.work.items c.insert.new.work.items c.args.kept c.in_ok-empty.empty c.args.values.now
    (c.make.ensures.same ∙ set-first c.clear.new.self.items c.push.new.work.items c.push_all.new.work.items c.args.kept
    c.args.values.now c.clear.ensures.items c.in_ok-push.ensures.pushed c.in_ok-push_all.ensures.pushed)
    c.in_ok-insert.ensures.inserted)

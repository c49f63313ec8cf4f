use Rattle.std.proofs.Common.{ap, is_some, subst, sym, Contains}
use Rattle.rx_term.specs.Walks.{held_tree}
use Rattle.rec_sorts.specs.Walking.{backwards}
use Rattle.rec_engine.specs.Engine.{IsGiven}
use Rattle.rec_engine.proofs.CopiedLemmas.{have-symbols}
use Rattle.rec_engine.proofs.EngineLemmas.{all-held, ok-stays, room-stays}
use Rattle.rec_engine.proofs.NormalLemmas.{given-nodes}
use Rattle.rec_engine.proofs.SpelledLemmas.{copy-given}
use Rattle.rec_engine.proofs.StayLemmas.{ready-kept}
use Rattle.rec_engine.proofs.engine.Engine.given_from.Goals as goal

pub invariant_of-self : goal.invariant_of-self
invariant_of-self g c = (c.self.invariant.0, ready-kept c.self.invariant.1 c.copy_term-made.ensures.kept.keeps c.copy_term-made.ensures.kept.known)

pub copy_term-made-requires-clause-there : goal.copy_term-made-requires-clause-there
copy_term-made-requires-clause-there g c = ap is_some c.requires.held

pub copy_term-made-requires-clause-nodes : goal.copy_term-made-requires-clause-nodes
copy_term-made-requires-clause-nodes g c =
    let y = c.self.inside.machine.checked.spec in
    let own = g.N.TermBank.store c.args.own.now in
    have-symbols y (g.B.TermBank.store c.self.inside.machine.heap.bank) _ c.self.invariant.1.linked (backwards (held_tree own c.args.t))
    (given-nodes y own c.args.t (subst (λ z. IsGiven z own c.args.t) (sym (ap (λ e. e.spec) c.self.view_is)) c.requires))

pub returns-clause-given : goal.returns-clause-given
returns-clause-given g c =
    let y = c.self.inside.machine.checked.spec in
    let own = g.N.TermBank.store c.args.own.now in
    copy-given y own (g.B.TermBank.store c.copy_term-made.new.self.bank) c.args.t c.copy_term-made.result
    (subst (λ z. IsGiven z own c.args.t) (sym (ap (λ e. e.spec) c.self.view_is)) c.requires) c.copy_term-made.ensures.term

pub returns-clause-kept : goal.returns-clause-kept
returns-clause-kept g c = ok-stays c.copy_term-made.new.self.work.items c.let_go.new.work.items c.copy_term-made.result (λ t work. Contains work t)
    c.let_go.ensures c.copy_term-made.ensures.stands

pub returns-clause-held : goal.returns-clause-held
returns-clause-held g c = all-held c.copy_term-made.new.self.work.items c.let_go.new.work.items c.copy_term-made.result
    (g.B.TermBank.store c.copy_term-made.new.self.bank) c.copy_term-made.new.self.pace.memo c.let_go.ensures c.copy_term-made.ensures.held
    c.copy_term-made.ensures.needed

pub returns-clause-needed : goal.returns-clause-needed
returns-clause-needed g c = room-stays c.copy_term-made.new.self.work.items c.let_go.new.work.items c.copy_term-made.result
    (g.B.TermBank.store c.copy_term-made.new.self.bank) c.copy_term-made.new.self.pace.memo c.let_go.ensures c.copy_term-made.ensures.needed

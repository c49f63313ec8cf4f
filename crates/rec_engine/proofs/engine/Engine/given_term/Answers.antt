use Rattle.std.proofs.Common.{sym, subst, ap, Contains}
use Rattle.std.specs.Prelude.{◌≡◌, IfOk, Some}
use Rattle.rx_term.specs.Tree.{Tree}
use Rattle.rx_term.specs.Store.{tree_at}
use Rattle.rec_sorts.specs.Binding.{tree_of}
use Rattle.rec_sorts.specs.Evaluation.{term_of}
use Rattle.rec_engine.specs.Engine.{Spells}
use Rattle.rec_engine.proofs.EngineLemmas.{all-held, ok-stays, room-stays}
use Rattle.rec_engine.proofs.SpelledLemmas.{spelled-makes, spelled-made, spelled-given}
use Rattle.rec_engine.proofs.StayLemmas.{ready-kept}
use Rattle.rec_engine.proofs.engine.Engine.given_term.Goals as goal

pub invariant_of-self : goal.invariant_of-self
invariant_of-self g c = (c.self.invariant.0, ready-kept c.self.invariant.1 c.make_term-made.ensures.kept.keeps c.make_term-made.ensures.kept.known)

pub make_term-made-requires-clause-one : goal.make_term-made-requires-clause-one
make_term-made-requires-clause-one g c =
    let y = c.self.inside.machine.checked.spec in
    let u = c.requires.0 in (
      tree_of (term_of u),
      spelled-makes y c.self.invariant.1.code.kept c.args.letters.now u
          (subst (λ z. Spells z c.args.letters.now u) (sym (ap (λ e. e.spec) c.self.view_is)) c.requires.1),
    )

pub returns-clause-term : goal.returns-clause-term
returns-clause-term g c =
    let y = c.self.inside.machine.checked.spec in
    let w = g.B.TermBank.store c.make_term-made.new.self.bank in
    subst (λ z. IfOk c.make_term-made.result (λ t. (u : Tree) → Spells z c.args.letters.now u → tree_at w t ≡ Some (tree_of (term_of u))))
    (ap (λ e. e.spec) c.self.view_is)
    (spelled-made y c.self.invariant.1.code.kept w c.args.letters.now c.make_term-made.result c.make_term-made.ensures.term)

pub returns-clause-given : goal.returns-clause-given
returns-clause-given g c =
    let y = c.self.inside.machine.checked.spec in
    let w = g.B.TermBank.store c.make_term-made.new.self.bank in
    spelled-given y c.self.invariant.1.code.kept w c.args.letters.now c.requires.0
    (subst (λ z. Spells z c.args.letters.now c.requires.0) (sym (ap (λ e. e.spec) c.self.view_is)) c.requires.1) c.make_term-made.result
    c.make_term-made.ensures.term

pub returns-clause-room : goal.returns-clause-room
returns-clause-room g c u h =
    let y = c.self.inside.machine.checked.spec in
    c.make_term-made.ensures.room (tree_of (term_of u)) (spelled-makes y c.self.invariant.1.code.kept c.args.letters.now u
    (subst (λ z. Spells z c.args.letters.now u) (sym (ap (λ e. e.spec) c.self.view_is)) h))

pub returns-clause-kept : goal.returns-clause-kept
returns-clause-kept g c = ok-stays c.make_term-made.new.self.work.items c.let_go.new.work.items c.make_term-made.result (λ t work. Contains work t)
    c.let_go.ensures c.make_term-made.ensures.stands

pub returns-clause-held : goal.returns-clause-held
returns-clause-held g c = all-held c.make_term-made.new.self.work.items c.let_go.new.work.items c.make_term-made.result
    (g.B.TermBank.store c.make_term-made.new.self.bank) c.make_term-made.new.self.pace.memo c.let_go.ensures c.make_term-made.ensures.held
    c.make_term-made.ensures.needed

pub returns-clause-needed : goal.returns-clause-needed
returns-clause-needed g c = room-stays c.make_term-made.new.self.work.items c.let_go.new.work.items c.make_term-made.result
    (g.B.TermBank.store c.make_term-made.new.self.bank) c.make_term-made.new.self.pace.memo c.let_go.ensures c.make_term-made.ensures.needed

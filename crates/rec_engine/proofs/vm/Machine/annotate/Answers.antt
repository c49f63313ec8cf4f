use Rattle.std.proofs.Common.{◌++◌, ◌∷◌, [], subst, sym, Contains, IsSome, List}
use Rattle.rx_term.specs.Steps.{Keeps}
use Rattle.rx_term.specs.Store.{tree_at}
use Rattle.rx_term.specs.Walks.{AllHeld}
use Rattle.rx_term.specs.declared.Term.{Term}
use Rattle.rec_engine.proofs.BuildingLemmas.{held-more}
use Rattle.rec_engine.proofs.EndLemmas.{in-end, in-here, in-snoc}
use Rattle.rec_engine.proofs.EvaluationLemmas.{kept-front, noted-held}
use Rattle.rec_engine.proofs.StayLemmas.{stays-kept}
use Rattle.rec_engine.proofs.vm.Machine.annotate.Goals as goal

pub returns-in_err-noted-clause-stays : goal.returns-in_err-noted-clause-stays
returns-in_err-noted-clause-stays g c =
    let w0 = g.B.TermBank.store c.args.self.now.heap.bank in
    let w1 = g.B.TermBank.store c.make.new.self.bank in
    stays-kept c.requires.ready (kept-front w0 w1 c.args.self.now.heap.work.items (c.in-Some.anns ∷ [])
    (subst (λ xs. Keeps w0 w1 xs) c.in_ok-push.ensures.pushed c.make.ensures.kept.keeps)) c.make.ensures.kept.known

pub returns-in_err-push-2-clause-stays : goal.returns-in_err-push-2-clause-stays
returns-in_err-push-2-clause-stays g c =
    let w0 = g.B.TermBank.store c.args.self.now.heap.bank in
    let w1 = g.B.TermBank.store c.make.new.self.bank in
    stays-kept c.requires.ready (kept-front w0 w1 c.args.self.now.heap.work.items (c.in-Some.anns ∷ [])
    (subst (λ xs. Keeps w0 w1 xs) c.in_ok-push.ensures.pushed c.make.ensures.kept.keeps)) c.make.ensures.kept.known

pub returns-clause-stays : goal.returns-clause-stays
returns-clause-stays g c =
    let w0 = g.B.TermBank.store c.args.self.now.heap.bank in
    let w1 = g.B.TermBank.store c.make.new.self.bank in
    stays-kept c.requires.ready (kept-front w0 w1 c.args.self.now.heap.work.items (c.in-Some.anns ∷ [])
    (subst (λ xs. Keeps w0 w1 xs) c.in_ok-push.ensures.pushed c.make.ensures.kept.keeps)) c.make.ensures.kept.known

pub returns-clause-kept : goal.returns-clause-kept
returns-clause-kept g c =
    subst (λ (xs : List Term). Contains xs c.in_ok-noted.noted) (sym c.in_ok-push-2.ensures.pushed)
    (in-end c.make.new.self.work.items (c.in_ok-noted.noted ∷ []) c.in_ok-noted.noted (in-here c.in_ok-noted.noted []))

pub returns-clause-all_held : goal.returns-clause-all_held
returns-clause-all_held g c =
    let w0 = g.B.TermBank.store c.args.self.now.heap.bank in
    let w1 = g.B.TermBank.store c.make.new.self.bank in
    let xs = c.push.new.work.items in
    let held = λ (t : Term) (inside : Contains xs t).
    in-snoc c.args.self.now.heap.work.items c.in-Some.anns t (IsSome (tree_at w0 t))
    (subst (λ (ys : List Term). Contains ys t) c.in_ok-push.ensures.pushed inside)
    (λ b. c.requires.held t b) (λ e. subst (λ (x : Term). IsSome (tree_at w0 x)) e (subst IsSome (sym c.in-Some.ensures.1) c.in-Some.ensures.0)) in
    let there = subst IsSome (sym c.in_ok-noted.ensures.makes) (noted-held w0 c.args.t c.args.value c.in-Some.anns c.in-Some.ensures
    (c.requires.held c.args.value c.requires.value)) in
    subst (AllHeld w1) (sym c.in_ok-push-2.ensures.pushed)
    (subst (λ ys. AllHeld w1 (ys ++ c.in_ok-noted.noted ∷ [])) (sym c.make.ensures.same)
    (held-more w0 w1 xs xs c.in_ok-noted.noted c.make.ensures.kept.keeps held (λ t b. b) there))

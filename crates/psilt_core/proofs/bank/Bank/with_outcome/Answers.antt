use Rattle.std.proofs.Common.{◌≡◌, Some, None, refl, sym, ap, subst}
use Rattle.std.specs.Prelude.{IfOk}
use Rattle.rx_term.specs.Tree.{Tree}
use Rattle.rx_term.specs.Store.{Store, tree_at}
use Rattle.rx_shared.specs.State as shared
use Rattle.rec_syntax.specs.Syntax.{Spec}
use Rattle.rec_engine.specs.Control.{IfEnded}
use Rattle.rec_engine.specs.Engine.{IsOutcome, IsNormalised}
use Rattle.rec_engine.specs.declared.engine.Controlled.{Controlled}
use Rattle.rec_engine.proofs.LimitLemmas.{unlimited}
use Rattle.psilt_core.specs.Banks.{BankState, IsSpecified, store_of}
use Rattle.psilt_core.proofs.EvaluatingLemmas.{on_engine, lacks_cells}
use Rattle.psilt_core.proofs.bank.Bank.with_outcome.Goals as goal

pub returns-clause-outcome : goal.returns-clause-outcome
returns-clause-outcome g c =
    let e = c.into_engine-engine.result.0 in let f = c.normalise_controlled-outcome.new.self in
    let parts = c.into_engine-engine.ensures.parts in
    subst (λ (w : Store). IfOk c.normalise_controlled-outcome.result (λ (x : Controlled).
    IsSpecified c.args.self (λ y. IfEnded (λ o. (u : Tree) → tree_at w c.args.given.term ≡ Some u → IsOutcome y (store_of c.of.result) c.args.given.steps u o) x)))
    (sym (ap store_of parts))
    (on_engine c.args.self e c.into_engine-engine.result.1 c.into_engine-engine.result.2.keys parts f.spec (shared.store_of f.bank.shared)
    (store_of c.of.result) (λ (y : Spec) (w : Store) (x : Controlled). IfEnded (λ o. (u : Tree)
    → tree_at (shared.store_of e.bank.shared) c.args.given.term ≡ Some u → IsOutcome y w c.args.given.steps u o) x) c.normalise_controlled-outcome.result
    c.normalise_controlled-outcome.ensures.same.spec (sym (ap (λ (b : BankState). store_of b) c.of.ensures)) c.normalise_controlled-outcome.ensures.outcome)

pub returns-clause-rewriting : goal.returns-clause-rewriting
returns-clause-rewriting g c =
    let e = c.into_engine-engine.result.0 in let f = c.normalise_controlled-outcome.new.self in
    let parts = c.into_engine-engine.ensures.parts in
    subst (λ (w : Store). IfOk c.normalise_controlled-outcome.result (λ (x : Controlled).
    IsSpecified c.args.self (λ y. IfEnded (λ o. (u : Tree) → tree_at w c.args.given.term ≡ Some u → IsNormalised y (store_of c.of.result) c.args.given.steps u o) x)))
    (sym (ap store_of parts))
    (on_engine c.args.self e c.into_engine-engine.result.1 c.into_engine-engine.result.2.keys parts f.spec (shared.store_of f.bank.shared)
    (store_of c.of.result) (λ (y : Spec) (w : Store) (x : Controlled). IfEnded (λ o. (u : Tree)
    → tree_at (shared.store_of e.bank.shared) c.args.given.term ≡ Some u → IsNormalised y w c.args.given.steps u o) x) c.normalise_controlled-outcome.result
    c.normalise_controlled-outcome.ensures.same.spec (sym (ap (λ (b : BankState). store_of b) c.of.ensures)) c.normalise_controlled-outcome.ensures.rewriting)

pub returns-clause-room : goal.returns-clause-room
returns-clause-room g c =
    let f = c.normalise_controlled-outcome.new.self in
    lacks_cells c.of.result (shared.store_of f.bank.shared) f.work f.memo c.normalise_controlled-outcome.result
    (sym (ap (λ (b : BankState). store_of b) c.of.ensures)) (ap (λ (b : BankState). b.memo) c.of.ensures)
    (unlimited (shared.store_of f.bank.shared) f.work f.memo f.waiting None c.normalise_controlled-outcome.result refl
    c.normalise_controlled-outcome.ensures.fault)

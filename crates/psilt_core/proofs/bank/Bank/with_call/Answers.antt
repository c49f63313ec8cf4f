use Rattle.std.proofs.Common.{List, None, refl, sym, ap, subst}
use Rattle.std.specs.Prelude.{IfOk}
use Rattle.rx_term.specs.Store.{Store}
use Rattle.rx_term.specs.Walks.{AllHeld, held_trees}
use Rattle.rx_term.specs.declared.Term.{Term}
use Rattle.rx_shared.specs.State as shared
use Rattle.rec_syntax.specs.Syntax.{Spec}
use Rattle.rec_engine.specs.Engine.{IsCallOutcome}
use Rattle.rec_engine.specs.Machine.{called}
use Rattle.rec_engine.specs.declared.engine.Outcome.{Outcome}
use Rattle.rec_engine.proofs.LimitLemmas.{unlimited}
use Rattle.psilt_core.specs.Banks.{BankState, IsSpecified, store_of}
use Rattle.psilt_core.proofs.BankLemmas.{same_symbols}
use Rattle.psilt_core.proofs.EvaluatingLemmas.{on_engine, lacks_cells}
use Rattle.psilt_core.proofs.bank.Bank.with_call.Goals as goal

pub call-outcome-requires-clause-values : goal.call-outcome-requires-clause-values
call-outcome-requires-clause-values c = subst (AllHeld (shared.store_of c.into_engine-engine.result.0.bank.shared)) (sym c.deref.ensures.value)
    (subst (λ (b : BankState). AllHeld (store_of b) c.args.asked.values.items) c.into_engine-engine.ensures.parts c.requires.values)

pub of-requires : goal.of-requires
of-requires c = same_symbols (shared.store_of c.into_engine-engine.result.0.bank.shared) (shared.store_of c.call-outcome.new.self.bank.shared)
    c.into_engine-engine.result.2.keys c.call-outcome.ensures.keeps.beside.symbols c.into_engine-engine.ensures.known

pub returns-clause-outcome : goal.returns-clause-outcome
returns-clause-outcome c =
    let e = c.into_engine-engine.result.0 in let f = c.call-outcome.new.self in let asked = c.args.asked in
    let parts = c.into_engine-engine.ensures.parts in
    let now = sym (ap (λ (b : BankState). store_of b) c.of.ensures) in
    subst (λ (rs : List Term). IfOk c.call-outcome.result (λ (o : Outcome).
    IsSpecified c.args.self (λ y. IsCallOutcome y (store_of c.of.result) asked.steps (called y asked.number (held_trees (store_of c.args.self) rs)) o)))
    c.deref.ensures.value
    (subst (λ (w : Store). IfOk c.call-outcome.result (λ (o : Outcome).
    IsSpecified c.args.self (λ y. IsCallOutcome y (store_of c.of.result) asked.steps (called y asked.number (held_trees w c.deref.result.now)) o)))
    (sym (ap store_of parts))
    (on_engine c.args.self e c.into_engine-engine.result.1 c.into_engine-engine.result.2.keys parts e.spec (shared.store_of f.bank.shared) (store_of c.of.result)
    (λ (y : Spec) (w : Store) (o : Outcome).
    IsCallOutcome y w asked.steps (called y asked.number (held_trees (shared.store_of e.bank.shared) c.deref.result.now)) o) c.call-outcome.result refl now
    c.call-outcome.ensures.outcome))

pub returns-clause-room : goal.returns-clause-room
returns-clause-room c =
    let f = c.call-outcome.new.self in
    lacks_cells c.of.result (shared.store_of f.bank.shared) f.work f.memo c.call-outcome.result
    (sym (ap (λ (b : BankState). store_of b) c.of.ensures)) (ap (λ (b : BankState). b.memo) c.of.ensures)
    (unlimited (shared.store_of f.bank.shared) f.work f.memo f.waiting None c.call-outcome.result refl c.call-outcome.ensures.fault)

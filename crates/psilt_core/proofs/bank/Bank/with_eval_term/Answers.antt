use Rattle.std.proofs.Common.{◌≡◌, sym, ap}
use Rattle.rx_term.specs.Store.{Store, tree_at}
use Rattle.rx_term.specs.declared.Term.{Term}
use Rattle.rx_shared.specs.State as shared
use Rattle.rec_syntax.specs.Syntax.{Spec}
use Rattle.rec_engine.specs.Engine.{IsGiven, eval_tree}
use Rattle.psilt_core.specs.Banks.{BankState, store_of}
use Rattle.psilt_core.proofs.EvaluatingLemmas.{on_engine, eval_filled}
use Rattle.psilt_core.proofs.bank.Bank.with_eval_term.Goals as goal

pub returns-clause-term : goal.returns-clause-term
returns-clause-term c =
    let e = c.into_engine-engine.result.0 in let f = c.eval_term-term.new.self in
    on_engine c.args.self e c.into_engine-engine.result.1 c.into_engine-engine.result.2.keys c.into_engine-engine.ensures.parts f.spec
    (shared.store_of f.bank.shared) (store_of c.of.result) (λ (y : Spec) (w : Store) (t : Term). tree_at w t ≡ eval_tree y c.args.i) c.eval_term-term.result
    c.eval_term-term.ensures.same.spec (sym (ap (λ (b : BankState). store_of b) c.of.ensures)) c.eval_term-term.ensures.term

pub returns-clause-given : goal.returns-clause-given
returns-clause-given c =
    let e = c.into_engine-engine.result.0 in let f = c.eval_term-term.new.self in
    on_engine c.args.self e c.into_engine-engine.result.1 c.into_engine-engine.result.2.keys c.into_engine-engine.ensures.parts f.spec
    (shared.store_of f.bank.shared) (store_of c.of.result) (λ (y : Spec) (w : Store) (t : Term). IsGiven y w t) c.eval_term-term.result
    c.eval_term-term.ensures.same.spec (sym (ap (λ (b : BankState). store_of b) c.of.ensures)) c.eval_term-term.ensures.given

pub returns-clause-room : goal.returns-clause-room
returns-clause-room c =
    let e = c.into_engine-engine.result.0 in let f = c.eval_term-term.new.self in
    eval_filled c.args.self c.of.result (record { spec = e.spec; options = e.options }) f.spec c.args.i (shared.store_of f.bank.shared) f.memo
    c.eval_term-term.result (ap (λ (b : BankState). b.specified) c.into_engine-engine.ensures.parts) c.eval_term-term.ensures.same.spec
    (sym (ap (λ (b : BankState). store_of b) c.of.ensures)) (ap (λ (b : BankState). b.memo) c.of.ensures) c.eval_term-term.ensures.room

use Rattle.std.proofs.Common.{ℕ, Some, None, refl, sym, ap}
use Rattle.rx_term.specs.Store.{Store}
use Rattle.rx_shared.specs.State as shared
use Rattle.rec_syntax.specs.Syntax.{Spec}
use Rattle.psilt_core.specs.Banks.{store_of}
use Rattle.psilt_core.specs.Inner.Judged.{IsJudged, IsSymbolOf}
use Rattle.psilt_core.proofs.EvaluatingLemmas.{on_engine, on_engine_err}
use Rattle.psilt_core.proofs.bank.Bank.with_verdict.Goals as goal

pub returns-clause-number : goal.returns-clause-number
returns-clause-number c =
    let e = c.into_engine-engine.result.0 in let parts = c.into_engine-engine.ensures.parts in
    on_engine c.args.self e c.into_engine-engine.result.1 c.into_engine-engine.result.2.keys parts e.spec (shared.store_of e.bank.shared) (store_of c.args.self)
    (λ (y : Spec) (w : Store) (k : ℕ). IsSymbolOf y w c.args.call.symbol k) c.judge-verdict.result refl (sym (ap store_of parts)) c.judge-verdict.ensures.number

pub returns-clause-kept : goal.returns-clause-kept
returns-clause-kept c =
    let e = c.into_engine-engine.result.0 in let parts = c.into_engine-engine.ensures.parts in
    on_engine c.args.self e c.into_engine-engine.result.1 c.into_engine-engine.result.2.keys parts e.spec (shared.store_of e.bank.shared) (store_of c.args.self)
    (λ (y : Spec) (w : Store) (k : ℕ). IsJudged y w c.args.call.symbol c.args.call.values.items None) c.judge-verdict.result refl (sym (ap store_of parts))
    c.judge-verdict.ensures.kept

pub returns-clause-broken : goal.returns-clause-broken
returns-clause-broken c =
    let e = c.into_engine-engine.result.0 in let parts = c.into_engine-engine.ensures.parts in
    on_engine_err c.args.self e c.into_engine-engine.result.1 c.into_engine-engine.result.2.keys parts e.spec (shared.store_of e.bank.shared) (store_of c.args.self)
    (λ (y : Spec) (w : Store) (k : ℕ). IsJudged y w c.args.call.symbol c.args.call.values.items (Some k)) c.judge-verdict.result refl (sym (ap store_of parts))
    c.judge-verdict.ensures.broken

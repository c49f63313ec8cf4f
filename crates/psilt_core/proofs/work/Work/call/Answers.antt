use Rattle.std.proofs.Common.{rules, refl, length, arith}
use Rattle.rx_term.specs.Store.{signature_of}
use Rattle.psilt_core.specs.Banks.{store_of}
use Rattle.psilt_core.proofs.SymbolLemmas.{symbol_at_is, other_arity}
use Rattle.psilt_core.proofs.work.Work.call.Goals as goal

pub returns-then-arity_of-args-clause-answer : goal.returns-then-arity_of-args-clause-answer
returns-then-arity_of-args-clause-answer c =
    let b = c.args.self.now.bank in (
      search rules,
      rw (symbol_at_is b c.args.n c.in-Some.symbol c.in-Some.ensures.symbol)
          (other_arity (signature_of (store_of b) c.in-Some.symbol) (length c.args.args.now) c.arity_of.result c.in-Some.ensures.there (search rules)
          (λ e. omega (arith, e, c.if-arity_of-args.true))),
      refl,
    )

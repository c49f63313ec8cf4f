use Rattle.std.proofs.Common.{rules, refl, length, arith}
use Rattle.rx_term.specs.Store.{signature_of}
use Rattle.psilt_core.specs.Banks.{store_of}
use Rattle.psilt_core.proofs.SymbolLemmas.{symbol_at_is, other_arity, applies_symbol}
use Rattle.psilt_core.proofs.work.Work.apply.Goals as goal

pub returns-then-arity_of-args-clause-answer : goal.returns-then-arity_of-args-clause-answer
returns-then-arity_of-args-clause-answer c =
    let b = c.args.self.now.bank in (
      rw (symbol_at_is b c.args.n c.in-Some.symbol c.in-Some.ensures.symbol)
          (other_arity (signature_of (store_of b) c.in-Some.symbol) (length c.args.args.now) c.arity_of.result c.in-Some.ensures.there (search rules)
          (λ e. omega (arith, e, c.if-arity_of-args.true))),
      refl,
    )

pub returns-clause-answer : goal.returns-clause-answer
returns-clause-answer c =
    let b = c.args.self.now.bank in
    rw (symbol_at_is b c.args.n c.in-Some.symbol c.in-Some.ensures.symbol, c.term_or_fault.ensures)
    (applies_symbol (signature_of (store_of b) c.in-Some.symbol) (store_of b) (store_of c.apply_symbol.new.bank) c.args.args.now
    c.apply_symbol.result c.in-Some.ensures.there c.apply_symbol.ensures.grows c.apply_symbol.ensures.made c.apply_symbol.ensures.full)

use Rattle.std.proofs.Common.{◌≡◌, ℕ, Some, Result, Ok, Err, sym, ap, subst, arith}
use Rattle.rx_term.specs.Tree.{Tree}
use Rattle.rx_term.specs.Store.{tree_at}
use Rattle.rx_pattern.specs.Filling as filling
use Rattle.rx_pattern.specs.Filling.{Kinds}
use Rattle.rx_pattern.specs.Faults.{IsOfTerms}
use Rattle.psilt_core.specs.Banks.{BankState, store_of}
use Rattle.psilt_core.proofs.MatchingLemmas.{on_filling, is_err, right_count}
use Rattle.psilt_core.proofs.work.Work.fill.Goals as goal

pub returns-in-Err-Kind-clause-answer : goal.returns-in-Err-Kind-clause-answer
returns-in-Err-Kind-clause-answer c =
    let w = store_of c.args.self.now.bank in
    let e = is_err c.fill.result c.in-Err-Kind.field-0 _ c.in-Err-Kind.is c.in-Err-Kind.field-0-is in (
      on_filling _ c.in-Some.pattern.now w c.args.args.now (λ (r : Result Tree filling.Fault). (at : ℕ) × (r ≡ Err (Kinds at)))
          (sym c.in-Some.ensures) c.requires.held (λ bs h. (c.in-Err-Kind.field-0-0, (c.fill.ensures.kind bs h c.in-Err-Kind.field-0-0).0 e)),
      c.in-Err-Kind.ensures.unchanged (subst IsOfTerms (sym c.in-Err-Kind.field-0-is) tt),
    )

pub unreachable-requires-in-Err-Count : goal.unreachable-requires-in-Err-Count
unreachable-requires-in-Err-Count c =
    let e = is_err c.fill.result c.in-Err-Count.field-0 _ c.in-Err-Count.is c.in-Err-Count.field-0-is in
    right_count _ c.in-Some.pattern.now (store_of c.args.self.now.bank) c.args.args.now (sym c.in-Some.ensures) c.requires.takes c.requires.held
    (λ bs h. (c.fill.ensures.count bs h).0 e)

pub returns-clause-answer : goal.returns-clause-answer
returns-clause-answer c =
    let w = store_of c.args.self.now.bank in (
      on_filling _ c.in-Some.pattern.now w c.args.args.now (λ (r : Result Tree filling.Fault). (u : Tree) × (r ≡ Ok u)
          × (tree_at (store_of c.fill.new.self) c.in-Ok.t ≡ Some u)) (sym c.in-Some.ensures) c.requires.held c.in-Ok.ensures.made,
      λ lt.
          let most = ap (λ (b : BankState). b.most_names) c.fill.ensures.beside in
          let within = c.keeps_limit.ensures.kept c.if-not-keeps_limit.false (omega (arith, c.names-before.ensures, lt)) in omega (arith, most, within),
    )

use Rattle.std.proofs.Common.{◌≡◌, ◌+◌, ◌<◌, suc, drop, length, ap, ◌∙◌, arith}
use Rattle.rec_sorts.specs.Lookup.{declared, names, symbols}
use Rattle.rec_sorts.specs.Numbering.{bytes_at}
use Rattle.psilt_core.proofs.CallingLemmas.{named_here, named_later, equal_names, other_names}
use Rattle.psilt_core.proofs.calling.named.Goals as goal

pub returns-then-eq-clause-symbol : goal.returns-then-eq-clause-symbol
returns-then-eq-clause-symbol c =
    let ds = symbols c.args.checked.now.spec in let k = c.loop-number.number in let lt : k < length ds = omega (arith, c.loop-number-test.true, c.symbols-number-end.ensures) in
    c.loop-number.invariant.rest
    ∙ named_here ds k c.args.name.now lt
    (equal_names c.symbol_name.result.now c.args.name.now (bytes_at (names ds) k) c.eq.result c.eq.ensures c.if-eq.true c.symbol_name.ensures)

pub loop-number-preserved : goal.loop-number-preserved
loop-number-preserved c =
    let ds = symbols c.args.checked.now.spec in let k = c.loop-number.number in
    let lt : k < length ds = omega (arith, c.loop-number-test.true, c.symbols-number-end.ensures) in
    let more : suc k ≡ k + 1 = omega arith in record {
      within = omega (arith, lt);
      rest = c.loop-number.invariant.rest
          ∙ named_later ds k c.args.name.now lt
          (other_names c.symbol_name.result.now c.args.name.now (bytes_at (names ds) k) c.eq.result c.eq.ensures c.if-eq.false c.symbol_name.ensures)
          ∙ ap (λ n. declared (drop n ds) c.args.name.now) more;
    }

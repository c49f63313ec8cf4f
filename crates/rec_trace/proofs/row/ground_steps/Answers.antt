use Rattle.std.proofs.Common.{◌≡◌, ◌+◌, ◌-◌, ◌∷◌, ap, arith, drop, get_or, length, refl, subst, sym, ◌∙◌}
use Rattle.rec_sorts.specs.declared.letters.Letter.{Letter}
use Rattle.rec_sorts.specs.declared.letters.Meaning.TheVariants.{Symbol}
use Rattle.rec_match.proofs.LetterLemmas.{every-at}
use Rattle.rec_engine.specs.Inner.Made.{IsApplied}
use Rattle.rec_engine.proofs.TermLemmas.{drop-at}
use Rattle.rec_trace.specs.Inner.Turns.{IsGroundRow}
use Rattle.rec_trace.proofs.SpreadLemmas.{ground-first, ground-more}
use Rattle.rec_trace.proofs.row.ground_steps.Goals as goal

pub unreachable-requires : goal.unreachable-requires
unreachable-requires c =
    let within = c.letters.invariant.within in
    let some = c.letters-test.true in
    let applied = every-at (IsApplied c.requires.0) c.args.letters.now c.requires.1 (c.letters.at - 1) (record { meaning = Symbol 0; count = 0 })
    (omega (arith, within, some)) in
    c.in_default.not-Symbol applied.number applied.symbol

pub letters-init : goal.letters-init
letters-init c = record {
  within = omega arith;
  row = λ y h.
      ground-first y c.new-steps.result.items c.args.letters.now (length c.args.letters.now) c.new-steps.ensures.items refl;
}

pub letters-preserved : goal.letters-preserved
letters-preserved c =
    let within = c.letters.invariant.within in
    let some = c.letters-test.true in
    let l : Letter = get_or c.args.letters.now (c.letters.at - 1) (record { meaning = Symbol 0; count = 0 }) in
    let split : l ∷ drop c.letters.at c.args.letters.now ≡ drop (c.letters.at - 1) c.args.letters.now =
    ap (λ k. l ∷ drop k c.args.letters.now) (let e : c.letters.at ≡ c.letters.at - 1 + 1 = omega (arith, some) in e)
    ∙ sym (drop-at c.args.letters.now (c.letters.at - 1) (record { meaning = Symbol 0; count = 0 }) (omega (arith, within, some))) in
    record {
      within = omega (arith, within);
      row = λ y h.
          let applied = every-at (IsApplied y) c.args.letters.now h (c.letters.at - 1) (record { meaning = Symbol 0; count = 0 })
          (omega (arith, within, some)) in
          subst (IsGroundRow y c.push.new.self.items) split
          (ground-more y c.letters.steps.items c.push.new.self.items l (drop c.letters.at c.args.letters.now) c.in-Symbol.symbol
          (c.letters.invariant.row y h) applied c.in-Symbol.is c.in-Ok.ensures.items);
    }

pub returns-clause-row : goal.returns-clause-row
returns-clause-row c = λ y h.
    let t = c.letters-test.false in
    subst (λ k. IsGroundRow y c.letters.steps.items (drop k c.args.letters.now)) (let e : c.letters.at ≡ 0 = omega (arith, t) in e)
    (c.letters.invariant.row y h)

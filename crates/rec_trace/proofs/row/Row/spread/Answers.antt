use Rattle.std.proofs.Common.{◌-◌, ◌<◌, ◌∙◌, ap, arith, length, refl, slice_get, subst, sym, take}
use Rattle.std.specs.Prelude.{◌≡◌, List, None, Some, Vec, ℕ}
use Rattle.std.proofs.Math.Seq.{take-length}
use Rattle.std.specs.declared.alloc.Global.{Global}
use Rattle.rx_term.specs.Walks.{held_tree}
use Rattle.rec_syntax.specs.Syntax.{Rule, Spec}
use Rattle.rec_sorts.specs.SpecRules.{fault}
use Rattle.rec_sorts.specs.declared.letters.Letter.{Letter}
use Rattle.rec_sorts.specs.declared.letters.Meaning.TheVariants.{Symbol}
use Rattle.rec_trace.specs.Inner.Sides.{HasValues, IsMatch, IsRow, side_of}
use Rattle.rec_trace.specs.declared.row.Step.{Step}
use Rattle.rec_trace.specs.declared.sides.Side.{Side}
use Rattle.rec_trace.proofs.PushLemmas.{row-letter}
use Rattle.rec_trace.proofs.SpreadLemmas.{pushed-above, same-top, spread-all, spread-calls, spread-next, spread-none}
use Rattle.rec_trace.proofs.row.Row.spread.Goals as goal

-- the letters of the engine's own specification
letters-at : (y z : Spec) (i : ℕ) (side : Side) (ls : List Letter) → z ≡ y
    → ((r : Rule) → slice_get z.rules i ≡ Some r → IsRow z r ls (side_of r side)) → (r : Rule) → slice_get y.rules i ≡ Some r
    → IsRow y r ls (side_of r side)
letters-at y z i side ls e = subst (λ (x : Spec). (r : Rule) → slice_get x.rules i ≡ Some r → IsRow x r ls (side_of r side)) e

pub letters-init : goal.letters-init
letters-init g c = record {
  within = omega arith;
  values = refl;
  low = refl;
  below = take-length c.args.self.now.steps.items;
  spreading = λ r s match values.
      spread-none c.args.engine.now.spec (g.B.TermBank.store c.args.engine.now.bank) c.args.self.now s r c.letters_of-letters.result.now
      (side_of r c.args.side) (length c.letters_of-letters.result.now) c.requires.row c.requires.can.4
      (letters-at c.args.engine.now.spec c.checked.result.now.spec c.args.rule c.args.side c.letters_of-letters.result.now c.checked.ensures
      c.letters_of-letters.ensures.letters r match.rule)
      refl;
}

pub push_letter-requires : goal.push_letter-requires
push_letter-requires g c =
    let y = c.args.engine.now.spec in
    let w = g.B.TermBank.store c.args.engine.now.bank in
    let can = c.requires.can in
    let top = same-top c.letters.self c.args.self.now c.letters.invariant.values in
    let lt = can.4 in
    let within = c.letters.invariant.within in
    let some = c.letters-test.true in
    let letters = letters-at y c.checked.result.now.spec c.args.rule c.args.side c.letters_of-letters.result.now c.checked.ensures
    c.letters_of-letters.ensures.letters can.0 can.2.rule in
    record {
      can = (
        can.0,
        can.1,
        subst (λ t. IsMatch y c.args.rule (held_tree w t) can.0 can.1) (sym top) can.2,
        subst (λ t. HasValues w t c.args.bind.now can.1) (sym top) can.3,
        (let e : c.letters.self.values.items ≡ c.args.self.now.values.items = (let q = c.letters.invariant.values in cc q) in
            subst (λ us. 0 < length us) (sym e) (omega (arith, lt))),
        (row-letter y can.0 c.letters_of-letters.result.now (side_of can.0 c.args.side) (c.letters.at - 1) (record { meaning = Symbol 0; count = 0 }) letters
            (omega (arith, within, some))).1,
      );
    }

pub letters-preserved : goal.letters-preserved
letters-preserved g c =
    let y = c.args.engine.now.spec in
    let i = c.letters.invariant in
    let within = i.within in
    record {
      within = omega (arith, within);
      values = c.push_letter.ensures.values ∙ i.values;
      low = c.push_letter.ensures.low ∙ i.low;
      below = pushed-above y (g.B.TermBank.store c.args.engine.now.bank) c.args.self.now c.letters.self c.push_letter.new.self c.args.rule _
          c.args.bind.now c.letters.pushed c.in_ok-pushed.pushed c.in_ok-pushed.ensures.pushed i.below;
      spreading = λ r s match values.
          spread-next y (g.B.TermBank.store c.args.engine.now.bank) c.args.self.now c.letters.self c.push_letter.new.self c.args.rule c.args.bind.now
          c.letters.pushed c.in_ok-pushed.pushed r s c.letters_of-letters.result.now (side_of r c.args.side) c.letters.at
          (record { meaning = Symbol 0; count = 0 })
          (subst (λ (z : Spec). fault z ≡ None) c.checked.ensures c.letters_of-letters.ensures.kept)
          (letters-at y c.checked.result.now.spec c.args.rule c.args.side c.letters_of-letters.result.now c.checked.ensures
          c.letters_of-letters.ensures.letters r match.rule)
          c.letters-test.true within c.requires.can.4 i.values match values c.in_ok-pushed.ensures.pushed (i.spreading r s match values);
    }

pub returns-then-not-pushed-clause-spread : goal.returns-then-not-pushed-clause-spread
returns-then-not-pushed-clause-spread g c = λ r s match values.
    let y = c.args.engine.now.spec in
    let i = c.letters.invariant in
    let n = c.len-rest.ensures in
    let long = c.letters.self.values.ok.0 in
    spread-calls y (g.B.TermBank.store c.args.engine.now.bank) c.args.self.now c.letters.self c.cut.new.self c.args.rule (c.len-rest.result - 1)
    c.letters.pushed r s c.letters_of-letters.result.now (side_of r c.args.side) c.letters.at c.requires.row c.requires.can.4 match
    (letters-at y c.checked.result.now.spec c.args.rule c.args.side c.letters_of-letters.result.now c.checked.ensures
    c.letters_of-letters.ensures.letters r match.rule)
    c.letters-test.false c.if-not-pushed.true i.values c.cut.ensures.steps (omega (arith, n, long)) c.cut.ensures.values (i.spreading r s match values)

pub returns-else-not-pushed-clause-spread : goal.returns-else-not-pushed-clause-spread
returns-else-not-pushed-clause-spread g c = λ r s match values.
    let y = c.args.engine.now.spec in
    let i = c.letters.invariant in
    spread-all y (g.B.TermBank.store c.args.engine.now.bank) c.args.self.now c.letters.self c.args.rule c.letters.pushed r s
    c.letters_of-letters.result.now (side_of r c.args.side) c.letters.at c.requires.row c.requires.can.4 match
    (letters-at y c.checked.result.now.spec c.args.rule c.args.side c.letters_of-letters.result.now c.checked.ensures
    c.letters_of-letters.ensures.letters r match.rule)
    c.letters-test.false c.if-not-pushed.false i.values (i.spreading r s match values)

pub returns-then-not-pushed-clause-steps : goal.returns-then-not-pushed-clause-steps
returns-then-not-pushed-clause-steps g c =
    ap (λ (z : Vec Step Global). take (length c.args.self.now.steps.items) z.items) c.cut.ensures.steps ∙ c.letters.invariant.below

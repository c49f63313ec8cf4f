use Rattle.std.proofs.Common.{arith, subst, ◌≡◌, length}
use Rattle.rec_sorts.specs.Numbering.{IsLetterRule}
use Rattle.rec_match.specs.Inner.Built.{AreSides}
use Rattle.rec_match.proofs.LetterLemmas.{pair-long}
use Rattle.rec_match.proofs.SkipLemmas.{no_rule, one-head, sides-next}
use Rattle.rec_match.proofs.build.sides.Goals as goal

pub bounds-nexts-rule : goal.bounds-nexts-rule
bounds-nexts-rule c =
    let l = pair-long (IsLetterRule c.args.checked.now.spec) c.rules-rules.result.now c.args.checked.now.spec.rules c.rules-rules.ensures.letters in
    let t = c.loop-rule-test.true in
    let n = c.requires in
    omega (arith, l, t, n)

pub loop-rule-preserved : goal.loop-rule-preserved
loop-rule-preserved c = record {
  places = c.in_ok-side.ensures.places;
  sides = λ fs heads.
      (let y = c.args.checked.now.spec in
      let l = pair-long (IsLetterRule y) c.rules-rules.result.now y.rules c.rules-rules.ensures.letters in
      let t = c.loop-rule-test.true in
      sides-next y fs c.args.nexts.now c.loop-rule.sides.items c.push.new.self.items c.loop-rule.rule c.in_ok-side.field-0
      (c.loop-rule.invariant.sides fs heads) c.in_ok-push.ensures.items c.in_ok-side.ensures.side
      (one-head y c.rules-rules.ensures.kept _ _ _ (c.in_ok-side.ensures.side no_rule).is_head (heads.each c.loop-rule.rule no_rule (omega (arith, l, t))))
      c.in_ok-side.ensures.next);
}

pub returns : goal.returns
returns c fs heads =
    let y = c.args.checked.now.spec in
    let l = pair-long (IsLetterRule y) c.rules-rules.result.now y.rules c.rules-rules.ensures.letters in
    let t = c.loop-rule-test.false in
    let q = c.loop-rule.auto.rule-end in
    subst (AreSides y fs c.args.nexts.now c.loop-rule.sides.items) (let e : c.loop-rule.rule ≡ length y.rules = omega (arith, t, q, l) in e)
    (c.loop-rule.invariant.sides fs heads)

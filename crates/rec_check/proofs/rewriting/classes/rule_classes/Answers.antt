use Rattle.std.proofs.Common.{arith, ap, ◌∙◌, ◌≡◌, length, length-append}
use Rattle.std.specs.Prelude.{get_or, [], ◌∷◌}
use Rattle.rec_sorts.specs.Numbering.{IsLetterRule}
use Rattle.rec_check.specs.Inner.Rewriters.{IsClass}
use Rattle.rec_match.proofs.LetterLemmas.{pair-long}
use Rattle.rec_check.proofs.ListLemmas.{each_more}
use Rattle.rec_check.proofs.rewriting.classes.rule_classes.Goals as goal

pub class_of-requires : goal.class_of-requires
class_of-requires c =
    let y = c.args.checked.now.spec in
    let l = pair-long (IsLetterRule y) c.rules-rule-end.result.now y.rules c.rules-rule-end.ensures.letters in
    let t = c.loop-rule-test.true in
    let q = c.loop-rule.auto.rule-end in
    omega (arith, t, q, l)

pub loop-rule-preserved : goal.loop-rule-preserved
loop-rule-preserved c = record {
  counted = (let i = c.loop-rule.invariant.counted in let e = ap length c.in_ok-push.ensures.items
      ∙ length-append c.loop-rule.classes.items (c.class_of.result ∷ []) in omega (arith, i, e));
  each = λ i r lt. each_more (λ j k. IsClass c.args.checked.now.spec (get_or c.args.checked.now.spec.rules j r) k) c.loop-rule.classes.items
      c.push.new.self.items c.loop-rule.rule c.class_of.result c.loop-rule.invariant.counted (λ j below. c.loop-rule.invariant.each j r below)
      c.in_ok-push.ensures.items (c.class_of.ensures r) i lt;
}

pub returns : goal.returns
returns c =
    let y = c.args.checked.now.spec in
    let l = pair-long (IsLetterRule y) c.rules-rule-end.result.now y.rules c.rules-rule-end.ensures.letters in
    let t = c.loop-rule-test.false in
    let i = c.loop-rule.invariant in
    let counted = i.counted in
    let end : c.loop-rule.rule ≡ length y.rules = (let q = c.loop-rule.auto.rule-end in omega (arith, t, q, l)) in
    record { counted = omega (arith, counted, end); each = λ j r h. i.each j r (omega (arith, h, end)) }

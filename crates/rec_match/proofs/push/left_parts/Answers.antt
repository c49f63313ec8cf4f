use Rattle.std.proofs.Common.{sym, ap, subst, arith, ◌∙◌, ◌≡◌, ◌++◌, ◌∷◌, [], length, get_or}
use Rattle.rec_sorts.specs.Numbering.{IsLetterRule}
use Rattle.rec_match.specs.Pushed.{CanPush, Pushed, counts_of, AreLeftParts}
use Rattle.rec_match.proofs.LetterLemmas.{pair-long}
use Rattle.rec_match.proofs.RuleLemmas.{left_parts_more, left_some, left_can}
use Rattle.rec_match.proofs.push.left_parts.Goals as goal

pub push_letters-requires : goal.push_letters-requires
push_letters-requires c =
    let rules = c.rules-rules.result.now in
    subst (λ xs. CanPush (length c.new-stack.result.items) (counts_of xs)) (sym c.deref.ensures.value)
    (left_can c.args.checked.now.spec rules c.loop-rule.rule _ (length c.new-stack.result.items) c.rules-rules.ensures.letters c.loop-rule-test.true)

pub index-requires : goal.index-requires
index-requires c =
    let rules = c.rules-rules.result.now in
    let stack = c.push_letters.new.stack.items in
    let pushed : Pushed c.loop-rule.parts [] (get_or rules c.loop-rule.rule c.index-rules-rule.result).left.items c.push_letters.new.self stack =
    subst (λ st. Pushed c.loop-rule.parts st (get_or rules c.loop-rule.rule c.index-rules-rule.result).left.items c.push_letters.new.self stack)
    c.new-stack.ensures.items
    (subst (λ xs. Pushed c.loop-rule.parts c.new-stack.result.items xs c.push_letters.new.self stack) c.deref.ensures.value c.in_ok-push_letters.ensures) in
    let one = left_some c.args.checked.now.spec c.rules-rules.ensures.kept rules c.loop-rule.rule c.index-rules-rule.result c.loop-rule.parts
    c.push_letters.new.self stack c.rules-rules.ensures.letters c.loop-rule-test.true c.loop-rule.invariant.whole pushed in
    let v = c.push_letters.new.stack.ok.0 in
    omega (arith, one, v)

pub loop-rule-preserved : goal.loop-rule-preserved
loop-rule-preserved c =
    let rules = c.rules-rules.result.now in
    let stack = c.push_letters.new.stack.items in
    let pushed : Pushed c.loop-rule.parts [] (get_or rules c.loop-rule.rule c.index-rules-rule.result).left.items c.push_letters.new.self stack =
    subst (λ st. Pushed c.loop-rule.parts st (get_or rules c.loop-rule.rule c.index-rules-rule.result).left.items c.push_letters.new.self stack)
    c.new-stack.ensures.items
    (subst (λ xs. Pushed c.loop-rule.parts c.new-stack.result.items xs c.push_letters.new.self stack) c.deref.ensures.value c.in_ok-push_letters.ensures) in
    left_parts_more c.args.checked.now.spec c.rules-rules.ensures.kept rules c.loop-rule.rule c.index-rules-rule.result c.loop-rule.parts
    c.push_letters.new.self c.loop-rule.numbers.items c.push.new.self.items stack c.index.result.now
    c.rules-rules.ensures.letters c.loop-rule-test.true c.loop-rule.invariant pushed
    (c.in_ok-push.ensures.items ∙ ap (λ n. c.loop-rule.numbers.items ++ n ∷ []) c.index.ensures)

pub returns : goal.returns
returns c =
    let y = c.args.checked.now.spec in
    let long = pair-long (IsLetterRule y) c.rules-rules.result.now y.rules c.rules-rules.ensures.letters in
    let t = c.loop-rule-test.false in
    let q = c.loop-rule.auto.rule-end in
    subst (AreLeftParts y c.loop-rule.parts c.loop-rule.numbers.items) (let e : c.loop-rule.rule ≡ length y.rules = omega (arith, t, q, long) in e)
    c.loop-rule.invariant

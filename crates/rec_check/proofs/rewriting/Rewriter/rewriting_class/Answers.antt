use Rattle.std.proofs.Common.{arith, subst, sym, ◌∙◌}
use Rattle.std.specs.Prelude.{suc, ◌≡◌, ◌<◌, length}
use Rattle.rec_sorts.specs.Numbering.{IsMeaning}
use Rattle.rec_match.specs.Inner.Chains.{IsNext}
use Rattle.rec_check.specs.Inner.Rewriters.{NoneIn}
use Rattle.rec_check.proofs.ClassLemmas.{class_after, class_first, none_in_less, none_in_next, none_in_start}
use Rattle.rec_check.proofs.rewriting.Rewriter.rewriting_class.Goals as goal

pub returns-in_default-clause-first : goal.returns-in_default-clause-first
returns-in_default-clause-first c = λ t are. record {
  rewrites_term = λ below d. absurd (let nothing : ⊥ = omega (arith, below) in nothing);
  none = λ k e. absurd (cc (sym c.in_default.is ∙ e));
}

pub loop-rule-init : goal.loop-rule-init
loop-rule-init c =
    let s = c.args.self.now in
    let h = c.requires.rules in
    let y = s.checked.now.spec in
    let class = c.in-Symbol.class in
    let first = c.index-rule.result.now in
    let lt = subst (IsMeaning y) c.in-Symbol.is c.requires.meant in
    let next = class_first s h class first lt c.index-rule.ensures in
    record {
      none = λ t are. none_in_start y s.classes.items h.classes.counted t class 0 first next (λ i d below there is. absurd (omega (arith, below)));
      own = λ below. next.is below;
    }

pub returns-then-branch-clause-first : goal.returns-then-branch-clause-first
returns-then-branch-clause-first c = λ t are. record {
  rewrites_term = λ below d. sym (c.in_ok-rewrites.ensures d t are) ∙ c.if-branch.true;
  none = λ k e. (let same : c.in-Symbol.class ≡ k = cc (sym c.in-Symbol.is ∙ e) in
      subst (λ j. NoneIn c.args.self.now.checked.now.spec c.args.self.now.classes.items j t c.loop-rule.rule) same (c.loop-rule.invariant.none t are));
}

pub loop-rule-preserved : goal.loop-rule-preserved
loop-rule-preserved c =
    let s = c.args.self.now in
    let h = c.requires.rules in
    let y = s.checked.now.spec in
    let class = c.in-Symbol.class in
    let rule = c.loop-rule.rule in
    let after = c.index-rule-in-loop-rule.result.now in
    let within = c.requires.before in
    let below = c.loop-rule-test.true in
    let counted = h.classes.counted in
    let there : rule < length y.rules = omega (arith, within, below) in
    let here : rule < length s.classes.items = omega (arith, there, counted) in
    let next = class_after s h rule after there c.index-rule-in-loop-rule.ensures in
    record {
      none = λ t are. none_in_next y s.classes.items counted t class rule after
          (subst (λ k. IsNext s.classes.items k (suc rule) after) (c.loop-rule.invariant.own here) next)
          (λ d lt. sym (c.in_ok-rewrites.ensures d t are) ∙ c.if-branch.false) (c.loop-rule.invariant.none t are);
      own = λ lt. next.is lt ∙ c.loop-rule.invariant.own here;
    }

pub returns-clause-first : goal.returns-clause-first
returns-clause-first c = λ t are.
    let s = c.args.self.now in
    let y = s.checked.now.spec in
    let end = c.loop-rule-test.false in
    record {
      rewrites_term = λ below d. absurd (let nothing : ⊥ = omega (arith, below) in nothing);
      none = λ k e. (let same : c.in-Symbol.class ≡ k = cc (sym c.in-Symbol.is ∙ e) in
          subst (λ j. NoneIn y s.classes.items j t c.args.before) same
          (none_in_less y s.classes.items c.in-Symbol.class t c.loop-rule.rule c.args.before (omega (arith, end)) (c.loop-rule.invariant.none t are)));
    }

use Rattle.std.proofs.Common.{arith, subst, sym, ◌∙◌}
use Rattle.std.specs.Prelude.{suc, ◌<◌, length}
use Rattle.rec_match.specs.Inner.Chains.{IsNext}
use Rattle.rec_match.proofs.SkipLemmas as skip
use Rattle.rec_check.proofs.RewritingLemmas.{after_next, first_next, no_rule, none_next, none_start, this_rule}
use Rattle.rec_check.proofs.rewriting.Rewriter.rewriting_symbol.Goals as goal

pub loop-rule-init : goal.loop-rule-init
loop-rule-init c =
    let s = c.args.self.now in
    let y = s.checked.now.spec in
    let h = c.requires.rules in
    let first = c.index-rule.result.now in
    record {
      none = λ t are is. none_start y h.kept h.heads h.are_heads c.args.symbol 0 first c.requires.symbol t is
          (first_next s h c.args.symbol first c.requires.symbol c.index-rule.ensures) (λ i d lt there. absurd (omega (arith, lt)));
      own = λ r lt. (first_next s r c.args.symbol first c.requires.symbol c.index-rule.ensures).is lt;
    }

pub returns-then-branch-clause-first : goal.returns-then-branch-clause-first
returns-then-branch-clause-first c = λ t are is.
    let y = c.args.self.now.checked.now.spec in
    this_rule y t c.loop-rule.rule c.args.before skip.no_rule c.requires.before c.loop-rule-test.true (c.loop-rule.invariant.none t are is)
    (sym (c.in_ok-rewrites.ensures skip.no_rule t are) ∙ c.if-branch.true)

pub loop-rule-preserved : goal.loop-rule-preserved
loop-rule-preserved c =
    let s = c.args.self.now in
    let y = s.checked.now.spec in
    let h = c.requires.rules in
    let rule = c.loop-rule.rule in
    let after = c.index-rule-in-loop-rule.result.now in
    let within = c.requires.before in
    let below = c.loop-rule-test.true in
    let there : rule < length y.rules = omega (arith, within, below) in
    record {
      none = λ t are is.
          let counted = h.are_heads.counted in
          let next = subst (λ k. IsNext h.heads k (suc rule) after) (c.loop-rule.invariant.own h (omega (arith, there, counted)))
          (after_next s h rule after there c.index-rule-in-loop-rule.ensures) in
          none_next y h.kept h.heads h.are_heads c.args.symbol rule after c.requires.symbol t is next (λ d lt.
          sym (c.in_ok-rewrites.ensures d t are) ∙ c.if-branch.false) (c.loop-rule.invariant.none t are is);
      own = λ r lt. (let counted = r.are_heads.counted in (after_next s r rule after there c.index-rule-in-loop-rule.ensures).is lt
          ∙ c.loop-rule.invariant.own r (omega (arith, there, counted)));
    }

pub returns-clause-first : goal.returns-clause-first
returns-clause-first c = λ t are is. no_rule c.args.self.now.checked.now.spec t c.loop-rule.rule c.args.before c.requires.before
    c.loop-rule-test.false (c.loop-rule.invariant.none t are is)

use Rattle.std.proofs.Common.{arith, sym, subst, ◌∙◌}
use Rattle.std.specs.Prelude.{suc, ◌<◌, ◌≤◌, get_or, length}
use Rattle.rec_sorts.specs.Numbering.{AreLetters}
use Rattle.rec_match.specs.Inner.Chains.{IsNext}
use Rattle.rec_check.proofs.RewritingLemmas.{after_next, first_next, rule_there, spots_long}
use Rattle.rec_check.proofs.UncoveredLemmas.{no_next, no_side, no_start}
use Rattle.rec_check.proofs.rewriting.Rewriter.matching_symbol.Goals as goal

pub loop-rule-init : goal.loop-rule-init
loop-rule-init c =
    let s = c.args.self.now in
    let y = s.checked.now.spec in
    let h = c.requires.rules in
    let first = c.index-rule.result.now in
    record {
      none = λ t are is. no_start y h.kept h.heads h.are_heads c.args.symbol 0 first c.requires.symbol t is
          (first_next s h c.args.symbol first c.requires.symbol c.index-rule.ensures) (λ i d lt there. absurd (omega (arith, lt)));
      own = λ r lt. (first_next s r c.args.symbol first c.requires.symbol c.index-rule.ensures).is lt;
    }

pub loop-rule-preserved : goal.loop-rule-preserved
loop-rule-preserved c =
    let s = c.args.self.now in
    let y = s.checked.now.spec in
    let h = c.requires.rules in
    let rule = c.loop-rule.rule in
    let after = c.index-rule-in-loop-rule.result.now in
    let there : rule < length y.rules = (let e = c.len.ensures in let k = s.spots.ok.0 in let l = spots_long s h in let test =
    c.loop-rule-test.true in omega (arith, e, k, l, test)) in
    record {
      none = λ t are is.
          let counted = h.are_heads.counted in
          let next = subst (λ k. IsNext h.heads k (suc rule) after) (c.loop-rule.invariant.own h (omega (arith, there, counted)))
          (after_next s h rule after there c.index-rule-in-loop-rule.ensures) in
          no_next y h.kept h.heads h.are_heads c.args.symbol rule after c.requires.symbol t is next (λ d lt.
          sym (c.in_ok-matches.ensures y (get_or y.rules rule d) t h.kept (rule_there y.rules rule d there)
          (subst (λ ls. AreLetters y ls (get_or y.rules rule d).left) (sym c.deref.ensures.value) (c.letters.ensures d).0) are)
          ∙ c.if-branch.false) (c.loop-rule.invariant.none t are is);
      own = λ r lt. (let counted = r.are_heads.counted in (after_next s r rule after there c.index-rule-in-loop-rule.ensures).is lt
          ∙ c.loop-rule.invariant.own r (omega (arith, there, counted)));
    }

pub returns : goal.returns
returns c = λ e t are is.
    let s = c.args.self.now in
    let past : length s.checked.now.spec.rules ≤ c.loop-rule.rule =
    (let e = c.len.ensures in let k = s.spots.ok.0 in let l = spots_long s c.requires.rules in let test = c.loop-rule-test.false in
    omega (arith, e, k, l, test)) in
    no_side s.checked.now.spec t c.loop-rule.rule past (c.loop-rule.invariant.none t are is)

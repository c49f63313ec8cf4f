use Rattle.std.proofs.Common.{ap, arith, map, refl, subst, ◌∙◌, ◌≡◌}
use Rattle.std.specs.Prelude.{◌<◌, get_or, length, take}
use Rattle.rec_syntax.specs.Syntax.{Sourced, head}
use Rattle.rec_syntax.specs.Parts.{rule_of, term_of}
use Rattle.rec_match.proofs.SkipLemmas as skip
use Rattle.rec_check.specs.Findings.{as_diagnostics}
use Rattle.rec_check.specs.Named.{as_word}
use Rattle.rec_check.specs.Rewriting.{rewritten_by}
use Rattle.rec_check.proofs.RewritingLemmas.{left_term, rules_long, tried_turn}
use Rattle.rec_check.proofs.rewriting.Rewriter.push_never_tried.Goals as goal

pub loop-i-preserved : goal.loop-i-preserved
loop-i-preserved c =
    let s = c.args.self.now.checked.now in
    let y = s.spec in
    let i = c.loop-i.i in
    let d = skip.no_rule in
    let items = c.rules-rule-items.result.now in
    let t = (get_or y.rules i d).left in
    let o = rewritten_by y (take i y.rules) t in
    let is = subst (λ (x : Sourced). as_word c.head_of-word.result ≡ head (term_of x.source c.rule-item.result.left)) c.syntax-syntax.ensures.same
    c.head_of-word.ensures in
    let rules = subst (λ (x : Sourced). map (rule_of x.source) items ≡ x.spec.rules) c.syntax-syntax.ensures.same c.rules-rule-items.ensures.rules in
    let long = rules_long s.source items y.rules rules in
    let test = c.loop-i-test.true in
    let lt : i < length items = omega (arith, test) in
    tried_turn s.source y i d (as_word c.head_of-word.result) o (as_diagnostics c.args.found.now.items) (as_diagnostics c.loop-i.found.items)
    (as_diagnostics c.push.new.found.items) (omega (arith, lt, long))
    (is ∙ ap head (left_term s.source items y.rules i c.rule-item.result d rules lt c.rule-item.is)) refl c.loop-i.invariant
    (c.in_ok-push.ensures o (c.in_ok-by.ensures.first d))

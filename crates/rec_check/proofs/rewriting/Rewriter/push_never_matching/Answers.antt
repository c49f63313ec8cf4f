use Rattle.std.proofs.Common.{ap, rules, ◌∙◌, ◌++◌}
use Rattle.std.proofs.lemmas.List.{take_all}
use Rattle.std.specs.Prelude.{flat_map}
use Rattle.rec_syntax.specs.Syntax.{arguments}
use Rattle.rec_match.proofs.SkipLemmas as skip
use Rattle.rec_check.specs.Findings.{as_diagnostics, never_matching_in}
use Rattle.rec_check.specs.Rewriting.{postorder_all}
use Rattle.rec_check.proofs.RewritingLemmas.{matching_turn, spots_long}
use Rattle.rec_check.proofs.rewriting.Rewriter.push_never_matching.Goals as goal

pub loop-rule-preserved : goal.loop-rule-preserved
loop-rule-preserved c =
    let s = c.args.self.now.checked.now in
    let long = spots_long c.args.self.now c.requires in
    matching_turn s.source s.spec c.loop-rule.rule skip.no_rule (as_diagnostics c.args.found.now.items) (as_diagnostics c.loop-rule.found.items)
    (as_diagnostics c.push_inner.new.found.items) (search (rules, long)) c.loop-rule.invariant (c.in_ok-push_inner.ensures skip.no_rule)

pub returns : goal.returns
returns c =
    let s = c.args.self.now.checked.now in
    let long = spots_long c.args.self.now c.requires in
    c.loop-rule.invariant ∙ ap (λ rs. as_diagnostics c.args.found.now.items ++ flat_map (λ r.
    never_matching_in s.source s.spec (postorder_all (arguments r.left))) rs) (take_all c.loop-rule.rule s.spec.rules (search (rules, long)))

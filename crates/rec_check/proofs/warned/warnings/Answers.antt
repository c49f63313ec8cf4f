use Rattle.std.proofs.Common.{ap, ◌++◌, ◌∙◌}
use Rattle.std.proofs.lemmas.List.{map-append}
use Rattle.rec_syntax.specs.Syntax.{Sourced}
use Rattle.rec_check.specs.Findings.{as_diagnostic, as_diagnostics, never_matching, never_tried, unused, without_rules}
use Rattle.rec_check.specs.Inner.Inside.{never_matching_inside}
use Rattle.rec_check.proofs.RewritingLemmas.{same_matching}
use Rattle.rec_check.proofs.RunLemmas.{if_ok_warned}
use Rattle.rec_check.proofs.warned.warnings.Goals as goal
use Rattle.std.specs.Prelude.{[]}

pub returns : goal.returns
returns c =
    let text = c.args.checked.now.source in
    let y = c.args.checked.now.spec in
    let tried = never_tried text y [] y.rules in
    let inside = never_matching_inside text y in
    let first = c.push_rewritten.new.found.items in
    if_ok_warned c.in_order.result tried (never_matching text y) inside (unused y ++ without_rules y) (as_diagnostics c.args.missing.items)
    (as_diagnostics c.append.new.self.items)
    (ap as_diagnostics c.in_ok-append.ensures.items
    ∙ map-append as_diagnostic c.push_declarations.new.found.items c.args.missing.items
    ∙ ap (λ fs. fs ++ as_diagnostics c.args.missing.items)
    (c.in_ok-push_declarations.ensures
    ∙ ap (λ (s : Sourced). as_diagnostics first ++ (unused s.spec ++ without_rules s.spec)) c.syntax.ensures.same
    ∙ ap (λ fs. fs ++ (unused y ++ without_rules y)) (c.in_ok-push_rewritten.ensures ∙ ap (λ fs. (as_diagnostics fs ++ tried) ++ inside) c.new-found.ensures.items)))
    (same_matching text y) c.in_order.ensures

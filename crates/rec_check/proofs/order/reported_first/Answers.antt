use Rattle.std.proofs.Common.{rules}
use Rattle.std.proofs.lemmas.List.Sorted.{IsNonDecreasingBy-from_sort_by_key}
use Rattle.rec_sorts.specs.SpecRules.{Fault}
use Rattle.rec_check.specs.Errors.{rank}
use Rattle.rec_check.specs.Findings.{as_diagnostic}
use Rattle.rec_check.specs.declared.finding.Diagnostic.{Diagnostic}
use Rattle.rec_check.proofs.OrderLemmas.{ranked_findings, same_findings}
use Rattle.rec_check.proofs.order.reported_first.Goals as goal

pub returns-clause-same : goal.returns-clause-same
returns-clause-same c = same_findings c.args.errors.items c.sort_by_key.new.self.items c.in_ok-sort_by_key.ensures.permutation

pub returns-clause-ordered : goal.returns-clause-ordered
returns-clause-ordered c =
    let f : Fault = record { number = c.args.reported.number; at = c.args.reported.at } in
    ranked_findings f c.sort_by_key.new.self.items
    (IsNonDecreasingBy-from_sort_by_key (λ (e : Diagnostic). rank f (as_diagnostic e)) c.sort_by_key.new.self.items c.in_ok-sort_by_key.ensures.sorted
    (λ a r q k. search rules))

use Rattle.std.proofs.Common.{rules}
use Rattle.std.proofs.lemmas.List.Sorted.{IsNonDecreasingBy-from_sort_by_key}
use Rattle.rec_check.specs.declared.finding.Diagnostic.{Diagnostic}
use Rattle.rec_check.proofs.OrderLemmas.{sorted_findings}
use Rattle.rec_check.proofs.order.in_order.Goals as goal

pub returns : goal.returns
returns c =
    sorted_findings c.args.found.items c.sort_by_key.new.self.items c.in_ok-sort_by_key.ensures.permutation
    (IsNonDecreasingBy-from_sort_by_key (λ (f : Diagnostic). f.at) c.sort_by_key.new.self.items c.in_ok-sort_by_key.ensures.sorted (λ a r q k. search rules))

use Rattle.std.proofs.Common.{◌≡◌, ◌++◌, take, map}
use Rattle.rec_check.specs.Named.{as_nodes}
use Rattle.rec_syntax.specs.Parts.{rule_of}
use Rattle.rec_check.specs.Walks.{flat_terms}
use Rattle.rec_sorts.specs.Lookup.{rule_terms}
use Rattle.rec_check.proofs.words.push_rules.Given as goal

abbrev pub invariant-loop-rule : goal.invariant-loop-rule
invariant-loop-rule l = as_nodes l.nodes.items ≡ as_nodes l.initial.nodes.items ++ flat_terms
    (rule_terms (map (rule_of l.syntax.source) (take l.rule-index l.rules)))

use Rattle.std.proofs.Common.{◌≡◌, ◌++◌, take, map}
use Rattle.std.specs.Prelude.{flat_map}
use Rattle.rec_check.specs.Named.{as_words}
use Rattle.rec_syntax.specs.Parts.{rule_of}
use Rattle.rec_check.specs.Walks.{unlike_in}
use Rattle.rec_check.proofs.broken.push_unlike_rules.Given as goal

abbrev pub invariant-loop-rule : goal.invariant-loop-rule
invariant-loop-rule l = as_words l.found.items ≡ as_words l.initial.found.items ++ flat_map (unlike_in l.syntax.spec)
    (map (rule_of l.syntax.source) (take l.rule-index l.rules))

use Rattle.std.proofs.Common.{◌≡◌, ◌++◌, take, map}
use Rattle.std.specs.Prelude.{flat_map}
use Rattle.rec_syntax.specs.Parts.{rule_of}
use Rattle.rec_sorts.specs.Lookup.{rule_terms}
use Rattle.rec_uses.specs.Inner.Values.{as_uses, term_uses}
use Rattle.rec_uses.proofs.uses.push_rules.Given as goal

abbrev pub invariant-loop-rule : goal.invariant-loop-rule
invariant-loop-rule l = as_uses l.uses.items ≡ as_uses l.initial.uses.items
    ++ flat_map term_uses (rule_terms (map (rule_of l.syntax.source) (take l.rule-index l.rules)))

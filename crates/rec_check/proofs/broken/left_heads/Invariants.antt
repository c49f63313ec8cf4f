use Rattle.std.proofs.Common.{◌≡◌, take, map}
use Rattle.rec_check.specs.Named.{as_words}
use Rattle.rec_syntax.specs.Syntax.{head}
use Rattle.rec_syntax.specs.Parts.{rule_of}
use Rattle.rec_check.proofs.broken.left_heads.Given as goal

abbrev pub invariant-loop-rule : goal.invariant-loop-rule
invariant-loop-rule l = as_words l.heads.items ≡ map (λ r. head r.left) (map (rule_of l.syntax.source) (take l.rule-index l.rule-items))

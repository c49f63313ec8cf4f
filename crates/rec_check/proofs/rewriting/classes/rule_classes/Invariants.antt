use Rattle.std.proofs.Common.{length, ◌≡◌, ◌<◌, get_or, ℕ}
use Rattle.rec_syntax.specs.Syntax.{Rule}
use Rattle.rec_check.specs.Inner.Rewriters.{IsClass}
use Rattle.rec_check.proofs.rewriting.classes.rule_classes.Given as goal

-- the classes of the rules so far
abbrev pub invariant-loop-rule : goal.invariant-loop-rule
invariant-loop-rule l = record {
  counted : length l.classes.items ≡ l.rule;
  each : (i : ℕ) (r : Rule) → i < l.rule → IsClass l.checked.spec (get_or l.checked.spec.rules i r) (get_or l.classes.items i 0);
}

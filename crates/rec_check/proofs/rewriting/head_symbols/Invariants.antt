use Rattle.std.proofs.Common.{length, ◌≡◌, ◌<◌, get_or, ℕ}
use Rattle.rec_syntax.specs.Syntax.{Rule}
use Rattle.rec_match.specs.Inner.Built.{IsHead}
use Rattle.rec_check.proofs.rewriting.head_symbols.Given as goal

-- the symbols of the rules so far
abbrev pub invariant-loop-rule : goal.invariant-loop-rule
invariant-loop-rule l = record {
  counted : length l.heads.items ≡ l.rule;
  each : (i : ℕ) (r : Rule) → i < l.rule → IsHead l.checked.spec (get_or l.checked.spec.rules i r) (get_or l.heads.items i 0);
}

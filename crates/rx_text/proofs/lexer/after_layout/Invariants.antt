use Rattle.std.proofs.Common.{length, ◌-◌, ◌≡◌, ◌≤◌}
use Rattle.rx_text.specs.Lexemes.{tokens_after}
use Rattle.rx_text.proofs.lexer.after_layout.Given as goal

abbrev pub invariant-loop-at : goal.invariant-loop-at
invariant-loop-at l = record { above : l.from ≤ l.at; within : l.at ≤ length l.bytes; same : tokens_after l.bytes l.from ≡ tokens_after l.bytes l.at }

abbrev pub decreases-loop-at : goal.decreases-loop-at
decreases-loop-at l = length l.bytes - l.at

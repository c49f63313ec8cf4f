use Rattle.std.proofs.Common.{length, ◌-◌, ◌+◌, ◌≡◌, ◌≤◌, drop}
use Rattle.std.specs.List.{prefix_len}
use Rattle.rx_term.specs.Name.{is_digit}
use Rattle.rx_text.proofs.lexer.digits_end.Given as goal

abbrev pub invariant-loop-end : goal.invariant-loop-end
invariant-loop-end l = record {
  above : l.from ≤ l.end;
  within : l.end ≤ length l.bytes;
  left : l.end + prefix_len is_digit (drop l.end l.bytes) ≡ l.from + prefix_len is_digit (drop l.from l.bytes);
}

abbrev pub decreases-loop-end : goal.decreases-loop-end
decreases-loop-end l = length l.bytes - l.end

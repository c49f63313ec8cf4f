use Rattle.std.proofs.Common.{◌≡◌, ◌≤◌, ◌+◌, ◌-◌, drop}
use Rattle.rec_trace.specs.Lines.{ends_in, behind_end}
use Rattle.rec_trace.proofs.lines.spot_of.Given as goal

abbrev pub invariant-loop-byte : goal.invariant-loop-byte
invariant-loop-byte l = record {
  line : l.line + ends_in (drop l.byte-index l.front) ≡ 1 + ends_in l.front;
  column : behind_end (l.column - 1) (drop l.byte-index l.front) ≡ behind_end 0 l.front;
  low : 1 ≤ l.column;
  short_line : l.line ≤ l.byte-index + 1;
  short_column : l.column ≤ l.byte-index + 1;
}

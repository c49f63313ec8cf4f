use Rattle.std.proofs.Common.{◌≡◌, ◌≤◌, ◌+◌, ◌-◌, drop}
use Rattle.rec_trace.specs.Lines.{ends_in, behind_end}
use Rattle.rec_trace.proofs.spots.spot_by.Given as goal

abbrev pub invariant-loop-byte : goal.invariant-loop-byte
invariant-loop-byte l = record {
  line : l.line + ends_in (drop l.byte-index l.piece) ≡ l.fn.spot.line + ends_in l.piece;
  column : behind_end (l.column - 1) (drop l.byte-index l.piece) ≡ behind_end (l.fn.spot.column - 1) l.piece;
  low : 1 ≤ l.column;
  short_line : l.line ≤ l.from + l.byte-index + 1;
  short_column : l.column ≤ l.from + l.byte-index + 1;
}

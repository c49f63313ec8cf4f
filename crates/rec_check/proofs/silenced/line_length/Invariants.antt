use Rattle.std.proofs.Common.{◌≡◌, drop}
use Rattle.std.specs.Prelude.{◌+◌}
use Rattle.rec_syntax.specs.Tokens.{line_length}
use Rattle.rec_check.proofs.silenced.line_length.Given as goal

abbrev pub invariant-loop-i : goal.invariant-loop-i
invariant-loop-i l = l.i + line_length (drop l.i l.bytes) ≡ line_length l.bytes

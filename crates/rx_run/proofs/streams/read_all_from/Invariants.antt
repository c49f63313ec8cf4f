use Rattle.std.proofs.Common.{◌≡◌, ◌+◌, ◌-◌, ◌≤◌, vec_len, length}
use Rattle.std.specs.Io.KnownBytes.{Consumes}
use Rattle.rx_text.specs.Input.{IsSameInput}
use Rattle.rx_run.specs.declared.streams.TheConstants.{LIMIT}
use Rattle.rx_run.proofs.streams.read_all_from.Given as goal

-- what was read so far stood at the reader's front
abbrev pub invariant-loop-buffer : goal.invariant-loop-buffer
invariant-loop-buffer g l =
    (vec_len l.text ≤ LIMIT + 1) × (length l.buffer ≡ 4096) × Consumes (g.R.Read.remaining l.fn.input.reader.now)
    (g.R.Read.remaining l.input.reader.now) l.text.items
    × (l.input.refused ≡ l.fn.input.refused) × IsSameInput l.fn.input l.input

abbrev pub decreases-loop-buffer : goal.decreases-loop-buffer
decreases-loop-buffer g l = LIMIT + 1 - vec_len l.text

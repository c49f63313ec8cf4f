use Rattle.std.proofs.Common.{◌≡◌, List, reverse, take}
use Rattle.std.specs.List.{filter}
use Rattle.rx_term.specs.Tree.{Tree}
use Rattle.rx_text.specs.Machine.{step}
use Rattle.rx_text.specs.Reader.{due_of, frames_of, owned}
use Rattle.rx_text.specs.Expected.{is_taken}
use Rattle.rx_text.proofs.reader.Reader.expected_kinds.Given as goal

abbrev pub invariant-loop-kind : goal.invariant-loop-kind
invariant-loop-kind l =
    (made : List Tree) → l.kinds.items ≡ filter
    (is_taken (step (due_of l.self.bytes.now l.due made) (frames_of l.self.bytes.now (reverse l.self.frames.items) (owned l.due made))))
    (take l.kind-index l.kind-items)

use Rattle.std.proofs.Common.{◌≡◌, take}
use Rattle.std.specs.List.{filter}
use Rattle.rec_syntax.specs.Syntax.{Spec}
use Rattle.rec_syntax.specs.Inner.Machine.{step}
use Rattle.rec_syntax.specs.Inner.Reader.{due_of}
use Rattle.rec_syntax.specs.Expected.{is_taken}
use Rattle.rec_syntax.proofs.reader.Reader.expected_kinds.Given as goal

abbrev pub invariant-loop-kind : goal.invariant-loop-kind
invariant-loop-kind l = (y : Spec) → l.kinds.items ≡ filter (is_taken (step (due_of l.self.source.items l.due l.self) y)) (take l.kind-index l.kind-items)

use Rattle.std.proofs.Common.{◌≡◌, ◌++◌, flat_map, take}
use Rattle.rx_render.specs.Graph.{label_byte}
use Rattle.rx_render.proofs.labels.push_label_bytes.Given as goal

abbrev pub invariant-loop-byte : goal.invariant-loop-byte
invariant-loop-byte l = l.text.items ≡ l.fn.text.items ++ flat_map label_byte (take l.byte-index l.bytes)

use Rattle.std.proofs.Common.{◌≡◌}
use Rattle.rx_text.proofs.PrintedNameLemmas.{begun_name}
use Rattle.rx_render.proofs.naming.quoted_name.Given as goal

abbrev pub invariant-loop-byte : goal.invariant-loop-byte
invariant-loop-byte l = l.text.items ≡ begun_name l.name l.byte-index

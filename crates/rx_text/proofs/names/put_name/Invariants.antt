use Rattle.std.proofs.Common.{◌≡◌}
use Rattle.std.specs.Io.KnownBytes.{Appends}
use Rattle.rx_text.specs.Output.{IsSameOutput}
use Rattle.rx_text.proofs.PrintedNameLemmas.{begun_name}
use Rattle.rx_text.proofs.names.put_name.Given as goal

abbrev pub invariant-loop-byte : goal.invariant-loop-byte
invariant-loop-byte g l =
    Appends (g.W.Write.contents l.fn.out.writer.now) (g.W.Write.contents l.out.writer.now) (begun_name l.name l.byte-index)
    × (l.out.refused ≡ l.fn.out.refused) × IsSameOutput l.fn.out l.out

use Rattle.std.proofs.Common.{◌≡◌, take}
use Rattle.std.specs.Prelude.{flat_map}
use Rattle.std.specs.Io.KnownBytes.{Appends}
use Rattle.rx_text.specs.Output.{IsSameOutput}
use Rattle.rec_uses.specs.Inner.Cursors.{IsCursor}
use Rattle.rec_uses.specs.Inner.Values.{as_uses}
use Rattle.rec_uses.specs.Lines.{line_of}
use Rattle.rec_uses.proofs.lines.write_uses.Given as goal

-- the lines so far were written
abbrev pub invariant-loop-used : goal.invariant-loop-used
invariant-loop-used g l = record {
  written : Appends (g.W.Write.contents l.fn.out.writer.now) (g.W.Write.contents l.out.writer.now)
      (flat_map (line_of l.name l.syntax.source l.syntax.spec) (as_uses (take l.used-index l.uses)));
  refused : l.out.refused ≡ l.fn.out.refused;
  same : IsSameOutput l.fn.out l.out;
  cursor : IsCursor l.syntax.source l.cursor;
}

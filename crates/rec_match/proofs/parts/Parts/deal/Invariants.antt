use Rattle.std.proofs.Common.{map, take}
use Rattle.rec_match.specs.Parts.{coded_of}
use Rattle.rec_match.specs.Inner.Shares.{AreShares}
use Rattle.rec_match.proofs.parts.Parts.deal.Given as goal

abbrev pub invariant-loop-row : goal.invariant-loop-row
invariant-loop-row l = AreShares l.self l.opening.register l.opening.base l.marks.symbols.items (map coded_of (take l.row-index l.rows)) l.shares.items

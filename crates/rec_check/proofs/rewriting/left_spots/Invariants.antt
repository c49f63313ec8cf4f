use Rattle.std.proofs.Common.{◌≡◌, map, take}
use Rattle.rec_syntax.specs.Parts.{rule_of}
use Rattle.rec_syntax.specs.Syntax.{head}
use Rattle.rec_check.specs.Cursors.{IsCursor}
use Rattle.rec_check.specs.Spots.{spot_of}
use Rattle.rec_check.proofs.rewriting.left_spots.Given as goal

-- the places so far
abbrev pub invariant-loop-rule : goal.invariant-loop-rule
invariant-loop-rule l = record {
  cursor : IsCursor l.syntax.source l.cursor;
  are : l.spots.items ≡ map (λ r. spot_of l.syntax.source (head r.left).at) (map (rule_of l.syntax.source) (take l.rule-index l.rule-items));
}

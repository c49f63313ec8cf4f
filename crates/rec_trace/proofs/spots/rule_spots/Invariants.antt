use Rattle.std.proofs.Common.{◌≡◌, map, take}
use Rattle.rec_syntax.specs.Parts.{rule_of}
use Rattle.rec_trace.specs.Lines.{rule_spot, spot_at}
use Rattle.rec_trace.proofs.spots.rule_spots.Given as goal

abbrev pub invariant-loop-rule : goal.invariant-loop-rule
invariant-loop-rule l = record {
  spots : l.spots.items ≡ map (rule_spot l.syntax.source) (map (rule_of l.syntax.source) (take l.rule-index l.rule-items));
  known : l.spot ≡ spot_at l.syntax.source l.from;
}

use Rattle.std.proofs.Common.{◌≡◌, drop}
use Rattle.rec_uses.specs.Inner.Cursors.{IsCursor}
use Rattle.rec_uses.specs.Inner.Values.{as_uses}
use Rattle.rec_uses.specs.Lines.{first_at}
use Rattle.rec_uses.proofs.choosing.first_at.Given as goal

-- no word so far is at the location
abbrev pub invariant-loop-used : goal.invariant-loop-used
invariant-loop-used l = record {
  cursor : IsCursor l.text l.cursor;
  rest : first_at l.text l.spot (as_uses (drop l.used-index l.uses)) ≡ first_at l.text l.spot (as_uses l.uses);
}

use Rattle.std.proofs.Common.{◌≡◌}
use Rattle.rec_uses.specs.Inner.Cursors.{IsCursor}
use Rattle.rec_uses.proofs.spots.Cursor.go_on.Given as goal

abbrev pub invariant-loop-index : goal.invariant-loop-index
invariant-loop-index l = record { cursor : IsCursor l.fn.self.text.now l.self; at : l.self.at ≡ l._index }

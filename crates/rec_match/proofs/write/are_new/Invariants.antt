use Rattle.std.proofs.Common.{All, take}
use Rattle.rec_match.specs.Forests.{IsNew}
use Rattle.rec_match.proofs.write.are_new.Given as goal

abbrev pub invariant-loop-place : goal.invariant-loop-place
invariant-loop-place l = All IsNew (take l.place-index l.places)

use Rattle.std.proofs.Common.{◌≡◌, ◌≤◌, length, map, take}
use Rattle.std.specs.Prelude.{flat_map}
use Rattle.rec_syntax.specs.Syntax.{Spec}
use Rattle.rec_syntax.specs.Lexemes.{word_of}
use Rattle.rec_join.specs.Inner.Nodes.{specs_of}
use Rattle.rec_join.specs.Join.{unplaced}
use Rattle.rec_join.proofs.agree.sorts_agree.Given as goal

-- the parts so far agree with a prefix
abbrev pub invariant-loop-part : goal.invariant-loop-part
invariant-loop-part l = record {
  within : l.from ≤ length l.all;
  same : map unplaced (map (word_of l.whole.source) (take l.from l.all))
      ≡ map unplaced (flat_map (λ (y : Spec). y.sorts) (specs_of (take l.part-index l.parts)));
}

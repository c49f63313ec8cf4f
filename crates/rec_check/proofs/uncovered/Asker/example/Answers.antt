use Rattle.std.proofs.Common.{subst, sym}
use Rattle.std.specs.Prelude.{All, IfSome, List, Option}
use Rattle.rec_check.specs.Inner.Grounds.{IsCallAt, IsGroundOf}
use Rattle.rec_check.specs.declared.uncovered.Ground.{Ground}
use Rattle.rec_check.proofs.uncovered.Asker.example.Goals as goal

pub returns-then-branch : goal.returns-then-branch
returns-then-branch c =
    let y = c.args.self.now.checked.now.spec in
    let made = subst (λ (o : Option Ground). IfSome o (IsCallAt y c.args.symbol)) c.in-Some.is
    (c.in_ok-call.ensures (subst (λ (gs : List Ground). All (IsGroundOf y) gs) (sym c.deref.ensures.value) c.in_ok-terms.ensures)) in
    record { declaration = made.declaration; at = made.at; shows = c.in_ok-is_uncovered.ensures made.declaration made.at made.is_call c.if-branch.true }

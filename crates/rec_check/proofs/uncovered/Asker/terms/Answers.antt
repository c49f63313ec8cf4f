use Rattle.std.proofs.Common.{drop, subst, sym, Vec, Global}
use Rattle.std.specs.Prelude.{◌-◌, All, IfSome, List, Option, length}
use Rattle.std.proofs.lemmas.List.Elements.{All-drop, All-take}
use Rattle.rec_check.specs.Inner.Grounds.{IsGroundOf}
use Rattle.rec_check.specs.declared.uncovered.Ground.{Ground}
use Rattle.rec_check.proofs.UncoveredLemmas.{ground_pushed}
use Rattle.rec_check.proofs.uncovered.Asker.terms.Goals as goal
use Rattle.rec_check.proofs.uncovered.Asker.terms.Goals.{in-Some+in_ok-push, in_default}

pub loop-letter-preserved : goal.loop-letter-preserved
loop-letter-preserved c =
    let y = c.args.self.now.checked.now.spec in
    let base = c.saturating_sub-base.result in
    let old = c.loop-letter.stack.items in
    let given = c.deref.result.now in
    let terms = subst (λ (gs : List Ground). All (IsGroundOf y) gs) (sym c.deref.ensures.value) c.loop-letter.invariant in
    elim c.match-branch-2.branch [
      | in-Some+in_ok-push w ↦ subst (λ (x : Vec Ground Global). All (IsGroundOf y) x.items) (sym w.stack-is)
          (ground_pushed y base old w.truncate.new.self.items w.push.new.self.items w.in-Some.term w.truncate.ensures.items w.in_ok-push.ensures.items
          (subst (λ (o : Option Ground). IfSome o (IsGroundOf y)) w.in-Some.is
          (c.in_ok-term.ensures (All-take (IsGroundOf y) (length given - base) (drop base given) (All-drop (IsGroundOf y) base given terms))))
          c.loop-letter.invariant)
      | in_default w ↦ subst (λ (x : Vec Ground Global). All (IsGroundOf y) x.items) (sym w.stack-is) c.loop-letter.invariant
    ]

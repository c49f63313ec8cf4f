use Rattle.std.proofs.Common.{◌≡◌, ◌∷◌, [], sym, ap, subst, ◌∙◌, append_assoc, append-nil, arith, length}
use Rattle.std.proofs.lemmas.List.{nil_from_length}
use Rattle.std.specs.Vec.Iter.{into_iter_items}
use Rattle.rec_check.specs.Findings.{as_diagnostics}
use Rattle.rec_check.specs.Silenced.{unsilenced}
use Rattle.rec_check.proofs.SilencedLemmas.{kept_more}
use Rattle.rec_check.proofs.silenced.unsilenced.Goals as goal

pub loop-warning-preserved : goal.loop-warning-preserved
loop-warning-preserved c =
    let at = c.loop-warning in
    let x = c.in-Some.warning in
    let steps : into_iter_items at.warning-iterator ≡ x ∷ into_iter_items c.next.new.self = c.in-Some.ensures.steps.0 in (
      append_assoc at.yielded (x ∷ []) _ ∙ rw (← steps) at.invariant.0,
      kept_more c.args.text.now (as_diagnostics at.kept.items) at.yielded x (as_diagnostics c.push_unsilenced.new.kept.items) at.invariant.1
          c.in_ok-push_unsilenced.ensures,
      let was = at.invariant.2 in
          let gone = c.in-Some.ensures.steps.1 in
          let short = ap length steps in
          omega arith,
    )

pub returns : goal.returns
returns c =
    let at = c.loop-warning in
    let none = c.in-None.ensures.steps in
    let empty : into_iter_items at.warning-iterator ≡ [] = nil_from_length _ (sym at.invariant.2 ∙ none.0) in
    let all = sym (append-nil at.yielded) ∙ rw empty at at.invariant.0 ∙ c.into_iter-warning-iterator.ensures.into_iter_gives.0 in
    subst (λ ds. as_diagnostics at.kept.items ≡ unsilenced c.args.text.now (as_diagnostics ds)) all at.invariant.1

use Rattle.std.proofs.Common.{◌≡◌, subst}
use Rattle.rec_syntax.specs.Syntax.{Sourced}
use Rattle.rec_run.specs.Reading.{IsSpecRead}
use Rattle.rec_run.specs.RefusedItems.{term_in}
use Rattle.rx_run.specs.declared.refusal.Reading.{Reading}
use Rattle.rx_run.proofs.PatternDueLemmas.{if_ok_map}
use Rattle.rec_run.proofs.RefusedItemLemmas.{never_good, never_refused, one_good, read_good}
use Rattle.rec_run.proofs.refused_items.refused_term.Goals as goal

pub returns-in-Refused-clause-first : goal.returns-in-Refused-clause-first
returns-in-Refused-clause-first c = λ y v good spelt.
    absurd (never_good c.args.spec.now c.in-Refused.field-0 y (subst (λ (r : Reading Sourced). IsSpecRead c.args.spec.now r) c.in-Refused.is
    c.in_ok-judge_copy.ensures) good)

pub returns-in-Good-clause-first : goal.returns-in-Good-clause-first
returns-in-Good-clause-first c =
    let read = read_good c.args.spec.now c.in-Good.checked (subst (λ (r : Reading Sourced). IsSpecRead c.args.spec.now r) c.in-Good.is
    c.in_ok-judge_copy.ensures) in
    if_ok_map c.refused_term_for.result _ _
    (λ found h y v good spelt. subst (λ z. found ≡ term_in z v) (one_good c.args.spec.now c.in-Good.checked.spec y read good) (h v spelt))
    c.refused_term_for.ensures

pub returns-in-Good-clause-none : goal.returns-in-Good-clause-none
returns-in-Good-clause-none c =
    let read = read_good c.args.spec.now c.in-Good.checked (subst (λ (r : Reading Sourced). IsSpecRead c.args.spec.now r) c.in-Good.is
    c.in_ok-judge_copy.ensures) in
    if_ok_map c.refused_term_for.result _ _
    (λ found h v is refused. absurd (never_refused c.args.spec.now c.in-Good.checked.spec v read is refused))
    c.refused_term_for.ensures

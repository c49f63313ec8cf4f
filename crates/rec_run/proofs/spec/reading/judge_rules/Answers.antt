use Rattle.std.proofs.Common.{refl, subst, sym}
use Rattle.rec_sorts.specs.SpecRules.{Breaks}
use Rattle.rec_run.specs.Reading.{IsSpecRead}
use Rattle.rec_run.proofs.spec.reading.judge_rules.Goals as goal

pub returns-in-Err-Rule-clause-verdict : goal.returns-in-Err-Rule-clause-verdict
returns-in-Err-Rule-clause-verdict c =
    let broken = rw c.in-Err-Rule.field-0-is at c.in-Err-Rule.ensures.broken in
    subst (IsSpecRead c.args.syntax.source) (sym c.refused.ensures)
    (Breaks (record { number = c.in-Err-Rule.number; at = c.in-Err-Rule.at }), (c.requires.short, (c.args.syntax.spec, c.requires.spelled, broken)), refl)

use Rattle.std.proofs.Common.{◌≡◌, subst}
use Rattle.rx_term.specs.Tree.{Tree}
use Rattle.rx_run.specs.Inner.PatternAnswers.{IsPatternRead}
use Rattle.rx_run.specs.RefusedItems.{misfit_in}
use Rattle.rx_run.specs.declared.refusal.Reading.{Reading}
use Rattle.rx_run.proofs.PatternDueLemmas.{if_ok_map, no_pattern}
use Rattle.rx_run.proofs.RefusedItemLemmas.{one_pattern}
use Rattle.rx_run.proofs.refused_items.refused_argument.Goals as goal

pub returns-in-Refused-clause-first : goal.returns-in-Refused-clause-first
returns-in-Refused-clause-first c = λ p v spelt is.
    absurd (no_pattern c.args.pattern.now c.in-Refused.field-0 (subst (λ (r : Reading Tree). IsPatternRead c.args.pattern.now r) c.in-Refused.is
    c.in_ok-read_pattern.ensures.read) p spelt)

pub returns-in-Good-clause-first : goal.returns-in-Good-clause-first
returns-in-Good-clause-first c =
    let text = c.args.pattern.now in
    let good = subst (λ (r : Reading Tree). IsPatternRead text r) c.in-Good.is c.in_ok-read_pattern.ensures.read in
    if_ok_map c.misfit_for.result _ _
    (λ found h p v spelt is. subst (λ q. found ≡ misfit_in q v) (one_pattern text c.in-Good.pattern p good spelt) (h v is))
    c.misfit_for.ensures.why

pub returns-in-Good-clause-none : goal.returns-in-Good-clause-none
returns-in-Good-clause-none c =
    let text = c.args.pattern.now in
    let good = subst (λ (r : Reading Tree). IsPatternRead text r) c.in-Good.is c.in_ok-read_pattern.ensures.read in
    if_ok_map c.misfit_for.result _ _ (λ found h none. absurd (none c.in-Good.pattern good)) c.misfit_for.ensures.why

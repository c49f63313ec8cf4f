use Rattle.std.proofs.Common.{◌≡◌, Result, Err, ap, subst, ◌∙◌, arith}
use Rattle.rec_syntax.specs.Syntax.{Sourced}
use Rattle.rec_syntax.specs.declared.fault.SyntaxFault.{SyntaxFault}
use Rattle.rec_syntax.specs.declared.fault.SyntaxFault.TheVariants.{Long}
use Rattle.rec_syntax.specs.Answer.{IsPlaced}
use Rattle.rec_syntax.proofs.DecidingLemmas.{one_reading}
use Rattle.rec_syntax.proofs.PlaceLemmas.{not_both}
use Rattle.rec_sorts.specs.SpecRules.{fault}
use Rattle.rec_check.proofs.RunLemmas.{broken_examined}
use Rattle.rec_check.proofs.runs.examine_broken.Goals as goal

pub returns-in_ok-errors-in-Ok : goal.returns-in_ok-errors-in-Ok
returns-in_ok-errors-in-Ok c =
    let b = c.requires.broken in
    let y = c.in-Ok.syntax.spec in
    broken_examined c.args.text.now y (record { number = c.args.reported.number; at = c.args.reported.at }) _ c.requires.fits c.in-Ok.ensures.spelled
    (ap fault (one_reading c.args.text.now y b.0 c.in-Ok.ensures.spelled b.1) ∙ b.2)
    c.in_ok-errors-in-Ok.ensures

pub unreachable-requires : goal.unreachable-requires
unreachable-requires c =
    let same : ◌≡◌ {A = Result Sourced SyntaxFault} (Err c.in-Err-Long.field-0) (Err Long) = ap (λ (f : SyntaxFault). Err f) c.in-Err-Long.field-0-is in
    omega (arith, c.in-Err-Long.ensures.long.0 same, c.requires.fits)

pub unreachable-requires-in-Err-Grammar : goal.unreachable-requires-in-Err-Grammar
unreachable-requires-in-Err-Grammar c =
    not_both c.args.text.now c.requires.broken.0 c.in-Err-Grammar.field-0-0 c.requires.broken.1
    (subst (IsPlaced c.args.text.now) c.in-Err-Grammar.field-0-is c.in-Err-Grammar.ensures.place)

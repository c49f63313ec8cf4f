use Rattle.std.proofs.Common.{sym, subst}
use Rattle.rec_syntax.specs.Answer.{IsPlaced}
use Rattle.rec_check.specs.Findings.{found_alone}
use Rattle.rec_check.specs.Runs.{Examined}
use Rattle.rec_check.specs.declared.finding.Kind.TheVariants.{Outside}
use Rattle.rec_check.specs.declared.runs.Judgement.TheVariants.{Refused}
use Rattle.rec_check.proofs.RunLemmas.{alone_examined, fits_unless, outside_examined}
use Rattle.rec_check.proofs.runs.examine.Goals as goal

pub returns-in-Err-Grammar : goal.returns-in-Err-Grammar
returns-in-Err-Grammar c =
    let text = c.args.text.now in
    let answer = c.examination_of-in-Err-Grammar in
    alone_examined answer.result text _ answer.ensures.found answer.ensures.refused
    (subst (λ a. Examined text (found_alone Outside a) Refused) (sym c.in-Err-Grammar.at-is)
    (outside_examined text c.in-Err-Grammar.at (fits_unless text (λ long. cc (c.in-Err-Grammar.field-0-is, c.in-Err-Grammar.ensures.long.1 long)))
    (subst (IsPlaced text) c.in-Err-Grammar.field-0-is c.in-Err-Grammar.ensures.place)))

use Rattle.std.proofs.Common.{Some, subst}
use Rattle.rx_term.specs.Tree.{Tree}
use Rattle.rx_run.specs.TermRuns.{due_at, term_line}
use Rattle.rx_run.specs.PatternRuns.{due_of_args}
use Rattle.rx_run.specs.Inner.PatternAnswers.{IsPatternRead}
use Rattle.rx_run.specs.declared.refusal.Reading.{Reading}
use Rattle.rx_run.proofs.PatternDueLemmas.{good_both, if_ok_map, refused_both}
use Rattle.rx_run.proofs.pattern.answer.make_of_reading.Goals as goal

pub returns-in-Refused-clause-due : goal.returns-in-Refused-clause-due
returns-in-Refused-clause-due g c = λ text read.
    refused_both due_of_args (Some c.args.args.now) text c.in-Refused.refusal (subst (λ (r : Reading Tree). IsPatternRead text r) c.in-Refused.is read)

pub returns-in-Good-clause-due : goal.returns-in-Good-clause-due
returns-in-Good-clause-due g c =
    if_ok_map c.make_of_text.result _ _
    (λ made h text read. good_both due_of_args (Some c.args.args.now) text c.in-Good.pattern
    (due_at term_line (g.B.TermBank.store c.make_of_text.new.bank) made) (subst (λ (r : Reading Tree). IsPatternRead text r) c.in-Good.is read) h)
    c.make_of_text.ensures.due

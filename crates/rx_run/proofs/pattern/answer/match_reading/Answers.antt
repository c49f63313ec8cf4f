use Rattle.std.proofs.Common.{subst}
use Rattle.rx_pattern.specs.Matching.{matching}
use Rattle.rx_term.specs.Tree.{Tree}
use Rattle.rx_text.specs.Verdict.{Verdict}
use Rattle.rx_run.specs.Due.{Due}
use Rattle.rx_run.specs.TermRuns.{due_of}
use Rattle.rx_run.specs.PatternRuns.{match_lines}
use Rattle.rx_run.specs.Inner.PatternAnswers.{IsPatternRead, answer_due}
use Rattle.rx_run.specs.declared.refusal.Reading.{Reading}
use Rattle.rx_run.proofs.PatternDueLemmas.{good_both, if_ok_map, no_pattern, refused_both}
use Rattle.rx_run.proofs.pattern.answer.match_reading.Goals as goal

abbrev after : Tree → Verdict → Due
after p v = due_of (λ t. match_lines (matching p t)) v

pub returns-in-Refused-clause-due : goal.returns-in-Refused-clause-due
returns-in-Refused-clause-due g c = λ text read.
    refused_both after _ text c.in-Refused.refusal (subst (λ (r : Reading Tree). IsPatternRead text r) c.in-Refused.is read)

pub returns-in-Good-clause-due : goal.returns-in-Good-clause-due
returns-in-Good-clause-due g c =
    if_ok_map c.match_input.result _ _
    (λ answer h text read. good_both after _ text c.in-Good.pattern (answer_due (g.B.TermBank.store c.match_input.new.bank) answer)
    (subst (λ (r : Reading Tree). IsPatternRead text r) c.in-Good.is read) h)
    c.match_input.ensures.due

pub returns-in-Refused-clause-input_read : goal.returns-in-Refused-clause-input_read
returns-in-Refused-clause-input_read g c = λ text p read spelt.
    absurd (no_pattern text c.in-Refused.refusal (subst (λ (r : Reading Tree). IsPatternRead text r) c.in-Refused.is read) p spelt)

pub returns-in-Good-clause-unread : goal.returns-in-Good-clause-unread
returns-in-Good-clause-unread g c = λ text read none.
    absurd (none c.in-Good.pattern (subst (λ (r : Reading Tree). IsPatternRead text r) c.in-Good.is read))

use Rattle.rx_run.specs.PatternRuns.{IsMatchDue}
use Rattle.recw_wasm.proofs.AnswerLemmas.{answers_matched}
use Rattle.recw_wasm.proofs.patterns.recw_match.Goals as goal

pub returns : goal.returns
returns c =
    let run = c.match_term-report in let end = c.ending_of in let over = c.hand_ending in
    answers_matched (IsMatchDue c.args.pattern.now c.args.term.now) run.new.out.items run.result end.result over.result over.new.told
    c.args.out.now over.new.out c.new-lines.result.items c.new-lines.ensures.items
    end.ensures.ended end.ensures.stopped run.ensures.ends over.ensures.handed over.ensures.withheld

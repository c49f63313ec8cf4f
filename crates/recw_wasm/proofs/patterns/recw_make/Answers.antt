use Rattle.rx_run.specs.PatternRuns.{IsMakeDue}
use Rattle.recw_wasm.proofs.AnswerLemmas.{answers_ended}
use Rattle.recw_wasm.proofs.patterns.recw_make.Goals as goal

pub returns : goal.returns
returns c =
    let run = c.make_term-end in let over = c.hand_ending in
    answers_ended (IsMakeDue c.args.pattern.now c.args.args.now) run.new.out.items over.result over.new.told c.args.out.now over.new.out
    run.result c.new-lines.result.items c.new-lines.ensures.items over.ensures.handed over.ensures.withheld run.ensures.ends

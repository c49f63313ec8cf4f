use Rattle.std.proofs.Common.{Some}
use Rattle.rec_run.specs.Output.{IsDue}
use Rattle.recw_wasm.specs.Answers.{page_lines}
use Rattle.recw_wasm.proofs.AnswerLemmas.{answers_asked, answers_ended}
use Rattle.recw_wasm.proofs.profiling.recw_profile.Goals as goal

pub returns : goal.returns
returns c =
    let limits = c.within.result in let run = c.evaluate_given-end in let over = c.hand_ending in let spec = c.args.spec.now in
    answers_asked c.args.options.now limits.count limits.steps spec (Some c.args.terms.now) over.result over.new.told c.args.out.now over.new.out
    c.within.ensures.steps c.within.ensures.count
    (answers_ended (IsDue spec (Some c.args.terms.now) (page_lines limits.count) limits.steps) run.new.lines.items over.result over.new.told c.args.out.now
    over.new.out run.result c.new-lines.result.items c.new-lines.ensures.items over.ensures.handed over.ensures.withheld run.ensures.ends)

use Rattle.recw_wasm.proofs.AnswerLemmas.{answers_checked}
use Rattle.recw_wasm.proofs.checking.recw_check.Goals as goal

pub returns : goal.returns
returns c =
    let run = c.check_text-judged in let end = c.finish_of in let over = c.hand_over in
    answers_checked c.args.name.now c.args.spec.now run.new.out.items run.result end.result over.result over.new.told c.args.out.now over.new.out
    c.new-lines.result.items c.new-lines.ensures.items end.ensures.ended end.ensures.stopped run.ensures.output over.ensures.handed over.ensures.withheld

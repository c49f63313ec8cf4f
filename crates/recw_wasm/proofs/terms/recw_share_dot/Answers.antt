use Rattle.rx_render.specs.Due.{IsDotDue}
use Rattle.recw_wasm.proofs.AnswerLemmas.{answers_ended}
use Rattle.recw_wasm.proofs.terms.recw_share_dot.Goals as goal

pub returns : goal.returns
returns c =
    let run = c.run_share_dot-end in let over = c.hand_ending in
    answers_ended (IsDotDue c.args.nodes c.args.term.now) run.new.out.items over.result over.new.told c.args.out.now over.new.out run.result
    c.new-lines.result.items c.new-lines.ensures.items over.ensures.handed over.ensures.withheld run.ensures.ends

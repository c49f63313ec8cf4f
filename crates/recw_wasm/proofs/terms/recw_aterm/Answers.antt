use Rattle.rx_run.specs.TermRuns.{IsTermDue}
use Rattle.recw_wasm.proofs.AnswerLemmas.{answers_ended}
use Rattle.recw_wasm.proofs.terms.recw_aterm.Goals as goal

pub returns : goal.returns
returns c =
    let run = c.print_term-end in let over = c.hand_ending in
    answers_ended (IsTermDue c.args.term.now) run.new.out.items over.result over.new.told c.args.out.now over.new.out run.result
    c.new-lines.result.items c.new-lines.ensures.items over.ensures.handed over.ensures.withheld run.ensures.ends

use Rattle.std.proofs.Common.{Some}
use Rattle.rec_trace_run.specs.Traces.{IsTraceDueFor, shown_by}
use Rattle.recw_wasm.proofs.AnswerLemmas.{answers_ended, answers_traced}
use Rattle.recw_wasm.proofs.tracing.recw_trace_terms.Goals as goal

pub returns : goal.returns
returns c =
    let asked = c.within.result in let run = c.trace_given-end in let over = c.hand_ending in let spec = c.args.spec.now in
    answers_traced c.args.options.now (shown_by asked) asked.run.steps spec (Some c.args.terms.now) over.result over.new.told c.args.out.now
    over.new.out c.within.ensures.steps c.within.ensures.shown
    (answers_ended
    (IsTraceDueFor (shown_by asked) asked.run.steps (record { spec = spec; terms = Some c.args.terms.now }))
    run.new.out.items over.result over.new.told c.args.out.now over.new.out run.result
    c.new-lines.result.items c.new-lines.ensures.items
    over.ensures.handed over.ensures.withheld run.ensures.ends)

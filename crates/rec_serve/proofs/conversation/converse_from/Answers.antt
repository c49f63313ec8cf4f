use Rattle.std.proofs.Common.{◌+◌, Ok, inr, refl, ap, ◌∙◌}
use Rattle.rec_run.proofs.EvaluatedLemmas.{same_engine_both}
use Rattle.rx_text.specs.Input.{remaining_in}
use Rattle.rx_text.specs.Output.{contents_of}
use Rattle.rec_serve.specs.declared.ending.ServeFault.TheVariants.{Memory}
use Rattle.rec_serve.specs.Inner.Reading.{left_of}
use Rattle.rec_serve.proofs.CauseLemmas.{cannot_sooner, read_after, uncounted_done, uncounted_left, write_after}
use Rattle.rec_serve.proofs.KeptLemmas.{left_again}
use Rattle.rec_serve.specs.Replies.{IsReply}
use Rattle.rec_serve.proofs.ReasonLemmas.{replies_now, stops_now}
use Rattle.rec_serve.proofs.ReplyLemmas.{breaks_at_once, breaks_off, replied_more, replied_none}
use Rattle.rec_serve.proofs.conversation.converse_from.Goals as goal

pub returns-in-Err-clause-fault : goal.returns-in-Err-clause-fault
returns-in-Err-clause-fault g c =
    breaks_at_once (IsReply c.args.engine.now.spec c.args.session.settings) (g.R.Read.remaining c.args.requests.now.reader.now)
    (g.W.Write.contents c.args.out.now.writer.now) Memory refl

pub loop-answered-init : goal.loop-answered-init
loop-answered-init g c =
    let known = remaining_in g.R.Read.remaining c.args.requests.now in
    record {
      same = record { spec = refl; options = refl };
      session = c.new-2.ensures;
      counted = refl;
      replied = replied_none (IsReply c.args.engine.now.spec c.args.session.settings) known (left_of c.in-Ok.ahead known)
          (contents_of g.W.Write.contents c.args.out.now) (left_again c.in-Ok.ahead known c.in-Ok.ensures);
      read = refl;
      wrote = refl;
      same_input = refl;
      same_output = refl;
    }

pub returns-in-Err-answer_next-clause-fault : goal.returns-in-Err-answer_next-clause-fault
returns-in-Err-answer_next-clause-fault g c =
    let inv = c.loop-answered.invariant in
    breaks_off (IsReply c.args.engine.now.spec c.args.session.settings) _ _ _ _ _
    c.loop-answered.answered c.in-Err-answer_next.fault c.after.result c.after.ensures inv.replied
    (stops_now g.B.TermBank.store c.args.engine.now.spec c.args.session.settings c.loop-answered.engine.spec
    c.loop-answered.progress.workspace.session.settings c.answer_next.new.progress.workspace c.answer_next.new.engine c.in-Err-answer_next.fault _ _ _
    inv.same.spec (ap (λ s. s.settings) inv.session) (ap (λ s. s.settings) c.answer_next.ensures.session) c.in-Err-answer_next.ensures.fault)

pub loop-answered-preserved : goal.loop-answered-preserved
loop-answered-preserved g c =
    let inv = c.loop-answered.invariant in
    record {
      same = same_engine_both inv.same c.in-Ok-true.ensures.same;
      session = c.answer_next.ensures.session ∙ inv.session;
      counted = c.in-Ok-true.ensures.counts (ap Ok c.in-Ok-true.field-0-test) ∙ ap (λ n. n + 1) inv.counted;
      replied = replied_more (IsReply c.args.engine.now.spec c.args.session.settings) _ _ _ _ _ _
          c.loop-answered.answered inv.replied
          (replies_now g.B.TermBank.store c.args.engine.now.spec c.args.session.settings c.loop-answered.engine.spec
          c.loop-answered.progress.workspace.session.settings c.answer_next.new.progress.workspace c.answer_next.new.engine _ _ _ _ _ _
          c.in-Ok-true.field-0-test inv.same.spec (ap (λ s. s.settings) inv.session) (ap (λ s. s.settings) c.answer_next.ensures.session)
          c.in-Ok-true.ensures.step);
      read = c.in-Ok-true.ensures.read_reports.1 ∙ inv.read;
      wrote = c.in-Ok-true.ensures.write_reports.1 ∙ inv.wrote;
      same_input = c.in-Ok-true.ensures.read_reports.0 ∙ inv.same_input;
      same_output = c.in-Ok-true.ensures.write_reports.0 ∙ inv.same_output;
    }

pub returns-in-Err-answer_next-clause-read_reports : goal.returns-in-Err-answer_next-clause-read_reports
returns-in-Err-answer_next-clause-read_reports g c =
    let inv = c.loop-answered.invariant in
    let h = c.in-Err-answer_next.ensures.read_reports in (
      h.0 ∙ inv.same_input,
      read_after c.in-Err-answer_next.fault c.loop-answered.answered c.after.result _ _ c.after.ensures
          (cannot_sooner (uncounted_left _ _ _ inv.replied.split)) h.1,
    )

pub returns-in-Err-answer_next-clause-write_reports : goal.returns-in-Err-answer_next-clause-write_reports
returns-in-Err-answer_next-clause-write_reports g c =
    let inv = c.loop-answered.invariant in
    let h = c.in-Err-answer_next.ensures.write_reports in (
      h.0 ∙ inv.same_output,
      write_after c.in-Err-answer_next.fault c.loop-answered.answered c.after.result _ _ _ c.after.ensures inv.wrote h.1,
    )

pub returns-clause-read_reports : goal.returns-clause-read_reports
returns-clause-read_reports g c =
    let inv = c.loop-answered.invariant in
    let replied = inv.replied in (
      inv.same_input,
      inr (uncounted_done _ _ replied.done c.loop-answered.answered replied.split replied.few c.loop-answered-test.false),
    )

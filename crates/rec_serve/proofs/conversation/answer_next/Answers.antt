use Rattle.std.proofs.Common.{[], None, append-nil, inr, sym}
use Rattle.rec_serve.specs.Inner.Reasons.{IsReplyOf}
use Rattle.rec_serve.proofs.CauseLemmas.{stops_unwritten}
use Rattle.rec_serve.proofs.ReplyLemmas.{replies_front, replies_one}
use Rattle.rec_serve.proofs.conversation.answer_next.Goals as goal

pub returns-in-Ok-clause-step : goal.returns-in-Ok-clause-step
returns-in-Ok-clause-step g c =
    replies_one (IsReplyOf g.B.TermBank.store c.args.engine.now.spec c.args.progress.now.workspace.session.settings c.reply.new.workspace c.reply.new.engine)
    c.in-Ok-Some.field-0 c.in-Ok-Some.request _ _ _ _ _ c.in-Ok-Some.field-0-is _ c.in-Ok-Some.ensures.request c.next_request.ensures.kept
    (rw c.renew.ensures at c.in-Ok.ensures.ok)

pub returns-in-Ok-Some-clause-fault : goal.returns-in-Ok-Some-clause-fault
returns-in-Ok-Some-clause-fault g c =
    inr (replies_front (IsReplyOf g.B.TermBank.store c.args.engine.now.spec c.args.progress.now.workspace.session.settings c.reply.new.workspace
    c.reply.new.engine) c.in-Ok-Some.field-0 c.in-Ok-Some.request _ _ _ _ _ c.in-Ok-Some.field-0-is _ c.in-Ok-Some.ensures.request
    c.next_request.ensures.kept (rw c.renew.ensures at c.in-Err-reply.ensures.err))

pub returns-clause-fault : goal.returns-clause-fault
returns-clause-fault g c = stops_unwritten _ c.in-Err.fault _ _ _ _ c.in-Err.ensures.read_reports.1 c.next_request.ensures.kept

pub returns-in-Ok-clause-told : goal.returns-in-Ok-clause-told
returns-in-Ok-clause-told g c = (c.in-Ok-Some.request.text.items, c.in-Ok.refusal, c.tell.ensures)

pub returns-in-Ok-None-clause-told : goal.returns-in-Ok-None-clause-told
returns-in-Ok-None-clause-told g c = ([], None, sym (append-nil (g.L.Listener.told c.args.listener.now)))

use Rattle.std.proofs.Common.{subst}
use Rattle.std.specs.Io.KnownBytes.{Appends}
use Rattle.rx_text.specs.Written.{AppendsFront}
use Rattle.rec_serve.specs.Answering.{text_of}
use Rattle.rec_serve.proofs.ReasonLemmas.{reply_is}
use Rattle.rec_serve.proofs.conversation.reply.Goals as goal

pub returns-in-Ok-clause-ok : goal.returns-in-Ok-clause-ok
returns-in-Ok-clause-ok g c = λ line is.
    let r = c.answer_kept-found.result in (
      text_of r,
      reply_is g.B.TermBank.store c.args.engine.now.spec c.args.workspace.now.session.settings c.answer_kept-found.new.workspace
          c.answer_kept-found.new.engine c.args.request.now r c.answer_kept-found.ensures.reason c.answer_kept-found.ensures.answered line is,
      subst (λ t. Appends (g.W.Write.contents c.args.out.now.writer.now) (g.W.Write.contents c.put.new.self.writer.now) t) c.reply_text.ensures
          c.in-Ok.ensures.written,
    )

pub returns-clause-err : goal.returns-clause-err
returns-clause-err g c = λ line is.
    let r = c.answer_kept-found.result in (
      text_of r,
      reply_is g.B.TermBank.store c.args.engine.now.spec c.args.workspace.now.session.settings c.answer_kept-found.new.workspace
          c.answer_kept-found.new.engine c.args.request.now r c.answer_kept-found.ensures.reason c.answer_kept-found.ensures.answered line is,
      subst (λ t. AppendsFront t (g.W.Write.contents c.args.out.now.writer.now) (g.W.Write.contents c.put.new.self.writer.now)) c.reply_text.ensures
          c.in-Err.ensures.front,
    )

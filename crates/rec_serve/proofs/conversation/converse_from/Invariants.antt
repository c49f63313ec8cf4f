use Rattle.std.proofs.Common.{◌≡◌}
use Rattle.rx_text.specs.Input.{IsSameInput, remaining_in}
use Rattle.rx_text.specs.Output.{IsSameOutput, contents_of}
use Rattle.rec_engine.specs.Engine.{SameEngine}
use Rattle.rec_serve.specs.Inner.Reading.{left_of}
use Rattle.rec_serve.specs.Replies.{IsReply}
use Rattle.rec_serve.proofs.ReplyLemmas.{Replied}
use Rattle.rec_serve.proofs.conversation.converse_from.Given as goal

-- the requests so far were replied to
abbrev pub invariant-loop-answered : goal.invariant-loop-answered
invariant-loop-answered g l = record {
  same : SameEngine l.fn.engine l.engine;
  session : l.progress.workspace.session ≡ l.fn.session;
  counted : l.progress.answered ≡ l.answered;
  replied : Replied (IsReply l.fn.engine.spec l.fn.session.settings) (remaining_in g.R.Read.remaining l.fn.requests)
      (left_of l.progress.ahead (remaining_in g.R.Read.remaining l.requests)) (contents_of g.W.Write.contents l.fn.out)
      (contents_of g.W.Write.contents l.out) l.answered;
  read : l.requests.refused ≡ l.fn.requests.refused;
  wrote : l.out.refused ≡ l.fn.out.refused;
  same_input : IsSameInput l.fn.requests l.requests;
  same_output : IsSameOutput l.fn.out l.out;
}

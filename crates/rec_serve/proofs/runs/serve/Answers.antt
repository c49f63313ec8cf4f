use Rattle.std.proofs.Common.{refl}
use Rattle.rec_serve.specs.declared.ending.ServeFault.TheVariants.{Memory}
use Rattle.rec_serve.specs.Replies.{IsReply}
use Rattle.rec_serve.proofs.ReplyLemmas.{breaks_at_once}
use Rattle.rec_serve.proofs.runs.serve.Goals as goal

pub returns-in-Err-clause-fault : goal.returns-in-Err-clause-fault
returns-in-Err-clause-fault g c =
    let s = c.args.session.settings in
    breaks_at_once (IsReply c.args.checked.spec s) (g.R.Read.remaining c.args.requests.now.reader.now)
    (g.W.Write.contents c.args.out.now.writer.now) Memory refl

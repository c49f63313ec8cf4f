use Rattle.std.proofs.Common.{◌++◌, ◌∷◌, []}
use Rattle.rx_text.specs.Canon.{name_text}
use Rattle.rx_text.specs.Inner.Jobs.{seen, entry_text, job_text, source_of}
use Rattle.rx_term.specs.Store.{tree_at}
use Rattle.rx_text.specs.declared.writer.Job.TheVariants as job
use Rattle.rx_text.proofs.AppendingLemmas.{on_err, front_of}
use Rattle.rx_text.proofs.LeavingLemmas.{application_text, application_leaves}
use Rattle.rx_text.proofs.writer.Printer.write_application.Goals as goal

pub returns-in_err-put_operator-clause-front : goal.returns-in_err-put_operator-clause-front
returns-in_err-put_operator-clause-front g c =
    let v = source_of g.B.TermBank.store g.N.Numbers.style c.args.self.now in
    let name = c.name_of-name.result.now in
    let quoted = c.quoted_of-quoted.result in
    on_err _ (front_of (g.W.Write.contents c.args.out.now.writer.now) (g.W.Write.contents c.put_operator.new.out.writer.now)
    (seen [] (entry_text v.style) (tree_at v.store c.args.term)) (name_text name quoted ++ 40 ∷ [])
    (job_text v (job.Items c.args-args.result) ++ job_text v (job.Byte 41))
    (application_text v c.args.term c.args.symbol c.requires.job name quoted c.name_of-name.ensures c.quoted_of-quoted.ensures c.args-args.result
    c.in-Cons.ensures c.args-args.ensures) c.in_err-put_operator.ensures.front)

pub returns-in_ok-put_operator-clause-written : goal.returns-in_ok-put_operator-clause-written
returns-in_ok-put_operator-clause-written g c =
    application_leaves (source_of g.B.TermBank.store g.N.Numbers.style c.args.self.now) c.args.term c.args.symbol c.requires.job c.name_of-name.result.now
    c.quoted_of-quoted.result c.name_of-name.ensures c.quoted_of-quoted.ensures c.args-args.result c.in-Cons.ensures c.args-args.ensures
    (g.W.Write.contents c.args.out.now.writer.now) (g.W.Write.contents c.put_operator.new.out.writer.now) c.args.jobs.now.items c.leave.new.jobs.items
    c.in_ok-leave.ensures.left c.in_ok-put_operator.ensures.written

use Rattle.std.proofs.Common.{[]}
use Rattle.rx_term.specs.Store.{tree_at}
use Rattle.rx_text.specs.Inner.Jobs.{seen, entry_text, job_text, source_of}
use Rattle.rx_text.specs.declared.writer.Job.TheVariants as job
use Rattle.rx_text.proofs.AppendingLemmas.{err_front}
use Rattle.rx_text.proofs.LeavingLemmas.{tree_text, tree_leaves}
use Rattle.rx_text.proofs.writer.Printer.write_tree.Goals as goal

pub returns-clause-written : goal.returns-clause-written
returns-clause-written g c =
    tree_leaves c.write_body.result (source_of g.B.TermBank.store g.N.Numbers.style c.args.self.now) c.args.term
    (g.W.Write.contents c.args.out.now.writer.now) (g.W.Write.contents c.write_body.new.out.writer.now) c.args.jobs.now.items
    c.push.new.self.items c.write_body.new.jobs.items c.in_ok-push.ensures.items c.requires.job c.write_body.ensures.written

pub returns-clause-front : goal.returns-clause-front
returns-clause-front g c =
    let v = source_of g.B.TermBank.store g.N.Numbers.style c.args.self.now in
    err_front c.write_body.result (g.W.Write.contents c.args.out.now.writer.now) (g.W.Write.contents c.write_body.new.out.writer.now)
    (job_text v (job.Entry c.args.term)) (seen [] (entry_text v.style) (tree_at v.store c.args.term)) (job_text v (job.Notes c.args.term))
    (tree_text v c.args.term c.requires.job) c.write_body.ensures.front

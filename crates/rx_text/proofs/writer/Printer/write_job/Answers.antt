use Rattle.rx_text.specs.Inner.Jobs.{job_text, job_size, source_of}
use Rattle.rx_text.specs.declared.writer.Job.TheVariants as job
use Rattle.rx_text.proofs.AppendingLemmas.{appends_same}
use Rattle.rx_text.proofs.LeavingLemmas.{adds_leaves}
use Rattle.rx_text.proofs.TellingLemmas.{reports_memory}
use Rattle.rx_text.proofs.writer.Printer.write_job.Goals as goal

pub returns-in-Items-clause-written : goal.returns-in-Items-clause-written
returns-in-Items-clause-written g c =
    let v = source_of g.B.TermBank.store g.N.Numbers.style c.args.self.now in
    let j = job.Items c.in-Items.list in
    let old = g.W.Write.contents c.args.out.now.writer.now in
    rw c.in-Items.is (adds_leaves c.leave_items.result v (job_text v j) (job_size v.store j) old old c.args.jobs.now.items c.leave_items.new.jobs.items
    c.leave_items.ensures.left (appends_same old))

pub returns-in-Items-clause-reports : goal.returns-in-Items-clause-reports
returns-in-Items-clause-reports g c = reports_memory c.args.out.now c.leave_items.result c.leave_items.ensures.memory

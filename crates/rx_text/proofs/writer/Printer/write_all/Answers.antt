use Rattle.std.proofs.Common.{[], refl, rules}
use Rattle.rx_text.specs.Written.{AppendsFront}
use Rattle.rx_text.specs.Inner.Jobs.{job_text, source_of}
use Rattle.rx_text.proofs.AppendingLemmas.{appends_same, on_err}
use Rattle.rx_text.proofs.LeavingLemmas.{popped_job, writing_on, writing_stopped, less_left}
use Rattle.rx_text.proofs.writer.Printer.write_all.Goals as goal

pub loop-next-smaller : goal.loop-next-smaller
loop-next-smaller g c =
    let v = source_of g.B.TermBank.store g.N.Numbers.style c.args.self.now in
    let l = c.loop-next in
    less_left v (job_text v c.args.job) (g.W.Write.contents c.args.out.now.writer.now) (g.W.Write.contents l.out.writer.now) l.jobs.items
    c.pop.new.self.items c.in-Some.next l.invariant.0 c.in-Some.ensures.items (g.W.Write.contents c.write_job.new.out.writer.now)
    c.write_job.new.jobs.items c.in_ok-write_job.ensures.written

pub loop-next-preserved : goal.loop-next-preserved
loop-next-preserved g c =
    let v = source_of g.B.TermBank.store g.N.Numbers.style c.args.self.now in
    let l = c.loop-next in (
      writing_on v (job_text v c.args.job) (g.W.Write.contents c.args.out.now.writer.now) (g.W.Write.contents l.out.writer.now)
          l.jobs.items c.pop.new.self.items c.in-Some.next l.invariant.0 c.in-Some.ensures.items (g.W.Write.contents c.write_job.new.out.writer.now)
          c.write_job.new.jobs.items c.in_ok-write_job.ensures.written,
      search rules,
      search rules,
    )

pub returns-in_err-write_job-clause-front : goal.returns-in_err-write_job-clause-front
returns-in_err-write_job-clause-front g c =
    let v = source_of g.B.TermBank.store g.N.Numbers.style c.args.self.now in
    let l = c.loop-next in
    on_err _ (writing_stopped v (job_text v c.args.job) (g.W.Write.contents c.args.out.now.writer.now)
    (g.W.Write.contents l.out.writer.now) l.jobs.items c.pop.new.self.items c.in-Some.next l.invariant.0 c.in-Some.ensures.items
    (g.W.Write.contents c.write_job.new.out.writer.now) c.in_err-write_job.ensures.front)

pub returns-in_err-push-clause-front : goal.returns-in_err-push-clause-front
returns-in_err-push-clause-front g c =
    let v = source_of g.B.TermBank.store g.N.Numbers.style c.args.self.now in
    let old = g.W.Write.contents c.args.out.now.writer.now in
    let front : AppendsFront (job_text v c.args.job) old old = ([], appends_same old, (job_text v c.args.job, refl)) in
    on_err _ front

pub write_job-requires-clause-job : goal.write_job-requires-clause-job
write_job-requires-clause-job g c =
    let v = source_of g.B.TermBank.store g.N.Numbers.style c.args.self.now in
    let l = c.loop-next in
    popped_job v (job_text v c.args.job) (g.W.Write.contents c.args.out.now.writer.now) (g.W.Write.contents l.out.writer.now) l.jobs.items
    c.pop.new.self.items c.in-Some.next l.invariant.0 c.in-Some.ensures.items

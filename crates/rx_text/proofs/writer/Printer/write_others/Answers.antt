use Rattle.std.proofs.Common.{◌++◌, ◌∷◌, [], refl}
use Rattle.rx_text.specs.Inner.Jobs.{job_text, source_of}
use Rattle.rx_text.specs.declared.writer.Job.TheVariants as job
use Rattle.rx_text.proofs.AppendingLemmas.{err_front}
use Rattle.rx_text.proofs.LeavingLemmas.{others_text, nothing_left}
use Rattle.rx_text.proofs.writer.Printer.write_others.Goals as goal

pub returns-in-Cons-clause-front : goal.returns-in-Cons-clause-front
returns-in-Cons-clause-front g c =
    let v = source_of g.B.TermBank.store g.N.Numbers.style c.args.self.now in
    err_front c.put_mark.result (g.W.Write.contents c.args.out.now.writer.now) (g.W.Write.contents c.put_mark.new.out.writer.now)
    (job_text v (job.Others c.args.list)) (44 ∷ []) (job_text v (job.Tree c.head.result) ++ job_text v (job.Others c.tail.result))
    (others_text v c.args.list c.head.result c.tail.result c.in-Cons.ensures c.head.ensures c.tail.ensures) c.put_mark.ensures.front

pub returns-in_default : goal.returns-in_default
returns-in_default g c = record {
  written = nothing_left (source_of g.B.TermBank.store g.N.Numbers.style c.args.self.now) c.args.list c.kind.result
      (g.W.Write.contents c.args.out.now.writer.now) c.args.jobs.now.items c.kind.ensures c.requires.job c.in_default.not-Cons;
  front = tt;
  reports = (refl, refl);
}

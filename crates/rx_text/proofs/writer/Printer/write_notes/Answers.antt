use Rattle.std.proofs.Common.{◌∷◌, []}
use Rattle.rx_text.specs.Inner.Jobs.{job_text, source_of}
use Rattle.rx_text.specs.declared.writer.Job.TheVariants as job
use Rattle.rx_text.proofs.AppendingLemmas.{err_front}
use Rattle.rx_text.proofs.LeavingLemmas.{no_notes, notes_front}
use Rattle.rx_text.proofs.writer.Printer.write_notes.Goals as goal

pub returns-in_default-clause-written : goal.returns-in_default-clause-written
returns-in_default-clause-written g c =
    no_notes (source_of g.B.TermBank.store g.N.Numbers.style c.args.self.now) c.args.term (g.W.Write.contents c.args.out.now.writer.now) c.args.jobs.now.items c.in_default.ensures

pub returns-clause-front : goal.returns-clause-front
returns-clause-front g c =
    let v = source_of g.B.TermBank.store g.N.Numbers.style c.args.self.now in
    let f = notes_front v c.args.term c.in-Some.ensures.0 in
    err_front c.put_mark.result (g.W.Write.contents c.args.out.now.writer.now) (g.W.Write.contents c.put_mark.new.out.writer.now)
    (job_text v (job.Notes c.args.term)) (123 ∷ []) f.0 f.1 c.put_mark.ensures.front

use Rattle.std.proofs.Common.{◌∙◌, sym}
use Rattle.rx_text.specs.Output.{WritesFront}
use Rattle.rx_text.specs.Inner.Jobs.{job_size, job_text, source_of}
use Rattle.rx_text.specs.declared.writer.Job.TheVariants as job
use Rattle.rx_text.proofs.AppendingLemmas.{on_err}
use Rattle.rx_text.proofs.LeavingLemmas.{leaves_none, number_text, unnumbered}
use Rattle.rx_text.proofs.writer.Printer.write_numbered.Goals as goal

pub returns-in_ok-put_number-in-Some-clause-written : goal.returns-in_ok-put_number-in-Some-clause-written
returns-in_ok-put_number-in-Some-clause-written g c =
    let v = source_of g.B.TermBank.store g.N.Numbers.style c.args.self.now in
    let n = number_text v c.args.term c.in-Some.number c.requires.job
    (sym (c.number_of.ensures v.store c.requires.numbers c.requires.job) ∙ c.in-Some.is) in
    leaves_none v (job_text v (job.Tree c.args.term)) (job_size v.store (job.Tree c.args.term)) (g.W.Write.contents c.args.out.now.writer.now)
    (g.W.Write.contents c.put_number.new.out.writer.now) c.args.jobs.now.items n.1 (rw (n.0) c.in_ok-put_number-in-Some.ensures.written)

pub returns-in_err-put_number-in-Some-clause-front : goal.returns-in_err-put_number-in-Some-clause-front
returns-in_err-put_number-in-Some-clause-front g c =
    let v = source_of g.B.TermBank.store g.N.Numbers.style c.args.self.now in
    let n = number_text v c.args.term c.in-Some.number c.requires.job
    (sym (c.number_of.ensures v.store c.requires.numbers c.requires.job) ∙ c.in-Some.is) in
    let front : WritesFront g.W.Write.contents c.args.out.now c.put_number.new.out (job_text v (job.Tree c.args.term)) =
    rw (n.0) c.in_err-put_number-in-Some.ensures.front in
    on_err _ front

pub returns-in-None-clause-written : goal.returns-in-None-clause-written
returns-in-None-clause-written g c =
    let v = source_of g.B.TermBank.store g.N.Numbers.style c.args.self.now in
    rw (unnumbered v c.args.term c.requires.job (sym (c.number_of.ensures v.store c.requires.numbers c.requires.job) ∙ c.in-None.is))
    c.write_tree.ensures.written

pub returns-in-None-clause-front : goal.returns-in-None-clause-front
returns-in-None-clause-front g c =
    let v = source_of g.B.TermBank.store g.N.Numbers.style c.args.self.now in
    rw (unnumbered v c.args.term c.requires.job (sym (c.number_of.ensures v.store c.requires.numbers c.requires.job) ∙ c.in-None.is))
    c.write_tree.ensures.front

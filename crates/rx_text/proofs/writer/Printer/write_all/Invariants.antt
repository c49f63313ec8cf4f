use Rattle.std.proofs.Common.{◌≡◌}
use Rattle.rx_text.specs.Inner.Jobs.{job_text, jobs_size, source_of}
use Rattle.rx_text.specs.Output.{IsSameOutput}
use Rattle.rx_text.proofs.LeavingLemmas.{Writing}
use Rattle.rx_text.proofs.writer.Printer.write_all.Given as goal

abbrev pub invariant-loop-next : goal.invariant-loop-next
invariant-loop-next g l =
    let v = source_of g.B.TermBank.store g.N.Numbers.style l.fn.self in
    Writing v (job_text v l.fn.job) (g.W.Write.contents l.fn.out.writer.now) (g.W.Write.contents l.out.writer.now) l.jobs.items
    × (l.out.refused ≡ l.fn.out.refused) × IsSameOutput l.fn.out l.out

abbrev pub decreases-loop-next : goal.decreases-loop-next
decreases-loop-next g l = jobs_size (g.B.TermBank.store l.fn.self.bank.now) l.jobs.items

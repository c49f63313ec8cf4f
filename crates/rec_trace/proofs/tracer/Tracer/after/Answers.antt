use Rattle.std.proofs.Common.{arith}
use Rattle.rec_trace.proofs.SideLemmas.{next-is}
use Rattle.rec_trace.proofs.tracer.Tracer.after.Goals as goal

pub overflow_add-result : goal.overflow_add-result
overflow_add-result g c =
    let ruled = c.matcher.ensures.matcher.ruled in
    let later = next-is c.matcher.result.now c.args.rule c.index.result.now (omega (arith, ruled, c.requires)) c.index.ensures c.args.engine.now.spec
    (g.B.TermBank.store c.args.engine.now.bank) c.matcher.ensures in
    omega (arith, later)

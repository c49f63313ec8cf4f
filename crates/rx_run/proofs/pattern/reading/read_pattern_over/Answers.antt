use Rattle.std.proofs.lemmas.Result.{IfErr-weaker}
use Rattle.rx_run.proofs.FaultLemmas.{at_once}
use Rattle.rx_run.proofs.pattern.reading.read_pattern_over.Goals as goal

pub returns-clause-fault : goal.returns-clause-fault
returns-clause-fault g c = IfErr-weaker c.read_pattern_in.result _ _
    (at_once (g.B.TermBank.store c.args.bank) (g.B.TermBank.store c.read_pattern_in.new.bank)) c.read_pattern_in.ensures.fault

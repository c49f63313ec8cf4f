use Rattle.std.proofs.Common.{subst}
use Rattle.rx_term.specs.Kinds.{HasAppl}
use Rattle.psilt_core.proofs.CallingLemmas.{sort_of_appl}
use Rattle.psilt_core.proofs.calling.has_sort.Goals as goal

pub returns-in-Appl : goal.returns-in-Appl
returns-in-Appl g c =
    sort_of_appl c.args.engine.now.spec (g.B.TermBank.store c.args.engine.now.bank) c.args.value c.in-Appl.symbol
    (subst (λ b. HasAppl (g.B.TermBank.store b) c.args.value c.in-Appl.symbol) c.bank.ensures c.in-Appl.ensures) c.args.sort.now c.is_of_sort.result
    c.is_of_sort.ensures

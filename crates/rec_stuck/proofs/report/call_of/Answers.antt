use Rattle.std.proofs.Common.{subst}
use Rattle.rx_term.specs.Kinds.{HasKind}
use Rattle.rx_term.specs.declared.Kind.TheVariants as kind
use Rattle.rec_stuck.proofs.CallLemmas.{no-application}
use Rattle.rec_stuck.proofs.report.call_of.Goals as goal

pub returns-in_default : goal.returns-in_default
returns-in_default g c =
    let w = g.B.TermBank.store c.args.engine.now.bank in
    no-application c.args.engine.now.spec w c.args.t c.kind.result
    (subst (λ b. HasKind (g.B.TermBank.store b) c.args.t c.kind.result) c.bank.ensures c.kind.ensures) c.in_default.not-Appl

pub call_by-requires : goal.call_by-requires
call_by-requires g c = subst (λ b. HasKind (g.B.TermBank.store b) c.args.t (kind.Appl c.in-Appl.symbol)) c.bank.ensures c.in-Appl.ensures

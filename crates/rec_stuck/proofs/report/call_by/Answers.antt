use Rattle.std.proofs.Common.{subst}
use Rattle.rec_sorts.specs.Linked.{NumberOf}
use Rattle.rec_stuck.proofs.CallLemmas.{no-number}
use Rattle.rec_stuck.proofs.report.call_by.Goals as goal

pub numbered_call-requires-clause-number : goal.numbered_call-requires-clause-number
numbered_call-requires-clause-number g c = (
  c.matcher.result.now.links,
  c.matcher.ensures.linked,
  subst (NumberOf c.matcher.result.now.links c.args.symbol) c.in-Some.is c.op_of.ensures,
)

pub returns-in-None : goal.returns-in-None
returns-in-None g c =
    let e = c.args.engine.now in
    no-number e.spec (g.B.TermBank.store e.bank) (g.met.B.TermBank.sound e.bank) c.matcher.result.now.links c.matcher.ensures.linked c.args.t
    c.args.symbol c.requires c.op_of.result c.op_of.ensures c.in-None.is

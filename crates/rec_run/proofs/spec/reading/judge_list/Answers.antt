use Rattle.rec_run.proofs.GivenDueLemmas.{good_list, list_due, list_fault, list_holds, refused_holds}
use Rattle.rec_run.proofs.spec.reading.judge_list.Goals as goal

pub returns-in-Err-clause-verdict : goal.returns-in-Err-clause-verdict
returns-in-Err-clause-verdict g c =
    list_due c.refuse_list.result _ c.args.checked.now.spec (g.B.TermBank.store c.args.bank.now) c.in-Err.fault c.refuse_list.ensures c.in-Err.ensures.broken

pub returns-in-Err-clause-holds : goal.returns-in-Err-clause-holds
returns-in-Err-clause-holds g c =
    refused_holds c.args.checked.now.spec (g.B.TermBank.store c.args.bank.now) c.refuse_list.result c.in-Err.fault c.refuse_list.ensures

pub returns-in-Err-clause-fault : goal.returns-in-Err-clause-fault
returns-in-Err-clause-fault g c = list_fault c.refuse_list.result c.in-Err.fault c.refuse_list.ensures

pub returns-in-Ok-clause-verdict : goal.returns-in-Ok-clause-verdict
returns-in-Ok-clause-verdict g c = good_list (g.B.TermBank.store c.args.bank.now) c.args.checked.now.spec c.args.list c.in-Ok.ensures.kept

pub returns-in-Ok-clause-holds : goal.returns-in-Ok-clause-holds
returns-in-Ok-clause-holds g c = list_holds (g.B.TermBank.store c.args.bank.now) c.args.checked.now.spec c.args.list c.requires c.in-Ok.ensures.kept

use Rattle.example_client.proofs.RootLemmas.{roots_kept}
use Rattle.test_engine.proofs.callers.expect_answer.Goals as goal

pub returns : goal.returns
returns g c = roots_kept (g.B.TermBank.store c.args.engine.now.bank) (g.B.TermBank.store c.answer.new.engine.bank)
    (g.met.B.TermBank.sound c.args.engine.now.bank) c.answer.ensures.keeps

use Rattle.test_alloc_failure.proofs.GivenLemmas.{given_still}
use Rattle.test_alloc_failure.proofs.engines.evaluate.Goals as goal

pub returns : goal.returns
returns g c =
    given_still c.args.engine.now.spec c.normalise.new.self.spec (g.B.TermBank.store c.args.engine.now.bank)
    (g.B.TermBank.store c.normalise.new.self.bank) c.args.t c.normalise.ensures.same.spec c.normalise.ensures.given c.requires

use Rattle.example_client.proofs.ValuedLemmas.{given_in_engine}
use Rattle.example_client.proofs.evaluating.engine_over.Goals as goal

pub returns-clause-given : goal.returns-clause-given
returns-clause-given g c = given_in_engine (g.B.TermBank.store) c.args.checked.spec (g.B.TermBank.store c.args.bank) c.new.result c.new.ensures.spec
    c.new.ensures.store

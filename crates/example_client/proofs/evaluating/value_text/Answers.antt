use Rattle.example_client.specs.Evaluated.{value_within}
use Rattle.example_client.proofs.ValuedLemmas.{value_there}
use Rattle.example_client.proofs.evaluating.value_text.Goals as goal

pub text_of-requires : goal.text_of-requires
text_of-requires g c =
    rw c.bank.ensures (value_there (g.B.TermBank.store c.value_of.new.engine.bank) c.in-Some.value
    (value_within c.args.engine.now.spec c.args.n c.requires.tree)
    (rw c.in-Some.is at (c.in_ok-value.ensures.value c.requires.tree c.requires.held)))

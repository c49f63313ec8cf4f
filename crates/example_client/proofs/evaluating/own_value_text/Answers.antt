use Rattle.rx_term.proofs.KeepLemmas.{Keeps-trans}
use Rattle.example_client.proofs.evaluating.own_value_text.Goals as goal

pub returns-clause-keeps : goal.returns-clause-keeps
returns-clause-keeps g c = Keeps-trans c.in_ok-t.ensures.keeps c.value_text.ensures.keeps

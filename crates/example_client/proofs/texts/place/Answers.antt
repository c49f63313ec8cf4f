use Rattle.rx_term.proofs.StoreLemmas.{Grows-Adds, Grows-added, Grows-made, Grows-trans}
use Rattle.example_client.proofs.texts.place.Goals as goal

pub returns-in_err-at-clause-grows : goal.returns-in_err-at-clause-grows
returns-in_err-at-clause-grows g c = Grows-trans c.in_ok-both.ensures.grows (Grows-added _ _ _ _ c.symbol.ensures)

pub returns-clause-grows : goal.returns-clause-grows
returns-clause-grows g c = Grows-trans c.in_ok-both.ensures.grows (Grows-trans (Grows-Adds c.in_ok-at.ensures) (Grows-made _ _ _ _ c.appl.ensures))

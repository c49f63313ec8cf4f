use Rattle.rx_term.proofs.StoreLemmas.{Grows-Makes, Grows-Refuses, Grows-made, Grows-trans}
use Rattle.example_client.proofs.texts.numbers.Goals as goal

pub returns-clause-grows : goal.returns-clause-grows
returns-clause-grows g c = Grows-trans (Grows-Makes c.in_ok-last.ensures)
    (Grows-trans c.in_ok-list.ensures.grows (Grows-trans (Grows-Makes c.in_ok-head.ensures) (Grows-made _ _ _ _ c.cons.ensures)))

pub returns-in_err-last-clause-grows : goal.returns-in_err-last-clause-grows
returns-in_err-last-clause-grows g c = Grows-Refuses c.in_err-last.ensures

pub returns-in_err-list-clause-grows : goal.returns-in_err-list-clause-grows
returns-in_err-list-clause-grows g c = Grows-trans (Grows-Makes c.in_ok-last.ensures) c.in_err-list.ensures.grows

pub returns-in_err-head-clause-grows : goal.returns-in_err-head-clause-grows
returns-in_err-head-clause-grows g c = Grows-trans (Grows-Makes c.in_ok-last.ensures)
    (Grows-trans c.in_ok-list.ensures.grows (Grows-Refuses c.in_err-head.ensures))

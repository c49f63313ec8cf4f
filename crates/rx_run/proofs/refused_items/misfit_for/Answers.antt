use Rattle.rx_run.proofs.refused_items.misfit_for.Goals as goal

pub misfit_of_text-requires : goal.misfit_of_text-requires
misfit_of_text-requires c = record { limit = c.in-Ok.ensures.empty.3 }

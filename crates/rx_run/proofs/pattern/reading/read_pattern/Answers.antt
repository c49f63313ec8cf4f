use Rattle.rx_run.proofs.pattern.reading.read_pattern.Goals as goal

pub read_pattern_over-requires : goal.read_pattern_over-requires
read_pattern_over-requires c = record { limit = c.in-Ok.ensures.empty.3 }

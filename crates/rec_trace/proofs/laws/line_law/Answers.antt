use Rattle.rec_trace.proofs.LineLemmas as T
use Rattle.rec_trace.proofs.laws.line_law.Goals as goal

pub returns : goal.returns
returns c = record { value = T.value_line_law; firing = T.firing_line_law }

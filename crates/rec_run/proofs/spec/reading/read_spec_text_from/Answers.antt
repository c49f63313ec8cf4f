use Rattle.rec_run.proofs.WholeRunLemmas.{kept_text, spec_read}
use Rattle.rec_run.proofs.spec.reading.read_spec_text_from.Goals as goal

pub returns-clause-verdict : goal.returns-clause-verdict
returns-clause-verdict g c = spec_read _ c.in_ok-text.text.items c.in_ok-reading.reading c.in_ok-text.ensures.text c.in_ok-reading.ensures.verdict

pub returns-clause-source : goal.returns-clause-source
returns-clause-source g c = kept_text _ c.in_ok-text.text.items c.in_ok-reading.reading c.in_ok-text.ensures.text c.in_ok-reading.ensures.verdict
    c.in_ok-reading.ensures.source

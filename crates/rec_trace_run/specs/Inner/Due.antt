-- The specified output for the texts that were read.
use Rattle.std.specs.Prelude.{ℕ, List}
use Rattle.rx_term.specs.Store.{Store}
use Rattle.rx_run.specs.Due.{Due, done}
use Rattle.rx_run.specs.Refusals.{reading_due}
use Rattle.rx_run.specs.declared.refusal.Reading.{Reading}
use Rattle.rec_run.specs.GivenTerms.{given_by}
use Rattle.rec_run.specs.declared.spec.reading.Job.{Job}
use Rattle.rec_trace_run.specs.Traces.{Shown, traces}

-- the traces of accepted texts, with the input terms of a store
abbrev pub job_traces : Store → Shown → ℕ → Job → List ℕ
job_traces w shown n job =
    traces job.checked.source job.checked.spec (given_by w job.list) shown n

-- the specified output for the result of reading
abbrev pub trace_due : Store → Shown → ℕ → Reading Job → Due
trace_due w shown n r = reading_due (λ job. done (job_traces w shown n job)) r

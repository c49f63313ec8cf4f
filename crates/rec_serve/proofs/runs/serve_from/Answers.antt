use Rattle.std.proofs.Common.{◌≡◌, refl}
use Rattle.std.specs.Io.KnownBytes.{IsAtEnd}
use Rattle.rec_serve.proofs.CauseLemmas.{reads_second, unread_cause, unread_write}
use Rattle.rec_serve.proofs.RunLemmas.{breaks_serving, breaks_unread, good_serving, refused_serving}
use Rattle.rec_serve.proofs.runs.serve_from.Goals as goal

pub returns-in-Ok-clause-fault : goal.returns-in-Ok-clause-fault
returns-in-Ok-clause-fault g c = breaks_serving c.args.session.settings _ _ c.in-Ok.reading c.serve_reading.result _ _ c.in-Ok.ensures.verdict c.serve_reading.ensures.fault

pub returns-in-Ok-clause-requests_read : goal.returns-in-Ok-clause-requests_read
returns-in-Ok-clause-requests_read g c = good_serving (g.S.Read.remaining c.args.spec.now.reader.now) c.in-Ok.reading c.serve_reading.result
    (IsAtEnd (g.R.Read.remaining c.serve_reading.new.requests.reader.now)) c.in-Ok.ensures.verdict c.serve_reading.ensures.requests_read

pub returns-in-Ok-clause-unread : goal.returns-in-Ok-clause-unread
returns-in-Ok-clause-unread g c = refused_serving (g.S.Read.remaining c.args.spec.now.reader.now) c.in-Ok.reading
    (c.serve_reading.new.requests ≡ c.args.requests.now) c.in-Ok.ensures.verdict c.serve_reading.ensures.unread

pub returns-in-Err-clause-fault : goal.returns-in-Err-clause-fault
returns-in-Err-clause-fault g c = breaks_unread c.args.session.settings
    (g.S.Read.remaining c.args.spec.now.reader.now) (g.R.Read.remaining c.args.requests.now.reader.now) c.in-Err.fault c.unread.result (g.W.Write.contents c.args.out.now.writer.now)
    c.unread.ensures

pub returns-in-Ok-clause-read_reports : goal.returns-in-Ok-clause-read_reports
returns-in-Ok-clause-read_reports g c =
    reads_second c.args.spec.now c.read_spec_text_from.new.spec c.args.requests.now c.serve_reading.new.requests _
    c.serve_reading.result c.in-Ok.ensures.reports c.serve_reading.ensures.read_reports

pub returns-in-Err-clause-read_reports : goal.returns-in-Err-clause-read_reports
returns-in-Err-clause-read_reports g c =
    let h = c.in-Err.ensures.reports in
    (h.0, refl, unread_cause c.in-Err.fault c.unread.result c.read_spec_text_from.new.spec.refused c.args.spec.now.refused _ c.unread.ensures h.1)

pub returns-in-Err-clause-write_reports : goal.returns-in-Err-clause-write_reports
returns-in-Err-clause-write_reports g c =
    (refl, unread_write c.in-Err.fault c.unread.result c.args.out.now.refused c.unread.ensures)

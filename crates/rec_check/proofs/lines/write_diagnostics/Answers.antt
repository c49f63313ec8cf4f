use Rattle.std.proofs.Common.{subst, sym, rules, ◌∙◌}
use Rattle.std.specs.Io.KnownBytes.{Appends}
use Rattle.rx_text.proofs.AppendingLemmas.{appends_both, front_within, on_err}
use Rattle.rec_check.specs.Cursors.{IsCursor}
use Rattle.rec_check.proofs.LineLemmas.{lines_end, lines_rest, lines_turn}
use Rattle.rec_check.proofs.lines.write_diagnostics.Goals as goal

pub spot-spot-requires : goal.spot-spot-requires
spot-spot-requires g c = subst (λ t. IsCursor t c.loop-diagnostic.cursor) (sym c.loop-diagnostic.invariant.cursor.text_is) c.loop-diagnostic.invariant.cursor

pub loop-diagnostic-preserved : goal.loop-diagnostic-preserved
loop-diagnostic-preserved g c =
    let h = c.loop-diagnostic.invariant in
    let same = h.cursor.text_is in
    let at = rw same at c.spot-spot.ensures.spot in
    record {
      written = subst (Appends (g.W.Write.contents c.args.out.now.writer.now) (g.W.Write.contents c.write_diagnostic.new.out.writer.now))
          (lines_turn c.args.name.now c.args.text.now c.args.diagnostics.now c.loop-diagnostic.diagnostic-index c.diagnostic-item.result c.spot-spot.result
          c.loop-diagnostic-test.true c.diagnostic-item.is at)
          (appends_both _ _ _ _ _ h.written c.in_ok-write_diagnostic.ensures.ok);
      refused = c.in_ok-write_diagnostic.ensures.reports.1 ∙ h.refused;
      same = search rules;
      cursor = subst (λ t. IsCursor t c.spot-spot.new.self) h.cursor.text_is c.spot-spot.ensures.same;
    }

pub returns-in_err-write_diagnostic-clause-err : goal.returns-in_err-write_diagnostic-clause-err
returns-in_err-write_diagnostic-clause-err g c =
    let h = c.loop-diagnostic.invariant in
    let same = h.cursor.text_is in
    let at = rw same at c.spot-spot.ensures.spot in
    on_err c.from_residual.result
    (front_within _ _ _ _ _ _ _ (lines_rest c.args.name.now c.args.text.now c.args.diagnostics.now c.loop-diagnostic.diagnostic-index c.diagnostic-item.result
    c.spot-spot.result c.loop-diagnostic-test.true c.diagnostic-item.is at) h.written c.in_err-write_diagnostic.ensures.err)

pub returns-clause-ok : goal.returns-clause-ok
returns-clause-ok g c = subst (Appends (g.W.Write.contents c.args.out.now.writer.now) (g.W.Write.contents c.loop-diagnostic.out.writer.now))
    (lines_end c.args.name.now c.args.text.now c.args.diagnostics.now c.loop-diagnostic.diagnostic-index c.loop-diagnostic-test.false) c.loop-diagnostic.invariant.written

use Rattle.std.proofs.Common.{subst, sym, rules, ◌∙◌}
use Rattle.std.specs.Io.KnownBytes.{Appends}
use Rattle.rx_text.proofs.AppendingLemmas.{appends_both, front_within, on_err}
use Rattle.rec_uses.specs.Inner.Cursors.{IsCursor}
use Rattle.rec_uses.proofs.LineLemmas.{lines_end, lines_rest, lines_turn}
use Rattle.rec_uses.proofs.lines.write_uses.Goals as goal

pub spot-spot-requires : goal.spot-spot-requires
spot-spot-requires g c = subst (λ t. IsCursor t c.loop-used.cursor) (sym c.loop-used.invariant.cursor.text_is) c.loop-used.invariant.cursor

pub loop-used-preserved : goal.loop-used-preserved
loop-used-preserved g c =
    let h = c.loop-used.invariant in
    let text = c.args.syntax.now.source in
    let y = c.args.syntax.now.spec in
    let same = h.cursor.text_is in
    let at = rw same at c.spot-spot.ensures.spot in
    record {
      written = subst (Appends (g.W.Write.contents c.args.out.now.writer.now) (g.W.Write.contents c.write_use.new.out.writer.now))
          (lines_turn c.args.name.now text y c.args.uses.now c.loop-used.used-index _ c.spot-spot.result c.loop-used-test.true at)
          (appends_both _ _ _ _ _ h.written (c.in_ok-write_use.ensures.ok text y c.requires));
      refused = c.in_ok-write_use.ensures.reports.1 ∙ h.refused;
      same = search rules;
      cursor = subst (λ t. IsCursor t c.spot-spot.new.self) h.cursor.text_is c.spot-spot.ensures.same;
    }

pub returns-in_err-write_use-clause-err : goal.returns-in_err-write_use-clause-err
returns-in_err-write_use-clause-err g c =
    let h = c.loop-used.invariant in
    let text = c.args.syntax.now.source in
    let y = c.args.syntax.now.spec in
    let same = h.cursor.text_is in
    let at = rw same at c.spot-spot.ensures.spot in
    on_err c.from_residual.result
    (front_within _ _ _ _ _ _ _ (lines_rest c.args.name.now text y c.args.uses.now c.loop-used.used-index _ c.spot-spot.result
    c.loop-used-test.true at) h.written (c.in_err-write_use.ensures.err text y c.requires))

pub returns-clause-ok : goal.returns-clause-ok
returns-clause-ok g c = subst (Appends (g.W.Write.contents c.args.out.now.writer.now) (g.W.Write.contents c.loop-used.out.writer.now))
    (lines_end c.args.name.now c.args.syntax.now.source c.args.syntax.now.spec c.args.uses.now c.loop-used.used-index c.loop-used-test.false)
    c.loop-used.invariant.written

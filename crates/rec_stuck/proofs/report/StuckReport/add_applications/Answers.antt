use Rattle.std.proofs.Common.{◌++◌, ◌≤◌, ap, arith, length, subst, sym, ◌∙◌}
use Rattle.std.specs.Prelude.{Vec}
use Rattle.std.specs.declared.alloc.Global.{Global}
use Rattle.rx_term.specs.Walks.{held_tree}
use Rattle.rec_trace.specs.declared.lines.Spot.{Spot}
use Rattle.rec_stuck.specs.Inner.Calls.{AreSpots, line_if}
use Rattle.rec_stuck.specs.Inner.Visits.{reference}
use Rattle.rec_stuck.proofs.AddLemmas.{got-at}
use Rattle.rec_run.proofs.ReportLemmas.{told-all, told-more}
use Rattle.rec_stuck.proofs.report.StuckReport.add_applications.Goals as goal

pub loop-i-preserved : goal.loop-i-preserved
loop-i-preserved g c =
    let y = c.args.engine.now.spec in
    let w = g.B.TermBank.store c.args.engine.now.bank in
    let keys = c.args.found.now.keys in
    let i = c.loop-i.invariant in
    let old = c.args.self.now.lines.items in
    let mid = c.loop-i.self.lines.items in
    let got = got-at keys c.loop-i.i c.in-Some.reference.now 0 (sym c.in-Some.ensures.key) in
    record {
      spots = c.in_ok-add_application.ensures.spots ∙ i.spots;
      lines = λ source spots.
          let more = c.in_ok-add_application.ensures.lines source (subst (λ (v : Vec Spot Global). AreSpots source y v.items) (sym i.spots) spots)
          ∙ ap (λ k. mid ++ line_if source y (held_tree w (reference k))) (sym got.1) in
          told-more (λ n. line_if source y (held_tree w (reference n))) keys c.loop-i.i 0 old mid c.add_application.new.self.lines.items got.0
          (i.lines source spots) more;
    }

pub returns-clause-lines : goal.returns-clause-lines
returns-clause-lines g c =
    let y = c.args.engine.now.spec in
    let w = g.B.TermBank.store c.args.engine.now.bank in
    let keys = c.args.found.now.keys in
    let long = c.len-i-end.ensures.len in
    let all : length keys ≤ c.loop-i.i = omega (arith, long) in
    λ source spots. told-all (λ n. line_if source y (held_tree w (reference n))) keys c.loop-i.i c.args.self.now.lines.items c.loop-i.self.lines.items
    all (c.loop-i.invariant.lines source spots)

use Rattle.std.proofs.Common.{◌≡◌, ◌≤◌, ◌-◌, [], take}
use Rattle.std.specs.Prelude.{count_by, flat_map}
use Rattle.rx_term.specs.Tree.{none}
use Rattle.rec_syntax.specs.Syntax.{Term}
use Rattle.rec_run.specs.Reports.{StaysReady, TellsMore, value_report}
use Rattle.std.specs.Io.KnownBytes.{Appends}
use Rattle.rx_term.specs.Steps.{Keeps}
use Rattle.rx_text.specs.Output.{IsSameOutput}
use Rattle.rec_engine.specs.Engine.{SameEngine}
use Rattle.rec_run.specs.Choice.{own_chosen}
use Rattle.rec_run.specs.Depth.{KeepsDepth}
use Rattle.rec_run.specs.Output.{is_limited, own_shown, shown_of}
use Rattle.rec_run.specs.Reading.{line_text}
use Rattle.rx_run.proofs.LineFrontLemmas.{lines_of}
use Rattle.rec_run.proofs.spec.lines.write_own_lines.Given as goal

-- the lines so far were written
abbrev pub invariant-loop-i : goal.invariant-loop-i
invariant-loop-i g l = record {
  same : SameEngine l.fn.engine l.engine;
  keeps : Keeps (g.B.TermBank.store l.fn.engine.bank) (g.B.TermBank.store l.engine.bank) [];
  written : Appends (g.W.Write.contents l.fn.out.writer.now) (g.W.Write.contents l.out.writer.now)
      (lines_of (line_text l.fn.engine.spec (own_shown (shown_of l.run.settings)) l.run.settings.options.steps) (take (l.i - l.window.from) (own_chosen l.run.settings.terms l.fn.engine.spec.terms)));
  refused : l.out.refused ≡ l.fn.out.refused;
  same_output : IsSameOutput l.fn.out l.out;
  ready : StaysReady g.S.Reporter.is_ready l.fn.engine.spec l.fn.observer.reporter l.observer.reporter;
  told : TellsMore g.S.Reporter.is_ready g.S.Reporter.told l.fn.engine.spec l.fn.observer.reporter l.observer.reporter (λ source. flat_map (λ (t : Term).
      value_report g.S.Reporter.says source l.fn.engine.spec l.run.settings.options.steps (record { term = t; notes = none }))
      (take (l.i - l.window.from) (own_chosen l.run.settings.terms l.fn.engine.spec.terms)));
  few : l.limit_lines ≤ l.i - l.window.from;
  bound : KeepsDepth (l.i - l.window.from) l.run.settings.depth l.fn.engine l.engine;
  limits : l.limit_lines ≡ count_by (λ (t : Term). is_limited l.fn.engine.spec l.run.settings.form l.run.settings.options.steps (record { term = t; notes = none }))
      (take (l.i - l.window.from) (own_chosen l.run.settings.terms l.fn.engine.spec.terms));
}

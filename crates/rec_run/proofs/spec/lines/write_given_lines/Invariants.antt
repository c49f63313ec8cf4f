use Rattle.std.proofs.Common.{◌≡◌, ◌+◌, ◌≤◌, [], Some, drop, length, take}
use Rattle.std.specs.Io.KnownBytes.{Appends}
use Rattle.rx_term.specs.Steps.{Keeps}
use Rattle.rx_term.specs.Store.{tree_at}
use Rattle.rx_term.specs.Tree.{from_list, list_of}
use Rattle.rx_text.specs.Output.{IsSameOutput}
use Rattle.rec_engine.specs.Engine.{SameEngine}
use Rattle.rec_run.specs.Choice.{given_chosen}
use Rattle.rec_run.specs.Depth.{KeepsDepth}
use Rattle.rec_run.specs.GivenTerms.{given_at, given_text}
use Rattle.rec_run.specs.Output.{shown_of}
use Rattle.rx_run.proofs.LineFrontLemmas.{lines_of}
use Rattle.std.specs.Prelude.{count_by, flat_map}
use Rattle.rec_run.specs.Output.{given_task, is_limited}
use Rattle.rec_run.specs.Reports.{StaysReady, TellsMore, value_report}
use Rattle.rec_run.proofs.spec.lines.write_given_lines.Given as goal

-- the lines so far were written, and the rest of the list is left
abbrev pub invariant-loop-i : goal.invariant-loop-i
invariant-loop-i g l = record {
  same : SameEngine l.fn.engine l.engine;
  keeps : Keeps (g.B.TermBank.store l.fn.engine.bank) (g.B.TermBank.store l.engine.bank) [];
  left : tree_at (g.B.TermBank.store l.engine.bank) l.rest ≡ Some (list_of (from_list (drop (l.i + l.window.skipped) (given_at (g.B.TermBank.store l.fn.engine.bank) l.fn.list))));
  written : Appends (g.W.Write.contents l.fn.out.writer.now) (g.W.Write.contents l.out.writer.now)
      (lines_of (given_text l.fn.engine.spec (shown_of l.run.settings) l.run.settings.options.steps)
      (take l.i (given_chosen l.run.settings.terms (length l.fn.engine.spec.terms) (given_at (g.B.TermBank.store l.fn.engine.bank) l.fn.list))));
  refused : l.out.refused ≡ l.fn.out.refused;
  same_output : IsSameOutput l.fn.out l.out;
  ready : StaysReady g.S.Reporter.is_ready l.fn.engine.spec l.fn.observer.reporter l.observer.reporter;
  told : TellsMore g.S.Reporter.is_ready g.S.Reporter.told l.fn.engine.spec l.fn.observer.reporter l.observer.reporter (λ source. flat_map (λ u. value_report g.S.Reporter.says source l.fn.engine.spec l.run.settings.options.steps (given_task u))
      (take l.i (given_chosen l.run.settings.terms (length l.fn.engine.spec.terms) (given_at (g.B.TermBank.store l.fn.engine.bank) l.fn.list))));
  few : l.limit_lines ≤ l.i;
  low : l.i ≤ length (given_chosen l.run.settings.terms (length l.fn.engine.spec.terms) (given_at (g.B.TermBank.store l.fn.engine.bank) l.fn.list));
  bound : KeepsDepth l.i l.run.settings.depth l.fn.engine l.engine;
  limits : l.limit_lines ≡ count_by (λ u. is_limited l.fn.engine.spec l.run.settings.form l.run.settings.options.steps (given_task u))
      (take l.i (given_chosen l.run.settings.terms (length l.fn.engine.spec.terms) (given_at (g.B.TermBank.store l.fn.engine.bank) l.fn.list)));
}

use Rattle.std.proofs.Common.{◌≡◌, ◌-◌, ◌≤◌, ℕ, List, take}
use Rattle.std.specs.Prelude.{count_by, flat_map}
use Rattle.rx_term.specs.Tree.{none}
use Rattle.rx_text.specs.Output.{IsSameOutput}
use Rattle.rec_syntax.specs.Syntax.{Term}
use Rattle.rec_engine.specs.Engine.{SameEngine}
use Rattle.rec_run.specs.Choice.{own_chosen}
use Rattle.rec_run.specs.Output.{is_limited}
use Rattle.rec_run.specs.declared.options.ValueForm.TheVariants.{Plain}
use Rattle.rec_trace_run.specs.Inner.Pages.{IsSamePage, Prints}
use Rattle.rec_trace_run.specs.Inner.Telling.{IsTelling}
use Rattle.rec_trace_run.specs.Traces.{shown_by, task_text}
use Rattle.rec_trace_run.proofs.terms.write_own_traces.Given as goal

-- the traces so far were written
abbrev pub invariant-loop-i : goal.invariant-loop-i
invariant-loop-i g l = record {
  same : SameEngine l.fn.engine l.engine;
  printed : (source : List ℕ) → IsTelling source l.fn.engine.spec l.telling
      → Prints g.W.Write.contents l.fn.page l.page
      (flat_map (λ (t : Term). task_text source l.fn.engine.spec (shown_by l.telling.options) l.telling.options.run.steps
      (record { term = t; notes = none })) (take (l.i - l.window.from) (own_chosen l.telling.options.terms l.fn.engine.spec.terms)));
  few : l.limit_lines ≤ l.i - l.window.from;
  limits : l.limit_lines ≡ count_by (λ (t : Term). is_limited l.fn.engine.spec Plain l.telling.options.run.steps (record { term = t; notes = none }))
      (take (l.i - l.window.from) (own_chosen l.telling.options.terms l.fn.engine.spec.terms));
  refused : l.page.out.now.refused ≡ l.fn.page.out.now.refused;
  same_output : IsSameOutput l.fn.page.out.now l.page.out.now;
  same_page : IsSamePage l.fn.page l.page;
}

use Rattle.std.proofs.Common.{◌≡◌, ◌-◌, ◌≤◌, ℕ, List, length, take}
use Rattle.rx_term.specs.Tree.{Tree}
use Rattle.rx_text.specs.Output.{IsSameOutput}
use Rattle.rec_engine.specs.Engine.{SameEngine}
use Rattle.rec_run.specs.Choice.{given_chosen}
use Rattle.rec_run.specs.Output.{given_limits}
use Rattle.rec_run.specs.declared.options.ValueForm.TheVariants.{Plain}
use Rattle.rec_trace_run.specs.Inner.Pages.{IsSamePage, Prints}
use Rattle.rec_trace_run.specs.Inner.Telling.{AreGivenTerms, IsTelling, given_traces}
use Rattle.rec_trace_run.specs.Traces.{shown_by}
use Rattle.rec_trace_run.proofs.terms.write_given_traces.Given as goal

-- the traces so far were written
abbrev pub invariant-loop-i : goal.invariant-loop-i
invariant-loop-i g l = record {
  same : SameEngine l.fn.engine l.engine;
  printed : (source : List ℕ) (us : List Tree) → IsTelling source l.fn.engine.spec l.telling → AreGivenTerms l.fn.engine.spec us l.terms
      → Prints g.W.Write.contents l.fn.page l.page
      (given_traces source l.fn.engine.spec (shown_by l.telling.options) l.telling.options.run.steps (take (l.i - l.window.skipped) (given_chosen l.telling.options.terms (length l.fn.engine.spec.terms) us)));
  few : l.limit_lines ≤ l.i - l.window.skipped;
  limits : (us : List Tree) → AreGivenTerms l.fn.engine.spec us l.terms
      → l.limit_lines ≡ given_limits l.fn.engine.spec Plain l.telling.options.run.steps (take (l.i - l.window.skipped) (given_chosen l.telling.options.terms (length l.fn.engine.spec.terms) us));
  refused : l.page.out.now.refused ≡ l.fn.page.out.now.refused;
  same_output : IsSameOutput l.fn.page.out.now l.page.out.now;
  same_page : IsSamePage l.fn.page l.page;
}

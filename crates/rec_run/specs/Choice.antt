-- The chosen terms of a run as ranges of its terms, and the numbers of their lines.
use Rattle.std.specs.Prelude.{ℕ, ◌+◌, ◌-◌, ◌≡◌, ◌<◌, ◌≤◌, ◌^◌, List, [], drop, length, take}
use Rattle.rx_term.specs.Tree.{Tree}
use Rattle.rec_syntax.specs.Syntax.{Spec, Term}
use Rattle.rec_run.specs.Output.{given_limits, nth}
use Rattle.rec_run.specs.declared.options.TermChoice.{TermChoice}
use Rattle.rec_run.specs.declared.options.TermChoice.TheVariants.{All, Input, Nth}
use Rattle.rec_run.specs.declared.options.ValueForm.{ValueForm}
use Rattle.rec_run.specs.declared.spec.counts.Counts.{Counts}
use Rattle.rec_run.specs.declared.spec.window.Window.{Window}

-- own_chosen terms ts: the chosen ones of the terms `ts` of a specification
abbrev pub own_chosen : TermChoice → List Term → List Term
own_chosen All ts = ts
own_chosen Input ts = []
own_chosen (Nth k) ts = nth k ts

-- given_chosen terms own us: the chosen ones of the input terms `us`, which follow `own` terms of
-- the specification
abbrev pub given_chosen : TermChoice → ℕ → List Tree → List Tree
given_chosen All own us = us
given_chosen Input own us = us
given_chosen (Nth k) own us = nth (k - own) us

-- IsWindow terms own items w: `w` has the ranges of the chosen terms, for `own` terms of a
-- specification and at most `items` input terms
pub record IsWindow (terms : TermChoice) (own items : ℕ) (w : Window) : Type 0 where
  pub ordered : w.from ≤ w.upto
  pub within : w.upto ≤ own
  pub few : w.skipped + w.most ≤ items
  pub own_terms : (ts : List Term) → length ts ≡ own
      → own_chosen terms ts ≡ take (w.upto - w.from) (drop w.from ts)
  pub input_terms : (us : List Tree) → length us ≤ items
      → given_chosen terms own us ≡ take w.most (drop w.skipped us)

-- HasCounts form n y us counts: `counts` are the numbers of lines and of limit lines of input terms
abbrev pub HasCounts : ValueForm → ℕ → Spec → List Tree → Counts → Type 0
HasCounts form n y us counts =
    counts ≡ record { lines = length us; limit_lines = given_limits y form n us }

-- AreFew counts: the numbers of lines are less than 2^32
pub record AreFew (counts : Counts) : Type 0 where
  pub lines : counts.lines < 2 ^ 32
  pub limit_lines : counts.limit_lines < 2 ^ 32

-- The input term that violates a rule.
use Rattle.std.specs.Prelude.{ℕ, Option, None}
use Rattle.rx_text.specs.Verdict.{Verdict, Spelt}
use Rattle.rec_syntax.specs.Syntax.{Spec}
use Rattle.rec_sorts.specs.TermRules.{broken_element}

-- term_in y v: the index of the first input term that violates on its own the rule by which the
-- text is rejected; none if the text spells no tree
abbrev pub term_in : Spec → Verdict → Option ℕ
term_in y (Spelt t) = broken_element y t
term_in y v = None

-- Results of runs with a pattern, before they are written.
use Rattle.std.specs.Prelude.{ℕ, ◌≡◌, List, ◌++◌, Option, Some, None, Bool, true, false, codes}
use Rattle.std.specs.Prelude.{flat_map}
use Rattle.rx_term.specs.Tree.{Tree}
use Rattle.rx_term.specs.Store.{Store}
use Rattle.rx_term.specs.Walks.{AllHeld, HaveTrees}
use Rattle.rx_term.specs.declared.Term.{Term}
use Rattle.rx_text.specs.Verdict.{Verdict, IsVerdict}
use Rattle.rx_pattern.specs.Pattern.{unfit}
use Rattle.rx_run.specs.Due.{Due, done}
use Rattle.rx_run.specs.Refusals.{reading_due, refusal_due}
use Rattle.rx_run.specs.TermRuns.{line_at}
use Rattle.rx_run.specs.PatternRuns.{SpellsPattern, due_of_pattern, unless_unfit}
use Rattle.rx_run.specs.declared.pattern.answer.Answer.{Answer}
use Rattle.rx_run.specs.declared.pattern.answer.Answer.TheVariants as answer
use Rattle.rx_run.specs.declared.refusal.Reading.{Reading}
use Rattle.rx_run.specs.declared.refusal.Reading.TheVariants as reading

-- answer_lines w a: the lines of an answer, whose bindings are terms of store `w`
abbrev pub answer_lines : Store → Answer → List ℕ
answer_lines w answer.No = codes "no\n"
answer_lines w (answer.Yes bindings) = codes "yes\n" ++ flat_map (line_at w) bindings.items

-- answer_due w r: the specified result for an answer or a rejected input
abbrev pub answer_due : Store → Reading Answer → Due
answer_due w r = reading_due (λ a. done (answer_lines w a)) r

-- HoldsAnswer w a: the store has the terms of an answer
abbrev pub HoldsAnswer : Store → Answer → Type 0
HoldsAnswer w (answer.Yes bindings) = AllHeld w bindings.items
HoldsAnswer w answer.No = Unit {0}

-- IsAnswerHeld w r: the store has the terms of the answer, if no input was rejected
abbrev pub IsAnswerHeld : Store → Reading Answer → Type 0
IsAnswerHeld w (reading.Refused r) = Unit {0}
IsAnswerHeld w (reading.Good a) = HoldsAnswer w a

-- is_yes r: whether the pattern matches; false if an input was rejected
abbrev pub is_yes : Reading Answer → Bool
is_yes (reading.Good (answer.Yes bindings)) = true
is_yes r = false

-- IsPatternRead text r: `r` is the pattern that the text spells, or the error that rejects the text
abbrev pub IsPatternRead : List ℕ → Reading Tree → Type 0
IsPatternRead text (reading.Refused r) = (v : Verdict)
    × (IsVerdict text v × ((next : Tree → Due) → due_of_pattern next v ≡ refusal_due r))
IsPatternRead text (reading.Good p) = SpellsPattern text p

-- IsPatternOf u r: `r` is the pattern that the tree is, or the error if it is not a pattern
abbrev pub IsPatternOf : Tree → Reading Tree → Type 0
IsPatternOf u (reading.Refused r) = (next : Due) → unless_unfit (unfit u) next ≡ refusal_due r
IsPatternOf u (reading.Good p) = (p ≡ u) × (unfit u ≡ None)

-- HasElements w ts rs: `rs` are references to the elements of a tree, if it is a list without
-- annotations
abbrev pub HasElements : Store → Option (List Tree) → Option (List Term) → Type 0
HasElements w (Some ts) (Some rs) = HaveTrees w rs ts
HasElements w None None = Unit {0}
HasElements w _ _ = ⊥

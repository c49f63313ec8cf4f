-- The sides of a rule as operations.
use Rattle.std.specs.Prelude.{ℕ, ◌-◌, ◌≡◌, ◌<◌, Bool, true, List, [], ◌∷◌, ◌++◌, Some, get_or}
use Rattle.std.specs.Prelude.{if◌then◌else◌, length, reverse}
use Rattle.rx_term.specs.Store.{Store}
use Rattle.rx_term.specs.Walks.{held_tree}
use Rattle.rx_term.specs.declared.Term.{Term as Reference}
use Rattle.rec_syntax.specs.Syntax.{Rule, Spec}
use Rattle.rec_sorts.specs.Binding.{Substitution, value_of}
use Rattle.rec_sorts.specs.Numbering.{name_of}
use Rattle.rec_sorts.specs.declared.letters.Letter.{Letter}
use Rattle.rec_sorts.specs.declared.letters.Meaning.TheVariants.{Symbol, Variable}
use Rattle.rec_trace.specs.States.{Move}
use Rattle.rec_trace.specs.Inner.Sides.{HasValues, IsMatch}
use Rattle.rec_trace.specs.Rows.{IsPart, IsRow, floor_of, moves_in, stack_in}
use Rattle.rec_trace.specs.declared.row.Row.{Row}
use Rattle.rec_trace.specs.declared.row.Step.TheVariants as step

-- top_of r: the term on top
abbrev pub top_of : Row → Reference
top_of r = get_or r.values.items (length r.values.items - 1) (record { 0 = 0 })

-- CanSpread ..: a rule with the property `suits` matches the tree on top, which counts as a value,
-- with these values
abbrev pub CanSpread : Spec → Store → Row → ℕ → List Reference → (Rule → Type 0) → Type 0
CanSpread y w row i bind suits = (r : Rule) × (s : Substitution)
    × IsMatch y i (held_tree w (top_of row)) r s × HasValues w (top_of row) bind s
    × (floor_of (reverse row.steps.items) < length row.values.items) × suits r

-- CanPush ..: a rule with the property `suits` matches the tree on top with these values;
-- operations that push its parts may have been added
abbrev pub CanPush : Spec → Store → Row → ℕ → List Reference → (Rule → Type 0) → Type 0
CanPush y w row i bind suits = (r : Rule) × (s : Substitution)
    × IsMatch y i (held_tree w (top_of row)) r s × HasValues w (top_of row) bind s
    × (0 < length row.values.items) × suits r

-- HasSpread y w old new ms: the tree on top does not count as a value any more, and the moves `ms`
-- come first
pub record HasSpread (y : Spec) (w : Store) (old new : Row) (ms : List Move) : Type 0 where
  pub row : IsRow y w new
  pub stack : held_tree w (top_of old) ∷ stack_in w new ≡ stack_in w old
  pub moves : moves_in y w new ≡ ms ++ moves_in y w old

-- PushesLetter ..: the operation of a postfix item is the next one; `now` is whether an operation
-- pushes a part of the tree on top
abbrev pub PushesLetter : Spec → Store → Row → Row → ℕ → Letter → List Reference → Bool → Bool
    → Type 0
PushesLetter y w old new i l bind pushed now = elim l.meaning [
  | Symbol k ↦ (now ≡ pushed) × (new.steps.items ≡ old.steps.items ++ step.Invoke k l.count ∷ [])
  | Variable v ↦ (now ≡ true) × (t : Reference) × IsPart w (top_of old) t
      × ((r : Rule) (s : Substitution) → IsMatch y i (held_tree w (top_of old)) r s
      → HasValues w (top_of old) bind s
      → value_of s (name_of y (Variable v)) ≡ Some (held_tree w t))
      × (new.steps.items ≡ old.steps.items
      ++ (if pushed then step.Give t else step.GiveLast t (length old.values.items - 1)) ∷ [])
]

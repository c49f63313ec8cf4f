-- Calls in a store, the rules that match them, and their texts.
use Rattle.std.specs.Prelude.{ℕ, ◌≡◌, ◌<◌, ◌≤◌, List, [], Option, Some, None, false, true, filter}
use Rattle.std.specs.Prelude.{if◌then◌else◌, is_some, length, map}
use Rattle.rx_term.specs.Tree.{Tree, Trees, list_of, count_of}
use Rattle.rx_term.specs.Store.{Store, args_of, part_at}
use Rattle.rx_term.specs.Walks.{held_tree}
use Rattle.rx_term.specs.declared.Term.{Term}
use Rattle.rx_text.specs.Canon.{canon}
use Rattle.rx_text.specs.Written.{IsFront}
use Rattle.rec_syntax.specs.Syntax.{Rule, Spec}
use Rattle.rec_sorts.specs.Binding.{application, binds}
use Rattle.rec_sorts.specs.Lookup.{symbols}
use Rattle.rec_sorts.specs.Numbering.{arity_of, name_of}
use Rattle.rec_sorts.specs.declared.letters.Meaning.TheVariants.{Symbol}
use Rattle.rec_trace.specs.declared.lines.Spot.{Spot}
use Rattle.rec_stuck.specs.Stuck.{bare_of, is_call, stuck_line}
use Rattle.rec_trace.specs.Lines.{rule_spot}
use Rattle.rec_stuck.specs.declared.fitting.Call.{Call}

-- IsCalled y w c: a term is an application of the symbol with this number
pub record IsCalled (y : Spec) (w : Store) (c : Call) : Type 0 where
  pub args : Trees
  pub listed : part_at args_of w c.term ≡ Some (list_of args)
  pub declared : c.symbol < length (symbols y)
  pub bare : bare_of (held_tree w c.term) ≡ application (name_of y (Symbol c.symbol)) args
  pub counted : count_of args ≡ arity_of y c.symbol
  pub count : count_of args ≡ c.count

-- IsCallOf y w t c: `c` is the call that the term `t` is, or `None` if it is no call
abbrev pub IsCallOf : Spec → Store → Term → Option Call → Type 0
IsCallOf y w t None = is_call y (held_tree w t) ≡ false
IsCallOf y w t (Some c) = (is_call y (held_tree w t) ≡ true) × (c.term ≡ t) × IsCalled y w c

-- fitting_among y u rs: those of the rules `rs` whose left-hand sides match the tree
abbrev pub fitting_among : Spec → Tree → List Rule → List Rule
fitting_among y u rs = filter (λ (r : Rule). is_some (binds y r.left u)) rs

-- AreSpots source y spots: the locations of the rules of a specification, in its text
abbrev pub AreSpots : List ℕ → Spec → List Spot → Type 0
AreSpots source y spots = spots ≡ map (rule_spot source) y.rules

-- Begins t text: the beginning of the text of a tree: all of it, or more than 60 bytes
pub record Begins (t : Tree) (text : List ℕ) : Type 0 where
  pub front : IsFront text (canon t)
  pub whole : length text ≤ 60 → text ≡ canon t

-- line_if source y u: the line of an application, if it is a call
abbrev pub line_if : List ℕ → Spec → Tree → List ℕ
line_if source y u = if is_call y u then stuck_line source y u else []

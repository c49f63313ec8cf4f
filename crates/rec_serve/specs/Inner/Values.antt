-- The value of a request, in the store of an engine, and the annotations that it gets.
use Rattle.std.specs.Prelude.{◌≡◌, Some}
use Rattle.rx_term.specs.Tree.{Tree, annotated, annotations, none}
use Rattle.rx_term.specs.Store.{Store, tree_at}
use Rattle.rx_term.specs.declared.Term.{Term}
use Rattle.rec_engine.specs.declared.engine.Outcome.{Outcome}
use Rattle.rec_engine.specs.declared.engine.Outcome.TheVariants.{Value, Limit}
use Rattle.rec_run.specs.GivenTerms.{item_at}

-- a store has a term, and it has no annotations
abbrev pub IsBare : Store → Term → Type 0
IsBare w r = (t : Tree) × (tree_at w r ≡ Some t) × (annotations t ≡ none)

-- if the outcome is a value, the store has it, and it has no annotations
abbrev pub HasBareValue : Store → Outcome → Type 0
HasBareValue w (Value r steps) = IsBare w r
HasBareValue w Limit = Unit {0}

-- the value `r` of the store `w` with the annotations of the term `t` of the store `own`
abbrev pub value_for : Store → Term → Store → Term → Tree
value_for own t w r = annotated (item_at w r) (annotations (item_at own t))

-- The sides of a rule, in postfix form.
use Rattle.std.specs.Prelude.{ℕ, ◌≡◌, ◌<◌, true, List, [], Some, None, Contains, get_or, length}
use Rattle.std.specs.Prelude.{slice_get}
use Rattle.rx_term.specs.Tree.{Tree}
use Rattle.rx_term.specs.Store.{Store}
use Rattle.rx_term.specs.Walks.{AllHeld, held_trees}
use Rattle.rx_term.specs.declared.Term.{Term as Reference}
use Rattle.rec_syntax.specs.Syntax.{Term, Terms, Apply, Condition, Rule, Spec, subterms}
use Rattle.rec_sorts.specs.Lookup.{is_variable, mentions}
use Rattle.rec_sorts.specs.SpecRules.{heads}
use Rattle.rec_sorts.specs.Laws.{Every}
use Rattle.rec_sorts.specs.Binding.{Substitution, binds, value_of}
use Rattle.rec_sorts.specs.Numbering.{AreLetters, IsMeaning, Named, arity_of, name_of, named}
use Rattle.rec_sorts.specs.declared.letters.Letter.{Letter}
use Rattle.rec_sorts.specs.declared.letters.Meaning.TheVariants.{Symbol, Variable}
use Rattle.rec_match.specs.Rows.{values_of}
use Rattle.rec_trace.specs.States.{Move, Give, Invoke}
use Rattle.rec_trace.specs.Rows.{IsPart}
use Rattle.rec_trace.specs.declared.sides.Side.{Side}
use Rattle.rec_trace.specs.declared.sides.Side.TheVariants.{Contractum, Left, Right}

-- no_condition: a condition for the place of a missing one
abbrev pub no_condition : Condition
no_condition =
    let t : Term = Apply (record { at = 0; bytes = [] }) Terms.none in
    record { left = t; right = t; equal = true }

-- HasSide r side: the rule has this side
abbrev pub HasSide : Rule → Side → Type 0
HasSide r Contractum = Unit {0}
HasSide r (Left i) = i < length r.conditions
HasSide r (Right i) = i < length r.conditions

-- side_of r side: the term of this side
abbrev pub side_of : Rule → Side → Term
side_of r Contractum = r.right
side_of r (Left i) = (get_or r.conditions i no_condition).left
side_of r (Right i) = (get_or r.conditions i no_condition).right

-- IsMatch y i u r s: `r` is rule number `i`, and matches the tree `u` with the values `s`
pub record IsMatch (y : Spec) (i : ℕ) (u : Tree) (r : Rule) (s : Substitution) : Type 0 where
  pub rule : slice_get y.rules i ≡ Some r
  pub binds : binds y r.left u ≡ Some s

-- HasValues w whole bind s: the terms `bind` have the values of `s`, and are parts of a tree
pub record HasValues (w : Store) (whole : Reference) (bind : List Reference) (s : Substitution)
    : Type 0 where
  pub values : held_trees w bind ≡ values_of s
  pub held : AllHeld w bind
  pub within : (t : Reference) → Contains bind t → IsPart w whole t

-- IsRead y r l: a postfix item that is possible in a rule: a symbol with its number of arguments,
-- or a variable of the left-hand side
pub record IsRead (y : Spec) (r : Rule) (l : Letter) : Type 0 where
  pub meant : IsMeaning y l.meaning
  pub filled : (k : ℕ) → l.meaning ≡ Symbol k → arity_of y k ≡ l.count
  pub occurs : (v : ℕ) → l.meaning ≡ Variable v
      → mentions (heads (subterms r.left)) (name_of y (Variable v)) ≡ true

-- IsRow y r ls t: postfix items of a term of a rule
pub record IsRow (y : Spec) (r : Rule) (ls : List Letter) (t : Term) : Type 0 where
  pub letters : AreLetters y ls t
  pub read : Every (IsRead y r) ls
  pub bare : Every (λ (m : Named). is_variable y m.name ≡ true → m.arguments ≡ 0) (named t)

-- move_of s m: the move of a name: its value if it has one, otherwise a call
abbrev pub move_of : Substitution → Named → Move
move_of s m = elim (value_of s m.name) [ Some v ↦ Give v | None ↦ Invoke m.name m.arguments ]

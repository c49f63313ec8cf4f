-- Conditions and results of each operation of a tracer.
use Rattle.std.specs.Prelude.{ℕ, ◌≡◌, ◌≤◌, ◌<◌, Bool, true, false, IsSome, List, [], ◌∷◌}
use Rattle.std.specs.Prelude.{◌++◌, Option, Some, None, drop, length, map, reverse, take}
use Rattle.std.specs.Option.{option_map}
use Rattle.rx_term.specs.Tree.{Tree, none}
use Rattle.rx_term.specs.Store.{Store, tree_at}
use Rattle.rx_term.specs.Walks.{held_tree}
use Rattle.rx_term.specs.declared.Term.{Term as Reference}
use Rattle.rec_syntax.specs.Syntax.{Rule, Spec}
use Rattle.rec_sorts.specs.Binding.{NumberedMatch, Substitution, application}
use Rattle.rec_sorts.specs.Evaluation.{Call, Caller, Outcome, Done, Over, Match, Eval, first_rule}
use Rattle.rec_sorts.specs.Numbering.{named_by}
use Rattle.rec_sorts.specs.SpecRules.{fault}
use Rattle.rec_sorts.specs.declared.letters.Letter.{Letter}
use Rattle.rec_engine.specs.Flat.{taken}
use Rattle.rec_trace.specs.States.{Fits, Move, Give, Invoke, moves}
use Rattle.rec_trace.specs.Inner.Sides.{HasSide, HasValues, IsMatch, move_of}
use Rattle.rec_trace.specs.Inner.Spreading.{top_of}
use Rattle.rec_trace.specs.Lists.{IsSaved}
use Rattle.rec_trace.specs.Rows.{AreGiven, AreInRow, AreSteps, IsClear, floor_of, moves_of}
use Rattle.rec_trace.specs.Rows.{reach_of}
use Rattle.rec_trace.specs.Tracing.{IsInOrder, moves_at, on_top, result, stack_at}
use Rattle.rec_trace.specs.declared.row.Step.{Step}
use Rattle.rec_trace.specs.declared.row.Step.TheVariants as step
use Rattle.rec_trace.specs.declared.sides.Side.{Side}
use Rattle.rec_trace.specs.declared.tracer.Event.{Event}
use Rattle.rec_trace.specs.declared.tracer.Event.TheVariants as event
use Rattle.rec_trace.specs.declared.tracer.Tracer.{Tracer}

-- CanTake y w i side redex: rule number `i` matches a tree of the store, and has this side
abbrev pub CanTake : Spec → Store → ℕ → Side → Reference → Type 0
CanTake y w i side redex = (r : Rule) × (s : Substitution) × IsMatch y i (held_tree w redex) r s
    × HasSide r side × IsSome (tree_at w redex)

-- HasTop y w t: the tracer is in order, and a value is within reach
pub record HasTop (y : Spec) (w : Store) (t : Tracer) : Type 0 where
  pub order : IsInOrder y w t
  pub some : 0 < reach_of t.row

-- CanCall y w t f k: symbol `f` can be called on `k` values on top, before the operations
pub record CanCall (y : Spec) (w : Store) (t : Tracer) (f k : ℕ) : Type 0 where
  pub good : fault y ≡ None
  pub row : AreInRow y w (step.Invoke f k ∷ reverse t.row.steps.items) t.row.values.items
  pub saved : IsSaved w t.row t.saved

-- CanTurn ms d: there is a move, and `d` values are enough for it
abbrev pub CanTurn : List Move → ℕ → Type 0
CanTurn [] d = ⊥
CanTurn (Give v ∷ ms) d = Unit {0}
CanTurn (Invoke name k ∷ ms) d = k ≤ d

-- HasCalled ..: a symbol was called on the values on top, and the other moves are left
abbrev pub HasCalled : Spec → Store → Store → Tracer → Tracer → List ℕ → ℕ → Bool → Type 0
HasCalled y w w' old new name k true = (v : Tree)
    × (Call y old.left (application name (taken k (stack_at w old) none)) ≡ Done v new.left)
    × IsInOrder y w' new × (moves_at y w' new ≡ moves_at y w old)
    × (stack_at w' new ≡ v ∷ drop k (stack_at w old))
HasCalled y w w' old new name k false =
    Call y old.left (application name (taken k (stack_at w old) none)) ≡ Over

-- Moves ..: one move was made; these moves and this stack are left
abbrev pub Moves : Caller → ℕ → ℕ → List Move → List Tree → List Move → List Tree → Bool → Type 0
Moves c n n' [] st ms' st' more = ⊥
Moves c n n' (Give v ∷ ms) st ms' st' true = (n' ≡ n) × (ms' ≡ ms) × (st' ≡ v ∷ st)
Moves c n n' (Give v ∷ ms) st ms' st' false = ⊥
Moves c n n' (Invoke name k ∷ ms) st ms' st' true = (v : Tree)
    × (c n (application name (taken k st none)) ≡ Done v n') × (ms' ≡ ms) × (st' ≡ v ∷ drop k st)
Moves c n n' (Invoke name k ∷ ms) st ms' st' false =
    c n (application name (taken k st none)) ≡ Over

-- Turns ..: the next move was made
abbrev pub Turns : Caller → Spec → Store → Store → Tracer → Tracer → Bool → Type 0
Turns c y w w' old new true = IsInOrder y w' new
    × Moves c old.left new.left (moves_at y w old) (stack_at w old) (moves_at y w' new)
    (stack_at w' new) true
Turns c y w w' old new false = Moves c old.left new.left (moves_at y w old) (stack_at w old)
    (moves_at y w' new) (stack_at w' new) false

-- HasGone y w w' old new k v: the first `k` moves were made: their value is on top, and the others
-- are left
pub record HasGone (y : Spec) (w w' : Store) (old new : Tracer) (k : ℕ) (v : Tree) : Type 0 where
  pub order : IsInOrder y w' new
  pub moves : moves_at y w' new ≡ drop k (moves_at y w old)
  pub stack : stack_at w' new ≡ v ∷ stack_at w old

-- HasRun ..: the first `k` moves were made, or the step limit is too low
abbrev pub HasRun : Caller → Spec → Store → Store → Tracer → Tracer → ℕ → Bool → Type 0
HasRun c y w w' old new k true = (v : Tree)
    × (result c old.left (take k (moves_at y w old)) [] ≡ Done v new.left)
    × HasGone y w w' old new k v
HasRun c y w w' old new k false = result c old.left (take k (moves_at y w old)) [] ≡ Over

-- HasCondition y st i j: rule number `i` matches the tree on top, and has condition number `j`
abbrev pub HasCondition : Spec → List Tree → ℕ → ℕ → Type 0
HasCondition y st i j = (r : Rule) × (s : Substitution) × IsMatch y i (on_top st) r s
    × (j < length r.conditions)

-- number_of o: the number of a rule that matches
abbrev pub number_of : Option NumberedMatch → Option ℕ
number_of o = option_map (λ m. m.number) o

-- IsBound y w t i bind: if rule number `i` matches the tree on top, `bind` has its values
abbrev pub IsBound : Spec → Store → Tracer → ℕ → List Reference → Type 0
IsBound y w t i bind = (r : Rule) (s : Substitution) → IsMatch y i (on_top (stack_at w t)) r s
    → HasValues w (top_of t.row) bind s

-- HasFired ..: a rule is applied to the tree on top: the moves of its right-hand side come first,
-- and the tree is removed
pub record HasFired (y : Spec) (w w' : Store) (old new : Tracer) (r : Rule) (s : Substitution)
    (redex : Reference) : Type 0 where
  pub order : IsInOrder y w' new
  pub left_is : new.left ≡ old.left
  pub moves_are : moves_at y w' new ≡ moves s r.right ++ moves_at y w old
  pub stack : on_top (stack_at w old) ∷ stack_at w' new ≡ stack_at w old
  pub redex_is : tree_at w' redex ≡ Some (on_top (stack_at w old))

-- Comes ..: the result of a call, by the rule that was found for it: the limit, a rewrite, or the
-- tree itself as its value
abbrev pub Comes : Spec → Store → Store → Tracer → Tracer → Tree → List Tree
    → Outcome (Option Match) → Option Event → Type 0
Comes y w w' old new u st o None = (o ≡ Done None new.left) × IsInOrder y w' new
    × (moves_at y w' new ≡ moves_at y w old) × (stack_at w' new ≡ u ∷ st)
Comes y w w' old new u st o (Some event.Limit) = o ≡ Over
Comes y w w' old new u st o (Some (event.Value t)) = ⊥
Comes y w w' old new u st o (Some (event.Fired i redex)) = (m : Match)
    × (o ≡ Done (Some m) new.left) × IsMatch y i u m.rule m.values × IsInOrder y w' new
    × (moves_at y w' new ≡ moves m.values m.rule.right ++ moves_at y w old)
    × (stack_at w' new ≡ st) × (tree_at w' redex ≡ Some u)

-- ComesTo ..: the result of the call of a symbol on the values on top
abbrev pub ComesTo : Spec → Store → Store → Tracer → Tracer → List ℕ → ℕ → Option Event → Type 0
ComesTo y w w' old new name k event =
    let u = application name (taken k (stack_at w old) none) in
    Comes y w w' old new u (drop k (stack_at w old))
    (first_rule y (Eval y) y.rules old.left u) event

-- IsGroundRow y steps ls: the operations are the calls of a ground term in postfix form
pub record IsGroundRow (y : Spec) (steps : List Step) (ls : List Letter) : Type 0 where
  pub steps_are : AreSteps y (reverse steps)
  pub given : (w : Store) (vs : List Reference) → AreGiven w (reverse steps) vs
  pub floor : floor_of (reverse steps) ≡ 0
  pub clear : (n : ℕ) → Fits (map (move_of []) (map (named_by y) ls)) n 1
      → IsClear (reverse steps) n
  pub moves_are : (w : Store) → moves_of y w (reverse steps)
      ≡ map (move_of []) (map (named_by y) ls)

-- The meaning of a tracer, and the results of its steps.
use Rattle.std.specs.Prelude.{ℕ, suc, ◌≡◌, Bool, true, false, List, [], ◌∷◌, Option, Some}
use Rattle.std.specs.Prelude.{None, drop, get_or, length, slice_get}
use Rattle.rx_term.specs.Tree.{Tree, none, list_of}
use Rattle.rx_term.specs.Store.{Store, tree_at}
use Rattle.rx_term.specs.declared.Term.{Term as Reference}
use Rattle.rec_syntax.specs.Syntax.{Rule, Spec}
use Rattle.rec_sorts.specs.Binding.{Substitution, application, binds, instance}
use Rattle.rec_sorts.specs.Evaluation.{Caller, Outcome, Done, Over, Match, ◌then◌}
use Rattle.rec_sorts.specs.SpecRules.{fault}
use Rattle.rec_engine.specs.Flat.{taken}
use Rattle.rec_trace.specs.Trace.{Firing, Traced, quiet}
use Rattle.rec_trace.specs.States.{Move, Give, Invoke, Fits, ahead, firing_then, written}
use Rattle.rec_trace.specs.Rows.{IsRow, moves_in, stack_in}
use Rattle.rec_trace.specs.Lists.{IsSaved}
use Rattle.rec_trace.specs.Inner.Sides.{IsMatch}
use Rattle.rec_trace.specs.declared.tracer.Event.{Event}
use Rattle.rec_trace.specs.declared.tracer.Event.TheVariants as event
use Rattle.rec_trace.specs.declared.tracer.Found.{Found}
use Rattle.rec_trace.specs.declared.tracer.Found.TheVariants as found
use Rattle.rec_trace.specs.declared.tracer.Tracer.{Tracer}
use Rattle.rec_trace.specs.declared.tracer.Turn.{Turn}
use Rattle.rec_trace.specs.declared.tracer.Turn.TheVariants as turn

-- moves_at y w t: the moves of a tracer
abbrev pub moves_at : Spec → Store → Tracer → List Move
moves_at y w t = moves_in y w t.row

-- stack_at w t: the stack of a tracer, the top first
abbrev pub stack_at : Store → Tracer → List Tree
stack_at w t = stack_in w t.row

-- IsInOrder y w t: the specification violates no rule, the operations can be executed, and values
-- are saved in the list
pub record IsInOrder (y : Spec) (w : Store) (t : Tracer) : Type 0 where
  pub good : fault y ≡ None
  pub row : IsRow y w t.row
  pub saved : IsSaved w t.row t.saved

-- Stands y w t: a tracer is in order, and its operations leave one value in the end
pub record Stands (y : Spec) (w : Store) (t : Tracer) : Type 0 where
  pub order : IsInOrder y w t
  pub fits : Fits (moves_at y w t) (length (stack_at w t)) 1

-- rest_of y w t: the rest of the trace
abbrev pub rest_of : Spec → Store → Tracer → Traced Tree
rest_of y w t = ahead y t.left (moves_at y w t) (stack_at w t)

-- whole_of y w t: the whole term
abbrev pub whole_of : Spec → Store → Tracer → Tree
whole_of y w t = written (moves_at y w t) (stack_at w t)

-- HasFired ..: a rule was applied: the rewrite is the next one of the trace, and the rest follows
-- it
pub record HasFired (y : Spec) (w w' : Store) (old new : Tracer) (rule : ℕ)
    (redex contractum : Reference) : Type 0 where
  pub firing : Firing
  pub next : rest_of y w old ≡ firing_then firing (rest_of y w' new)
  pub rule_is : slice_get y.rules rule ≡ Some firing.found.rule
  pub redex_is : tree_at w' redex ≡ Some firing.redex
  pub contractum_is : tree_at w' contractum ≡ Some firing.contractum
  pub left_is : firing.left ≡ new.left
  pub before_is : firing.before ≡ whole_of y w old
  pub after_is : firing.after ≡ whole_of y w' new

-- Rewrites y i u v: rule number `i` rewrites `u` to `v`
pub record Rewrites (y : Spec) (i : ℕ) (u v : Tree) : Type 0 where
  pub rule : Rule
  pub values : Substitution
  pub rule_is : slice_get y.rules i ≡ Some rule
  pub binds_is : binds y rule.left u ≡ Some values
  pub result : v ≡ instance values rule.right

-- HasFiredAt ..: a rule was applied to the redex, and its contractum is not built yet
pub record HasFiredAt (y : Spec) (w w' : Store) (old new : Tracer) (rule : ℕ) (redex : Reference)
    : Type 0 where
  pub firing : Firing
  pub next : rest_of y w old ≡ firing_then firing (rest_of y w' new)
  pub rule_is : slice_get y.rules rule ≡ Some firing.found.rule
  pub redex_is : tree_at w' redex ≡ Some firing.redex
  pub rewrites : Rewrites y rule firing.redex firing.contractum
  pub left_is : firing.left ≡ new.left
  pub before_is : firing.before ≡ whole_of y w old
  pub after_is : firing.after ≡ whole_of y w' new

-- IsEvent ..: the event is the next one of the trace
abbrev pub IsEvent : Spec → Store → Store → Tracer → Tracer → Event → Type 0
IsEvent y w w' old new (event.Fired rule redex) = HasFiredAt y w w' old new rule redex
IsEvent y w w' old new (event.Value t) = (v : Tree) × (tree_at w' t ≡ Some v)
    × (rest_of y w old ≡ quiet (Done v new.left))
IsEvent y w w' old new event.Limit = rest_of y w old ≡ quiet Over

-- IsTurn ..: the result of a step of a trace: the next rewrite or, if there is none, the outcome
abbrev pub IsTurn : Spec → Store → Store → Tracer → Tracer → Turn → Type 0
IsTurn y w w' old new (turn.Fired rule redex contractum) = HasFired y w w' old new rule redex
    contractum
IsTurn y w w' old new (turn.Value t) = (v : Tree) × (tree_at w' t ≡ Some v)
    × (rest_of y w old ≡ quiet (Done v new.left))
IsTurn y w w' old new turn.Limit = rest_of y w old ≡ quiet Over

-- IsLimit turn: the step limit was too low, so the trace cannot continue
abbrev pub IsLimit : Turn → Type 0
IsLimit (turn.Fired rule redex contractum) = ⊥
IsLimit (turn.Value t) = ⊥
IsLimit turn.Limit = Unit {0}

-- result c n ms st: the outcome of moves over values, one after another: the last value on top
abbrev pub result : Caller → ℕ → List Move → List Tree → Outcome Tree
result c n [] [] = Over
result c n [] (v ∷ st) = Done v n
result c n (Give v ∷ ms) st = result c n ms (v ∷ st)
result c n (Invoke name k ∷ ms) st = c n (application name (taken k st none)) then λ v left. result
    c left ms (v ∷ drop k st)

-- Adds ..: the state is unchanged, with one more value on the stack
pub record Adds (y : Spec) (w w' : Store) (old new : Tracer) (v : Tree) : Type 0 where
  pub order : IsInOrder y w' new
  pub moves : moves_at y w' new ≡ moves_at y w old
  pub stack : stack_at w' new ≡ v ∷ stack_at w old
  pub steps : new.row.steps.items ≡ old.row.steps.items
  pub long : length new.row.values.items ≡ suc (length old.row.values.items)

-- IsSame ..: the state is unchanged
pub record IsSame (y : Spec) (w w' : Store) (old new : Tracer) : Type 0 where
  pub order : IsInOrder y w' new
  pub moves : moves_at y w' new ≡ moves_at y w old
  pub stack : stack_at w' new ≡ stack_at w old
  pub steps : new.row.steps.items ≡ old.row.steps.items
  pub long : length new.row.values.items ≡ length old.row.values.items

-- Gives ..: the outcome: its value was pushed, or the step limit is too low
abbrev pub Gives : Spec → Store → Store → Tracer → Tracer → Outcome Tree → Bool → Type 0
Gives y w w' old new o true = (v : Tree) × (o ≡ Done v new.left) × Adds y w w' old new v
Gives y w w' old new o false = o ≡ Over

-- AreAnswered ..: the outcome of conditions: whether they hold; `None` if the step limit is too low
abbrev pub AreAnswered : Spec → Store → Store → Tracer → Tracer → Outcome Bool → Option Bool
    → Type 0
AreAnswered y w w' old new o (Some answer) = (o ≡ Done answer new.left) × IsSame y w w' old new
AreAnswered y w w' old new o None = o ≡ Over

-- on_top st: the top of a stack
abbrev pub on_top : List Tree → Tree
on_top st = get_or st 0 (list_of none)

-- IsFound ..: the result of a search for a rule that applies to the tree on top
abbrev pub IsFound : Spec → Store → Store → Tracer → Tracer → Outcome (Option Match) → Found
    → Type 0
IsFound y w w' old new o (found.Rule i) = (m : Match) × (o ≡ Done (Some m) new.left)
    × IsMatch y i (on_top (stack_at w old)) m.rule m.values × IsSame y w w' old new
IsFound y w w' old new o found.Nothing = (o ≡ Done None new.left) × IsSame y w w' old new
IsFound y w w' old new o found.Limit = o ≡ Over

-- A tracer before its first step.
use Rattle.std.proofs.Common.{ℕ, arith, refl, sym, ap, subst, ◌∙◌, append-nil, length, take}
use Rattle.std.proofs.Math.Seq.{take-nil}
use Rattle.std.specs.Prelude.{◌≡◌, List, [], ◌∷◌, None, Vec, reverse}
use Rattle.std.specs.declared.alloc.Global.{Global}
use Rattle.rx_term.specs.Store.{Store}
use Rattle.rx_term.specs.Tree.{Tree}
use Rattle.rx_term.specs.Walks.{held_trees}
use Rattle.rx_term.proofs.WalkLemmas.{AllHeld-nil}
use Rattle.rec_syntax.specs.Syntax.{Spec, Term}
use Rattle.rec_sorts.specs.Binding.{tree_of}
use Rattle.rec_sorts.specs.SpecRules.{fault}
use Rattle.rec_sorts.specs.Numbering.{AreLetters}
use Rattle.rec_sorts.specs.declared.letters.Letter.{Letter}
use Rattle.rec_trace.specs.Trace.{Trace}
use Rattle.rec_trace.specs.States.{Fits, ahead, moves, written}
use Rattle.rec_trace.specs.Lists.{IsKept, listed}
use Rattle.rec_trace.specs.Rows.{AreInRow, moves_of, stacked}
use Rattle.rec_trace.specs.Inner.Turns.{IsGroundRow}
use Rattle.rec_trace.specs.Tracing.{Stands, moves_at, rest_of, stack_at, whole_of}
use Rattle.rec_trace.specs.declared.row.Row.{Row}
use Rattle.rec_trace.specs.declared.row.Step.{Step}
use Rattle.rec_trace.specs.declared.row.Step.TheVariants as step
use Rattle.rec_trace.specs.declared.saved.Saved.{Saved}
use Rattle.rec_trace.specs.declared.tracer.Tracer.{Tracer}
use Rattle.rec_trace.proofs.PushLemmas.{ground-moves}
use Rattle.rec_trace.proofs.RunLemmas.{fits-one}
use Rattle.rec_trace.proofs.StateLemmas.{state_law, written-moves}

-- steps over no value, and no value is saved
pub record IsNew (w : Store) (t : Tracer) (steps : List Step) (n : ℕ) : Type 0 where
  pub steps_are : t.row.steps.items ≡ steps
  pub values : t.row.values.items ≡ []
  pub low : t.row.low ≡ 0
  pub kept : IsKept w t.saved.list
  pub none : listed w t.saved.list ≡ []
  pub count : t.saved.count ≡ 0
  pub left_is : t.left ≡ n

pub is-new : (w : Store) (t : Tracer) (row : Row) (steps : Vec Step Global) (s : Saved) (n : ℕ) → t.row ≡ row → t.saved ≡ s → t.left ≡ n
    → row.steps ≡ steps → row.values.items ≡ [] → row.low ≡ 0 → IsKept w s.list → listed w s.list ≡ [] → s.count ≡ 0 → IsNew w t steps.items n
is-new w t row steps s n row_is saved_is left_is steps_are values low kept none count = record {
  steps_are = ap (λ (r : Row). r.steps.items) row_is ∙ ap (λ (v : Vec Step Global). v.items) steps_are;
  values = ap (λ (r : Row). r.values.items) row_is ∙ values;
  low = ap (λ (r : Row). r.low) row_is ∙ low;
  kept = subst (λ (z : Saved). IsKept w z.list) (sym saved_is) kept;
  none = ap (λ (z : Saved). listed w z.list) saved_is ∙ none;
  count = ap (λ (z : Saved). z.count) saved_is ∙ count;
  left_is = left_is;
}

-- over no value the stack is empty
no-stack : (ss : List Step) → stacked ss [] ≡ []
no-stack [] = refl
no-stack (step.Give t ∷ ss) = no-stack ss
no-stack (step.GiveLast t at ∷ ss) = ap (stacked ss) (take-nil at) ∙ no-stack ss
no-stack (step.Invoke f k ∷ ss) = no-stack ss

-- the moves of a ground term's steps
ground-are : (y : Spec) (w : Store) (steps : List Step) (ls : List Letter) (term : Term) (t : Tracer) → t.row.steps.items ≡ steps
    → IsGroundRow y steps ls → AreLetters y ls term → moves_at y w t ≡ moves [] term
ground-are y w steps ls term t are row letters = ap (λ ss. moves_of y w (reverse ss)) are ∙ row.moves_are w ∙ ground-moves y ls term letters

ground-row : (y : Spec) (w : Store) (steps : List Step) (ls : List Letter) (term : Term) → IsGroundRow y steps ls → AreLetters y ls term
    → AreInRow y w (reverse steps) []
ground-row y w steps ls term row letters = record {
  held = AllHeld-nil w;
  steps = row.steps_are;
  given = row.given w [];
  floor = (let z = row.floor in omega (arith, z));
  clear = row.clear 0 (subst (λ ms. Fits ms 0 1) (sym (ground-moves y ls term letters)) (fits-one [] term));
}

-- the trace of a term begins
pub record Begins (y : Spec) (w : Store) (t : Tracer) (n : ℕ) (term : Term) : Type 0 where
  pub stands : Stands y w t
  pub begins : rest_of y w t ≡ Trace y n term
  pub whole : whole_of y w t ≡ tree_of term

-- the first state
pub new-stands : (y : Spec) (w : Store) (t : Tracer) (steps : List Step) (n : ℕ) (ls : List Letter) (term : Term) → fault y ≡ None → IsNew w t steps n
    → IsGroundRow y steps ls → AreLetters y ls term → Begins y w t n term
new-stands y w t steps n ls term good new row letters =
    let are = ground-are y w steps ls term t new.steps_are row letters in
    let stack : stack_at w t ≡ [] = ap (λ vs. held_trees w (stacked (reverse t.row.steps.items) vs)) new.values
    ∙ ap (held_trees w) (no-stack (reverse t.row.steps.items)) in
    let low = new.low in
    let count = new.count in
    record {
      stands = record {
        order = record {
          good = good;
          row = subst (λ vs. AreInRow y w (reverse t.row.steps.items) vs) (sym new.values)
              (subst (λ ss. AreInRow y w (reverse ss) []) (sym new.steps_are) (ground-row y w steps ls term row letters));
          saved = record {
            kept = new.kept;
            counted = ap length new.none ∙ sym count;
            low = omega (arith, low);
            within = omega (arith, low);
            same = ap (λ k. held_trees w (take k t.row.values.items)) low ∙ sym (ap (λ k. take k (reverse (listed w t.saved.list))) low);
          };
        };
        fits = subst (λ ms. Fits ms (length (stack_at w t)) 1) (sym are)
            (subst (λ (st : List Tree). Fits (moves [] term) (length st) 1) (sym stack) (fits-one [] term));
      };
      begins = ap (λ ms. ahead y t.left ms (stack_at w t)) are ∙ ap (ahead y t.left (moves [] term)) stack
          ∙ ap (λ k. ahead y k (moves [] term) []) new.left_is ∙ (state_law y).begins n term;
      whole = ap (λ ms. written ms (stack_at w t)) are ∙ ap (written (moves [] term)) stack
          ∙ ap (λ ms. written ms []) (sym (append-nil (moves [] term))) ∙ written-moves [] term [] [];
    }

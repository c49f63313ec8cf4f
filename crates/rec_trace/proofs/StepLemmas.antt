-- A step of the machine leads to a state of the same trace, or is the trace's next firing.
use Rattle.std.proofs.Common.{◌-◌, ◌<◌, ◌≤◌, ℕ, arith, refl, sym, ap, subst, ◌∙◌, length, drop, take, length-drop, inl, inr}
use Rattle.std.specs.Prelude.{suc, ◌≡◌, ◌⊎◌, List, [], ◌∷◌, ◌++◌, Some, None, Vec, reverse}
use Rattle.std.specs.declared.alloc.Global.{Global}
use Rattle.std.proofs.lemmas.List.{length-reverse}
use Rattle.rx_term.specs.Tree.{Tree, none}
use Rattle.rx_term.specs.Store.{Store, tree_at}
use Rattle.rx_term.specs.Walks.{held_tree, held_trees}
use Rattle.rx_term.specs.declared.Term.{Term as Reference}
use Rattle.rec_syntax.specs.Syntax.{Spec}
use Rattle.rec_sorts.specs.Binding.{application}
use Rattle.rec_sorts.specs.Evaluation.{Done, Eval, first_rule}
use Rattle.rec_sorts.specs.Numbering.{name_of}
use Rattle.rec_sorts.specs.declared.letters.Meaning.TheVariants.{Symbol}
use Rattle.rec_match.proofs.RunLemmas.{trees_length}
use Rattle.rec_engine.specs.Flat.{taken}
use Rattle.rec_trace.specs.Trace.{firing, quiet}
use Rattle.rec_trace.specs.States.{Fits, Give, Invoke, after_call, ahead, firing_then, moves, written}
use Rattle.rec_trace.specs.Lists.{IsSaved}
use Rattle.rec_trace.specs.Rows.{AreInRow, floor_of, moves_of, reach_of, stacked}
use Rattle.rec_trace.specs.Tracing.{HasFired, HasFiredAt, IsEvent, IsInOrder, Rewrites, Stands}
use Rattle.rec_trace.specs.Tracing.{moves_at, on_top, rest_of, stack_at, whole_of}
use Rattle.rec_trace.specs.Inner.Turns.{ComesTo}
use Rattle.rec_trace.specs.declared.row.Step.{Step}
use Rattle.rec_trace.specs.declared.row.Step.TheVariants as step
use Rattle.rec_trace.specs.declared.tracer.Event.{Event}
use Rattle.rec_trace.specs.declared.tracer.Event.TheVariants as event
use Rattle.rec_trace.specs.declared.tracer.Tracer.{Tracer}
use Rattle.rec_trace.proofs.RunLemmas.{fits-moves}
use Rattle.rec_trace.proofs.SavedLemmas.{saved-lowers}
use Rattle.rec_trace.proofs.StateLemmas.{state_law, written-moves}
use Rattle.rec_trace.proofs.TopLemmas.{IsTop}
use Rattle.rec_trace.proofs.TurnLemmas.{HasGiven}

-- a state of the same trace
pub record SameTrace (y : Spec) (w w' : Store) (a b : Tracer) : Type 0 where
  pub stands : Stands y w' b
  pub rest : rest_of y w' b ≡ rest_of y w a
  pub whole : whole_of y w' b ≡ whole_of y w a

pub trace-more : (y : Spec) (w w1 w2 : Store) (a b d : Tracer) → SameTrace y w w1 a b → SameTrace y w1 w2 b d → SameTrace y w w2 a d
trace-more y w w1 w2 a b d p q = record { stands = q.stands; rest = q.rest ∙ p.rest; whole = q.whole ∙ p.whole }

-- a value was given
pub step-gives : (y : Spec) (w : Store) (a b : Tracer) (t : Reference) → Stands y w a → HasGiven y w a b t → SameTrace y w w a b
step-gives y w a b t s h =
    let fits : Fits (Give (held_tree w t) ∷ moves_at y w b) (length (stack_at w a)) 1 = subst (λ ms. Fits ms (length (stack_at w a)) 1) h.moves s.fits in
    record {
      stands = record { order = h.order; fits = subst (λ (st : List Tree). Fits (moves_at y w b) (length st) 1) (sym h.stack) fits };
      rest = ap (λ n. ahead y n (moves_at y w b) (stack_at w b)) h.left ∙ ap (ahead y a.left (moves_at y w b)) h.stack
          ∙ sym (ap (λ ms. ahead y a.left ms (stack_at w a)) h.moves);
      whole = ap (written (moves_at y w b)) h.stack ∙ sym (ap (λ ms. written ms (stack_at w a)) h.moves);
    }

-- a symbol is to be called
pub record IsCalling (y : Spec) (w : Store) (a b : Tracer) (f k : ℕ) : Type 0 where
  pub row : AreInRow y w (step.Invoke f k ∷ reverse b.row.steps.items) b.row.values.items
  pub saved : IsSaved w b.row b.saved
  pub moves : moves_at y w a ≡ Invoke (name_of y (Symbol f)) k ∷ moves_at y w b
  pub stack : stack_at w b ≡ stack_at w a

pub is-calling : (y : Spec) (w : Store) (a b : Tracer) (f k : ℕ) → IsInOrder y w a
    → reverse a.row.steps.items ≡ step.Invoke f k ∷ reverse b.row.steps.items → b.row.values ≡ a.row.values → b.row.low ≡ a.row.low
    → b.saved ≡ a.saved → IsCalling y w a b f k
is-calling y w a b f k order turned values low saved = record {
  row = subst (λ (z : Vec Reference Global). AreInRow y w (step.Invoke f k ∷ reverse b.row.steps.items) z.items) (sym values)
      (subst (λ ss. AreInRow y w ss a.row.values.items) turned order.row);
  saved = saved-lowers w a.row b.row b.saved (subst (IsSaved w a.row) (sym saved) order.saved) (record {
    low = omega (arith, low);
    within = λ le. subst (λ (z : Vec Reference Global). b.row.low ≤ length z.items) (sym values) (omega (arith, low, le));
    values = ap (λ (z : Vec Reference Global). take b.row.low z.items) values;
  });
  moves = ap (moves_of y w) turned;
  stack = ap (λ (z : Vec Reference Global). held_trees w (stacked (reverse b.row.steps.items) z.items)) values
      ∙ sym (ap (λ ss. held_trees w (stacked ss a.row.values.items)) turned);
}

-- the moves behind the call fit what it leaves
fits-behind : (y : Spec) (w : Store) (a b : Tracer) (f k : ℕ) → Stands y w a → IsCalling y w a b f k
    → Fits (moves_at y w b) (suc (length (stack_at w b) - k)) 1
fits-behind y w a b f k s h =
    let fits : Fits (Invoke (name_of y (Symbol f)) k ∷ moves_at y w b) (length (stack_at w b)) 1 =
    subst (λ (st : List Tree). Fits (Invoke (name_of y (Symbol f)) k ∷ moves_at y w b) (length st) 1) (sym h.stack)
    (subst (λ ms. Fits ms (length (stack_at w a)) 1) h.moves s.fits) in
    fits.1

module _ (y : Spec) (w w1 : Store) (a b d : Tracer) (f k : ℕ) (s : Stands y w a) (left_same : b.left ≡ a.left)
    (h : IsCalling y w a b f k) where
  called-is : rest_of y w a ≡ after_call y (moves_at y w b) (drop k (stack_at w b)) (application (name_of y (Symbol f)) (taken k (stack_at w b) none))
      (first_rule y (Eval y) y.rules b.left (application (name_of y (Symbol f)) (taken k (stack_at w b) none)))
  called-is =
      ap (λ n. ahead y n (moves_at y w a) (stack_at w a)) (sym left_same) ∙ ap (ahead y b.left (moves_at y w a)) (sym h.stack)
      ∙ ap (λ ms. ahead y b.left ms (stack_at w b)) h.moves
      ∙ (state_law y).calls b.left (name_of y (Symbol f)) k (moves_at y w b) (stack_at w b)

  whole-is : whole_of y w a ≡ written (moves_at y w b) (application (name_of y (Symbol f)) (taken k (stack_at w b) none) ∷ drop k (stack_at w b))
  whole-is = ap (written (moves_at y w a)) (sym h.stack) ∙ ap (λ ms. written ms (stack_at w b)) h.moves

  pub step-ends : ComesTo y w w1 b d (name_of y (Symbol f)) k None → SameTrace y w w1 a d
  step-ends c =
      let long : length (drop k (stack_at w b)) ≡ length (stack_at w b) - k = length-drop k (stack_at w b) in
      record {
        stands = record {
          order = c.1;
          fits = subst (λ ms. Fits ms (length (stack_at w1 d)) 1) (sym c.2)
              (subst (λ (st : List Tree). Fits (moves_at y w b) (length st) 1) (sym c.3)
              (subst (λ n. Fits (moves_at y w b) (suc n) 1) (sym long) (fits-behind y w a b f k s h)));
        };
        rest =
            ap (λ ms. ahead y d.left ms (stack_at w1 d)) c.2 ∙ ap (ahead y d.left (moves_at y w b)) c.3
            ∙ sym (called-is ∙ ap (after_call y (moves_at y w b) (drop k (stack_at w b))
            (application (name_of y (Symbol f)) (taken k (stack_at w b) none))) c.0);
        whole = ap (λ ms. written ms (stack_at w1 d)) c.2 ∙ ap (written (moves_at y w b)) c.3 ∙ sym whole-is;
      }

  pub step-comes : (t : Event) → ComesTo y w w1 b d (name_of y (Symbol f)) k (Some t) → IsEvent y w w1 a d t × ((t ≡ event.Limit) ⊎ Stands y w1 d)
  step-comes (event.Fired rule redex) c =
      let long : length (drop k (stack_at w b)) ≡ length (stack_at w b) - k = length-drop k (stack_at w b) in (
        record {
          firing = firing (λ v. written (moves_at y w b) (v ∷ drop k (stack_at w b)))
              (application (name_of y (Symbol f)) (taken k (stack_at w b) none)) c.0 d.left;
          next =
              called-is ∙ ap (after_call y (moves_at y w b) (drop k (stack_at w b)) (application (name_of y (Symbol f)) (taken k (stack_at w b) none))) c.1
              ∙ ap (λ st. firing_then (firing (λ v. written (moves_at y w b) (v ∷ drop k (stack_at w b)))
              (application (name_of y (Symbol f)) (taken k (stack_at w b) none)) c.0 d.left)
              (ahead y d.left (moves c.0.values c.0.rule.right ++ moves_at y w b) st)) (sym c.5)
              ∙ ap (λ ms. firing_then (firing (λ v. written (moves_at y w b) (v ∷ drop k (stack_at w b)))
              (application (name_of y (Symbol f)) (taken k (stack_at w b) none)) c.0 d.left) (ahead y d.left ms (stack_at w1 d))) (sym c.4);
          rule_is = c.2.rule;
          redex_is = c.6;
          rewrites = record { rule = c.0.rule; values = c.0.values; rule_is = c.2.rule; binds_is = c.2.binds; result = refl };
          left_is = refl;
          before_is = sym whole-is;
          after_is =
              sym (written-moves c.0.values c.0.rule.right (moves_at y w b) (drop k (stack_at w b)))
              ∙ ap (written (moves c.0.values c.0.rule.right ++ moves_at y w b)) (sym c.5) ∙ ap (λ ms. written ms (stack_at w1 d)) (sym c.4);
        },
        inr (record {
          order = c.3;
          fits = subst (λ ms. Fits ms (length (stack_at w1 d)) 1) (sym c.4)
              (fits-moves c.0.values c.0.rule.right (moves_at y w b) (length (stack_at w1 d)) 1
              (subst (λ (st : List Tree). Fits (moves_at y w b) (suc (length st)) 1) (sym c.5)
              (subst (λ n. Fits (moves_at y w b) (suc n) 1) (sym long) (fits-behind y w a b f k s h))));
        }),
      )
  step-comes (event.Value t) c = absurd c
  step-comes event.Limit c = (
    called-is
        ∙ ap (after_call y (moves_at y w b) (drop k (stack_at w b)) (application (name_of y (Symbol f)) (taken k (stack_at w b) none))) c,
    inl refl,
  )

-- what comes next for a state of the same trace comes next in the trace
pub event-since : (y : Spec) (w w1 w2 : Store) (a b d : Tracer) (t : Event) → SameTrace y w w1 a b → IsEvent y w1 w2 b d t → IsEvent y w w2 a d t
event-since y w w1 w2 a b d (event.Fired rule redex) s h = record {
  firing = h.firing;
  next = sym s.rest ∙ h.next;
  rule_is = h.rule_is;
  redex_is = h.redex_is;
  rewrites = h.rewrites;
  left_is = h.left_is;
  before_is = h.before_is ∙ s.whole;
  after_is = h.after_is;
}
event-since y w w1 w2 a b d (event.Value t) s h = (h.0, h.1, sym s.rest ∙ h.2)
event-since y w w1 w2 a b d event.Limit s h = sym s.rest ∙ h

-- and where it is a firing, it is known what the redex became
pub event-fired : (y : Spec) (w w1 w2 : Store) (a b d : Tracer) (t : Event) (rule : ℕ) (old redex contractum : Reference) → t ≡ event.Fired rule old
    → IsEvent y w w1 a b t → d.left ≡ b.left → rest_of y w2 d ≡ rest_of y w1 b → whole_of y w2 d ≡ whole_of y w1 b → tree_at w2 redex ≡ tree_at w1 old
    → ((u v : Tree) → tree_at w1 old ≡ Some u → Rewrites y rule u v → tree_at w2 contractum ≡ Some v)
    → HasFired y w w2 a d rule redex contractum
event-fired y w w1 w2 a b d t rule old redex contractum is comes left rest whole same made =
    let h : HasFiredAt y w w1 a b rule old = subst (IsEvent y w w1 a b) is comes in
    record {
      firing = h.firing;
      next = h.next ∙ ap (firing_then h.firing) (sym rest);
      rule_is = h.rule_is;
      redex_is = same ∙ h.redex_is;
      contractum_is = made h.firing.redex h.firing.contractum h.redex_is h.rewrites;
      left_is = h.left_is ∙ sym left;
      before_is = h.before_is;
      after_is = h.after_is ∙ sym whole;
    }

-- at the end the value on top is the term's
pub step-value : (y : Spec) (w : Store) (a : Tracer) (t : Reference) → Stands y w a → a.row.steps.items ≡ [] → IsTop w a t
    → IsEvent y w w a a (event.Value t)
step-value y w a t s empty top = (
  on_top (stack_at w a),
  top.held,
  ap (λ ms. ahead y a.left ms (stack_at w a)) ended ∙ by (stack_at w a) (subst (λ ms. Fits ms (length (stack_at w a)) 1) ended s.fits),
)
  where
    ended : moves_at y w a ≡ []
    ended = ap (λ (xs : List Step). moves_of y w (reverse xs)) empty

    by : (st : List Tree) → length st ≡ 1 → ahead y a.left [] st ≡ quiet (Done (on_top st) a.left)
    by [] e = let no : ⊥ = omega (arith, e) in absurd no
    by (v ∷ st) e = refl

-- no step is left
pub no-item : (xs : List Step) → length xs ≡ 0 → xs ≡ []
no-item [] e = refl
no-item (x ∷ xs) e = let no : ⊥ = omega (arith, e) in absurd no

-- then there is one value
pub some-value-left : (y : Spec) (w : Store) (a : Tracer) → Stands y w a → a.row.steps.items ≡ [] → 0 < reach_of a.row
some-value-left y w a s empty =
    let one : length (stack_at w a) ≡ 1 =
    subst (λ ms. Fits ms (length (stack_at w a)) 1) (ap (λ (xs : List Step). moves_of y w (reverse xs)) empty) s.fits in
    let long : length (stack_at w a) ≡ length a.row.values.items =
    ap (λ (xs : List Step). length (held_trees w (stacked (reverse xs) a.row.values.items))) empty ∙ trees_length w (reverse a.row.values.items)
    ∙ length-reverse a.row.values.items in
    subst (λ (xs : List Step). 0 < length a.row.values.items - floor_of (reverse xs)) (sym empty) (omega (arith, one, long))

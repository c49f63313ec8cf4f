-- What a step does to the values of a tracer.
use Rattle.std.proofs.Common.{◌-◌, ◌<◌, ◌≤◌, ℕ, arith, refl, sym, ap, subst, ◌∙◌, length, length-append, length-drop, drop, get_or, take}
use Rattle.std.specs.Prelude.{suc, ◌≡◌, true, Err, IfOk, Ok, Result, List, [], ◌∷◌, ◌++◌, Some, None, IsSome, Vec, reverse}
use Rattle.std.specs.declared.alloc.Global.{Global}
use Rattle.std.proofs.Math.Seq.{drop-append_seam, get_or-append_seam, take-length}
use Rattle.std.proofs.lemmas.List.{length-reverse, map-append, take-append-le}
use Rattle.rx_term.specs.Tree.{Tree, none}
use Rattle.rx_term.specs.Store.{Store, tree_at}
use Rattle.rx_term.specs.Steps.{Keeps}
use Rattle.rx_term.specs.Walks.{AllHeld, held_tree, held_trees}
use Rattle.rx_term.specs.declared.Term.{Term as Reference}
use Rattle.rec_syntax.specs.Syntax.{Spec}
use Rattle.rec_sorts.specs.Binding.{application}
use Rattle.rec_sorts.specs.Evaluation.{Caller}
use Rattle.rec_sorts.specs.Numbering.{name_of}
use Rattle.rec_sorts.specs.SpecRules.{fault}
use Rattle.rec_sorts.specs.declared.letters.Meaning.TheVariants.{Symbol}
use Rattle.rec_match.proofs.RunLemmas.{trees_length}
use Rattle.rec_engine.specs.Flat.{taken}
use Rattle.rec_engine.specs.Machine.{called}
use Rattle.rec_trace.specs.States.{Give, Invoke, Move}
use Rattle.rec_trace.specs.Lists.{IsSaved, Stays}
use Rattle.rec_trace.specs.Inner.Saving.{Saves}
use Rattle.rec_trace.specs.Inner.Spreading.{HasSpread, top_of}
use Rattle.rec_trace.specs.Inner.Turns.{Moves, Turns}
use Rattle.rec_trace.specs.Rows.{AreInRow, IsClear, KeepsParts, Lowers, floor_of, moves_of, reach_of, stacked}
use Rattle.rec_trace.specs.Tracing.{IsInOrder, moves_at, stack_at}
use Rattle.rec_trace.specs.declared.row.Row.{Row}
use Rattle.rec_trace.specs.declared.row.Step.{Step}
use Rattle.rec_trace.specs.declared.row.Step.TheVariants as step
use Rattle.rec_trace.specs.declared.saved.Saved.{Saved}
use Rattle.rec_trace.specs.declared.tracer.Tracer.{Tracer}
use Rattle.rec_trace.proofs.RowLemmas.{OneMore, arguments-on-top, cut-values, gave, gave-last, put-on, replaced, row-stays}
use Rattle.rec_trace.proofs.RunLemmas.{HasEntered}
use Rattle.rec_trace.proofs.SavedLemmas.{saved-keeps, saved-lowers, saved-stays}

-- where a value comes on top, those below stay
pub lowers-more : (old new : Row) (t : Reference) → new.low ≡ old.low → old.low ≤ length old.values.items
    → new.values.items ≡ old.values.items ++ t ∷ [] → Lowers old new
lowers-more old new t low within values =
    let long = ap length values ∙ length-append old.values.items (t ∷ []) in
    record {
      low = omega (arith, low);
      within = λ le. (omega (arith, low, le, long));
      values = ap (take new.low) values ∙ take-append-le new.low old.values.items (t ∷ []) (omega (arith, low, within));
    }

-- a value that was given came on top
pub record HasGiven (y : Spec) (w : Store) (old new : Tracer) (t : Reference) : Type 0 where
  pub order : IsInOrder y w new
  pub moves : moves_at y w old ≡ Give (held_tree w t) ∷ moves_at y w new
  pub stack : stack_at w new ≡ held_tree w t ∷ stack_at w old
  pub left : new.left ≡ old.left

has-given : (y : Spec) (w : Store) (old new : Tracer) (s : Step) (t : Reference) → IsInOrder y w old
    → reverse old.row.steps.items ≡ s ∷ reverse new.row.steps.items
    → moves_of y w (s ∷ reverse new.row.steps.items) ≡ Give (held_tree w t) ∷ moves_at y w new
    → OneMore y w (s ∷ reverse new.row.steps.items) (reverse new.row.steps.items) old.row.values.items new.row.values.items t
    → IsSaved w new.row new.saved → new.left ≡ old.left → HasGiven y w old new t
has-given y w old new s t order turned moves more saved left = record {
  order = record { good = order.good; row = more.row; saved = saved };
  moves = ap (moves_of y w) turned ∙ moves;
  stack = ap (held_trees w) more.stack ∙ ap (λ ss. held_tree w t ∷ held_trees w (stacked ss old.row.values.items)) (sym turned);
  left = left;
}

pub given : (y : Spec) (w : Store) (old new : Tracer) (t : Reference) → IsInOrder y w old
    → reverse old.row.steps.items ≡ step.Give t ∷ reverse new.row.steps.items → new.row.values.items ≡ old.row.values.items ++ t ∷ []
    → new.row.low ≡ old.row.low → new.saved ≡ old.saved → new.left ≡ old.left → HasGiven y w old new t
given y w old new t order turned values low saved left =
    let row = subst (λ ss. AreInRow y w ss old.row.values.items) turned order.row in
    has-given y w old new (step.Give t) t order turned refl
    (subst (λ vs. OneMore y w (step.Give t ∷ reverse new.row.steps.items) (reverse new.row.steps.items) old.row.values.items vs t) (sym values)
    (gave y w (reverse new.row.steps.items) old.row.values.items t row))
    (subst (IsSaved w new.row) (sym saved) (saved-lowers w old.row new.row old.saved order.saved
    (lowers-more old.row new.row t low order.saved.within values))) left

pub given-last : (y : Spec) (w : Store) (old new : Tracer) (t : Reference) (at : ℕ) → IsInOrder y w old
    → reverse old.row.steps.items ≡ step.GiveLast t at ∷ reverse new.row.steps.items
    → new.row.values.items ≡ take at old.row.values.items ++ (drop (suc at) old.row.values.items ++ t ∷ [])
    → Lowers old.row new.row → new.saved ≡ old.saved → new.left ≡ old.left → HasGiven y w old new t
given-last y w old new t at order turned values lowers saved left =
    let row = subst (λ ss. AreInRow y w ss old.row.values.items) turned order.row in
    has-given y w old new (step.GiveLast t at) t order turned refl
    (subst (λ vs. OneMore y w (step.GiveLast t at ∷ reverse new.row.steps.items) (reverse new.row.steps.items) old.row.values.items vs t) (sym values)
    (gave-last y w (reverse new.row.steps.items) old.row.values.items t at row))
    (subst (IsSaved w new.row) (sym saved) (saved-lowers w old.row new.row old.saved order.saved lowers)) left

-- the values on top, as many as a symbol takes, gave way to its value
pub record HasReplaced (y : Spec) (w w' : Store) (old new : Tracer) (k : ℕ) (v : Tree) : Type 0 where
  pub order : IsInOrder y w' new
  pub moves : moves_at y w' new ≡ moves_at y w old
  pub stack : stack_at w' new ≡ v ∷ drop k (stack_at w old)

pub has-replaced : (y : Spec) (w w' : Store) (old new : Tracer) (f k : ℕ) (t : Reference) (v : Tree) → fault y ≡ None
    → AreInRow y w (step.Invoke f k ∷ reverse old.row.steps.items) old.row.values.items
    → KeepsParts w w' (take (length old.row.values.items - k) old.row.values.items) → tree_at w' t ≡ Some v → new.row.steps ≡ old.row.steps
    → new.row.values.items ≡ take (length old.row.values.items - k) old.row.values.items ++ t ∷ [] → IsSaved w' new.row new.saved
    → HasReplaced y w w' old new k v
has-replaced y w w' old new f k t v good row keeps is steps values saved =
    let r = replaced y w w' f k (reverse old.row.steps.items) old.row.values.items t v row keeps is in
    let turned : reverse new.row.steps.items ≡ reverse old.row.steps.items = ap (λ (z : Vec Step Global). reverse z.items) steps in
    record {
      order = record {
        good = good;
        row = subst (λ ss. AreInRow y w' ss new.row.values.items) (sym turned) (subst (AreInRow y w' (reverse old.row.steps.items)) (sym values) r.row);
        saved = saved;
      };
      moves = ap (moves_of y w') turned ∙ r.moves;
      stack = ap (λ ss. held_trees w' (stacked ss new.row.values.items)) turned
          ∙ ap (λ vs. held_trees w' (stacked (reverse old.row.steps.items) vs)) values ∙ r.stack;
    }

-- the two values on top went
pub record HasCut (y : Spec) (w : Store) (old new : Tracer) : Type 0 where
  pub order : IsInOrder y w new
  pub stack : stack_at w new ≡ drop 2 (stack_at w old)

pub has-cut : (y : Spec) (w : Store) (old new : Tracer) (n : ℕ) → IsInOrder y w old → 1 < reach_of old.row
    → IsClear (reverse old.row.steps.items) (length old.row.values.items - 2) → n ≡ length old.row.values.items - 2
    → new.row.values.items ≡ take n old.row.values.items → new.row.steps ≡ old.row.steps → Lowers old.row new.row → new.saved ≡ old.saved
    → HasCut y w old new
has-cut y w old new n order two clear is values steps lowers saved =
    let vs = old.row.values.items in
    let turned : reverse new.row.steps.items ≡ reverse old.row.steps.items = ap (λ (z : Vec Step Global). reverse z.items) steps in
    let cut = cut-values y w (reverse old.row.steps.items) old.row.values.items n order.row (omega (arith, is)) (omega (arith, is, two))
    (subst (IsClear (reverse old.row.steps.items)) (sym is) clear) in
    let low = held_trees w (stacked (reverse old.row.steps.items) (take n vs)) in
    let gone = held_trees w (reverse (drop n vs)) in
    let two_gone : length (held_trees w (reverse (drop n vs))) ≡ 2 =
    trees_length w (reverse (drop n vs)) ∙ length-reverse (drop n vs) ∙ length-drop n vs
    ∙ (let q : length old.row.values.items - n ≡ 2 = omega (arith, is, two) in q) in
    record {
      order = record {
        good = order.good;
        row = subst (λ ss. AreInRow y w ss new.row.values.items) (sym turned) (subst (AreInRow y w (reverse old.row.steps.items)) (sym values) cut.0);
        saved = subst (IsSaved w new.row) (sym saved) (saved-lowers w old.row new.row old.saved order.saved lowers);
      };
      stack = ap (λ ss. held_trees w (stacked ss new.row.values.items)) turned
          ∙ ap (λ xs. held_trees w (stacked (reverse old.row.steps.items) xs)) values
          ∙ sym (ap (λ xs. drop 2 (held_trees w xs)) cut.1
          ∙ ap (drop 2) (map-append (held_tree w) (reverse (drop n vs)) (stacked (reverse old.row.steps.items) (take n vs)))
          ∙ ap (λ k. drop k (gone ++ low)) (sym two_gone) ∙ drop-append_seam gone low);
    }

-- what stands from a place on
pub rest-of : (n : ℕ) (rs : List Reference) → take (length rs - n) (drop n rs) ≡ drop n rs
rest-of n rs = ap (λ k. take k (drop n rs)) (sym (length-drop n rs)) ∙ take-length (drop n rs)

-- the tree of a call of the values on top, where they have stayed
pub called-tree : (y : Spec) (w w' : Store) (f k : ℕ) (ss : List Step) (vs : List Reference) → AreInRow y w (step.Invoke f k ∷ ss) vs → KeepsParts w w' vs
    → called y f (held_trees w' (drop (length vs - k) vs)) ≡ application (name_of y (Symbol f)) (taken k (held_trees w (stacked ss vs)) none)
called-tree y w w' f k ss vs row keeps =
    let there = row-stays y w w' (step.Invoke f k ∷ ss) vs row keeps in
    ap (application (name_of y (Symbol f))) (sym (arguments-on-top y w' f k ss vs there.row) ∙ ap (λ st. taken k st none) there.stack)

-- a symbol was called on the values on top, where those below were saved
module _ (y : Spec) (w w' : Store) (old : Tracer) (row : Row) (s : Saved) (f k at : ℕ)
    (h : AreInRow y w (step.Invoke f k ∷ reverse old.row.steps.items) old.row.values.items) (saves : Saves w w' old.row row s at) where
  pub saved-held : AllHeld w' row.values.items
  saved-held = subst (AllHeld w') (sym saves.values)
      (row-stays y w w' (step.Invoke f k ∷ reverse old.row.steps.items) old.row.values.items h saves.parts).row.held

  pub evaluated : (w2 : Store) (new : Tracer) (t : Reference) (v : Tree) → fault y ≡ None → at ≡ length old.row.values.items - k
      → Keeps w' w2 (s.list ∷ []) → tree_at w2 t ≡ Some v → new.row.steps ≡ row.steps → new.row.values.items ≡ take at row.values.items ++ t ∷ []
      → Lowers row new.row → new.saved ≡ s → HasReplaced y w w2 old new k v
  evaluated w2 new t v good is keeps tree steps values lowers saved =
      let there = row-stays y w w' (step.Invoke f k ∷ reverse old.row.steps.items) old.row.values.items h saves.parts in
      let same : take at row.values.items ≡ take (length old.row.values.items - k) old.row.values.items =
      ap (take at) saves.values ∙ ap (λ n. take n old.row.values.items) is in
      let r = has-replaced y w' w2 old new f k t v good there.row
      (subst (KeepsParts w' w2) same (saved-keeps w' w2 row s at (s.list ∷ []) saves.saved saved-held saves.enough keeps)) tree (steps ∙ saves.steps)
      (values ∙ ap (λ xs. xs ++ t ∷ []) same)
      (subst (IsSaved w2 new.row) (sym saved) (saved-lowers w2 row new.row s (saved-stays w' w2 row s (s.list ∷ []) saves.saved saved-held keeps) lowers)) in
      record {
        order = r.order;
        moves = r.moves ∙ tail-is (Invoke (name_of y (Symbol f)) k) (moves_at y w' old) (moves_at y w old) there.moves;
        stack = r.stack ∙ ap (λ st. v ∷ drop k st) there.stack;
      }
    where
      tail-is : (m : Move) (xs ys : List Move) → m ∷ xs ≡ m ∷ ys → xs ≡ ys
      tail-is m xs ys e = cc

-- a value that was given is the next move
pub given-turns : (c : Caller) (y : Spec) (w : Store) (old new : Tracer) (t : Reference) → HasGiven y w old new t → Turns c y w w old new true
given-turns c y w old new t h = (
  h.order,
  subst (λ ms. Moves c old.left new.left ms (stack_at w old) (moves_at y w new) (stack_at w new) true) (sym h.moves) (h.left, refl, h.stack),
)

-- a tree that is held came on top
pub record HasPut (y : Spec) (w : Store) (old new : Tracer) (t : Reference) : Type 0 where
  pub order : IsInOrder y w new
  pub moves : moves_at y w new ≡ moves_at y w old
  pub stack : stack_at w new ≡ held_tree w t ∷ stack_at w old
  pub top : top_of new.row ≡ t
  pub reach : 0 < reach_of new.row

pub has-put : (y : Spec) (w : Store) (old new : Tracer) (t : Reference) → IsInOrder y w old → IsSome (tree_at w t) → new.row.steps ≡ old.row.steps
    → new.row.values.items ≡ old.row.values.items ++ t ∷ [] → new.row.low ≡ old.row.low → new.saved ≡ old.saved → HasPut y w old new t
has-put y w old new t order held steps values low saved =
    let turned : reverse new.row.steps.items ≡ reverse old.row.steps.items = ap (λ (z : Vec Step Global). reverse z.items) steps in
    let more = put-on y w (reverse old.row.steps.items) old.row.values.items t order.row held in
    let row : AreInRow y w (reverse new.row.steps.items) new.row.values.items =
    subst (λ ss. AreInRow y w ss new.row.values.items) (sym turned) (subst (AreInRow y w (reverse old.row.steps.items)) (sym values) more.row) in
    let long = ap length values ∙ length-append old.row.values.items (t ∷ []) in
    let floor : floor_of (reverse new.row.steps.items) ≤ length old.row.values.items =
    subst (λ ss. floor_of ss ≤ length old.row.values.items) (sym turned) order.row.floor in
    let last : length new.row.values.items - 1 ≡ length old.row.values.items = omega (arith, long) in
    record {
      order = record {
        good = order.good;
        row = row;
        saved = subst (IsSaved w new.row) (sym saved) (saved-lowers w old.row new.row old.saved order.saved
            (lowers-more old.row new.row t low order.saved.within values));
      };
      moves = ap (moves_of y w) turned;
      stack = ap (λ ss. held_trees w (stacked ss new.row.values.items)) turned
          ∙ ap (λ vs. held_trees w (stacked (reverse old.row.steps.items) vs)) values ∙ ap (held_trees w) more.stack;
      top = ap (λ vs. get_or vs (length new.row.values.items - 1) (record { 0 = 0 })) values
          ∙ ap (λ n. get_or (old.row.values.items ++ t ∷ []) n (record { 0 = 0 })) last ∙ get_or-append_seam old.row.values.items t [] (record { 0 = 0 });
      reach = omega (arith, long, floor);
    }

-- the moves of a side came first instead of the tree
pub has-entered : (y : Spec) (w : Store) (old mid new : Tracer) (t : Reference) (ms : List Move) → HasPut y w old mid t → HasSpread y w mid.row new.row ms
    → Lowers mid.row new.row → new.saved ≡ mid.saved → new.left ≡ old.left → mid.row.steps ≡ old.row.steps
    → take (length mid.row.steps.items) new.row.steps.items ≡ mid.row.steps.items → HasEntered y w old new ms
has-entered y w old mid new t ms put spread lowers saved left steps below = record {
  order = record {
    good = put.order.good;
    row = spread.row;
    saved = subst (IsSaved w new.row) (sym saved) (saved-lowers w mid.row new.row mid.saved put.order.saved lowers);
  };
  left_is = left;
  moves = spread.moves ∙ ap (λ ns. ms ++ ns) put.moves;
  stack = tail-is (held_tree w (top_of mid.row)) (held_tree w t) (stack_at w new) (stack_at w old) (spread.stack ∙ put.stack);
  steps = subst (λ (z : Vec Step Global). take (length z.items) new.row.steps.items ≡ z.items) steps below;
}
  where
    tail-is : (u v : Tree) (xs ys : List Tree) → u ∷ xs ≡ v ∷ ys → xs ≡ ys
    tail-is u v xs ys e = cc

-- what holds of a result by two facts
pub if-two : {A E : Type 0} {P Q R : A → Type 0} (r : Result A E) → ((a : A) → P a → Q a → R a) → IfOk r P → IfOk r Q → IfOk r R
if-two (Ok a) f p q = f a p q
if-two (Err e) f p q = tt

-- what others protect stays, where the same list was protected before
pub stays-from : {w w' : Store} {d : Reference} {s t : Saved} → s ≡ t → Stays w w' s.list d → Stays w w' t.list d
stays-from {w} {w'} {d} {s} {t} e h = subst (λ (z : Saved). Stays w w' z.list d) e h

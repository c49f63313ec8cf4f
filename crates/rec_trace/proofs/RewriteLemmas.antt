-- What a redex becomes, and the whole term: rows that are written down apart from a tracer's own one.
use Rattle.std.proofs.Common.{◌<◌, ◌-◌, ◌≤◌, refl, ℕ, ap, append-nil, arith, get_or, length, subst, sym, take, take_all, take_at, ◌∙◌}
use Rattle.std.proofs.lemmas.List.Elements.{Contains-push}
use Rattle.std.specs.Prelude.{◌≡◌, List, [], ◌∷◌, ◌++◌, Contains, Err, IfOk, Ok, Option, Result, Some, Vec, is_some, reverse, unwrap_or}
use Rattle.std.specs.declared.alloc.Global.{Global}
use Rattle.rx_term.specs.Tree.{Tree, list_of, none}
use Rattle.rx_term.specs.Store.{Store, tree_at}
use Rattle.rx_term.specs.Steps.{Keeps}
use Rattle.rx_term.specs.Walks.{AllHeld, held_tree, held_trees}
use Rattle.rx_term.specs.declared.Term.{Term as Reference}
use Rattle.rx_term.proofs.WalkLemmas.{AllHeld-push, AllHeld-take}
use Rattle.rec_syntax.specs.Syntax.{Rule, Spec}
use Rattle.rec_sorts.specs.Binding.{Substitution}
use Rattle.rec_match.specs.Next.{IsAnswer}
use Rattle.rec_trace.specs.Inner.Saving.{HasAll, Leaves}
use Rattle.rec_trace.specs.Inner.Sides.{HasSide, HasValues, IsMatch, side_of}
use Rattle.rec_trace.specs.Inner.Spreading.{CanSpread, HasSpread, top_of}
use Rattle.rec_trace.specs.Lists.{IsSaved, Stays}
use Rattle.rec_trace.specs.Rows.{AreInRow, IsRow, KeepsParts, floor_of, moves_in, moves_of, stack_in, stacked}
use Rattle.rec_trace.specs.States.{Fits, ahead, moves, written}
use Rattle.rec_trace.specs.Tracing.{Rewrites, Stands, moves_at, rest_of, stack_at, whole_of}
use Rattle.rec_trace.specs.declared.row.Row.{Row}
use Rattle.rec_trace.specs.declared.row.Step.{Step}
use Rattle.rec_trace.specs.declared.saved.Saved.{Saved}
use Rattle.rec_trace.specs.declared.sides.Side.TheVariants.{Contractum}
use Rattle.rec_trace.specs.declared.tracer.Tracer.{Tracer}
use Rattle.rec_trace.proofs.ListLemmas.{stays-kept, stays-trans}
use Rattle.rec_trace.proofs.PushLemmas.{has-values}
use Rattle.rec_trace.proofs.RowLemmas.{row-stays}
use Rattle.rec_trace.proofs.RunLemmas.{fits-one}
use Rattle.rec_trace.proofs.SavedLemmas.{in-take, list-keeps, parts-both, parts-fewer, parts-same, same-tree, saved-lowers, saved-stays, still-all-held}
use Rattle.rec_trace.proofs.StateLemmas.{written-moves}

-- a fact of an answer follows from another one, at each answer
pub if-ok : {A E : Type 0} {P Q : A → Type 0} (r : Result A E) → ((a : A) → P a → Q a) → IfOk r P → IfOk r Q
if-ok (Ok a) f p = f a p
if-ok (Err e) f p = tt

held-as : (w : Store) (t : Reference) (u : Tree) → tree_at w t ≡ Some u → held_tree w t ≡ u
held-as w t u e = ap (λ (o : Option Tree). unwrap_or o (list_of none)) e

-- ---- what a redex becomes

-- a row of one value and no step
pub record IsApart (r : Row) (redex : Reference) : Type 0 where
  pub steps : r.steps.items ≡ []
  pub values : r.values.items ≡ redex ∷ []

pub is-apart : (r first : Row) (empty : Vec Step Global) (redex : Reference) → empty.items ≡ [] → first.steps ≡ empty → first.values.items ≡ []
    → r.steps ≡ first.steps → r.values.items ≡ first.values.items ++ redex ∷ [] → IsApart r redex
is-apart r first empty redex empty_is first_steps first_values steps values = record {
  steps = ap (λ (v : Vec Step Global). v.items) steps ∙ ap (λ (v : Vec Step Global). v.items) first_steps ∙ empty_is;
  values = values ∙ ap (λ vs. vs ++ redex ∷ []) first_values;
}

-- moves that can be written down, and the tree that they write
pub record IsWritten (y : Spec) (w : Store) (r : Row) (v : Tree) : Type 0 where
  pub row : IsRow y w r
  pub fits : Fits (moves_in y w r) (length (stack_in w r)) 1
  pub tree : written (moves_in y w r) (stack_in w r) ≡ v

module _ (y : Spec) (w : Store) (old : Row) (redex : Reference) (i : ℕ) (bind : List Reference) (found : Option ℕ) (u v : Tree) (apart : IsApart old redex)
    (redex_at : tree_at w redex ≡ Some u) (rewrites : Rewrites y i u v) (answer : IsAnswer y w redex i bind found) where
  top-is : top_of old ≡ redex
  top-is = ap (λ (vs : List Reference). get_or vs (length vs - 1) (record { 0 = 0 })) apart.values

  matches : IsMatch y i (held_tree w redex) rewrites.rule rewrites.values
  matches = subst (λ x. IsMatch y i x rewrites.rule rewrites.values) (sym (held-as w redex u redex_at))
      (record { rule = rewrites.rule_is; binds = rewrites.binds_is })

  bound : HasValues w redex bind rewrites.values
  bound = has-values y w redex i rewrites.rule rewrites.values bind found matches answer

  pub apart-can : CanSpread y w old i bind (λ r. HasSide r Contractum)
  apart-can = (
    rewrites.rule,
    rewrites.values,
    subst (λ t. IsMatch y i (held_tree w t) rewrites.rule rewrites.values) (sym top-is) matches,
    subst (λ t. HasValues w t bind rewrites.values) (sym top-is) bound,
    subst (λ (ss : List Step). floor_of (reverse ss) < length old.values.items) (sym apart.steps)
        (subst (λ (vs : List Reference). 0 < length vs) (sym apart.values) (let more : 0 < length (redex ∷ []) = omega arith in more)),
    tt,
  )

  pub apart-spread : (new : Row) → ((r : Rule) (s : Substitution) → IsMatch y i (held_tree w (top_of old)) r s → HasValues w (top_of old) bind s
      → HasSpread y w old new (moves s (side_of r Contractum))) → IsWritten y w new v
  apart-spread new spreads =
      let h = spreads rewrites.rule rewrites.values (subst (λ t. IsMatch y i (held_tree w t) rewrites.rule rewrites.values) (sym top-is) matches)
      (subst (λ t. HasValues w t bind rewrites.values) (sym top-is) bound) in
      let before : stack_in w old ≡ held_tree w redex ∷ [] = ap (λ ss. held_trees w (stacked (reverse ss) old.values.items)) apart.steps
      ∙ ap (λ vs. held_trees w (reverse vs)) apart.values in
      let stack : stack_in w new ≡ [] = rest-of (held_tree w (top_of old)) (held_tree w redex) (stack_in w new) [] (h.stack ∙ before) in
      let are : moves_in y w new ≡ moves rewrites.values rewrites.rule.right =
      h.moves ∙ ap (λ ss. moves rewrites.values rewrites.rule.right ++ moves_of y w (reverse ss)) apart.steps
      ∙ append-nil (moves rewrites.values rewrites.rule.right) in
      record {
        row = h.row;
        fits = subst (λ ms. Fits ms (length (stack_in w new)) 1) (sym are)
            (subst (λ (st : List Tree). Fits (moves rewrites.values rewrites.rule.right) (length st) 1) (sym stack)
            (fits-one rewrites.values rewrites.rule.right));
        tree = ap (λ ms. written ms (stack_in w new)) are ∙ ap (written (moves rewrites.values rewrites.rule.right)) stack
            ∙ ap (λ ms. written ms []) (sym (append-nil (moves rewrites.values rewrites.rule.right)))
            ∙ written-moves rewrites.values rewrites.rule.right [] [] ∙ sym rewrites.result;
      }
    where
      rest-of : (a b : Tree) (xs ys : List Tree) → a ∷ xs ≡ b ∷ ys → xs ≡ ys
      rest-of a b xs ys e = cc

-- ---- the same state over values whose parts stayed

pub record StandsStill (y : Spec) (w w' : Store) (old new : Tracer) : Type 0 where
  pub stands : Stands y w' new
  pub rest : rest_of y w' new ≡ rest_of y w old
  pub whole : whole_of y w' new ≡ whole_of y w old

pub stands-still : (y : Spec) (w w' : Store) (old new : Tracer) → Stands y w old → new.row.steps.items ≡ old.row.steps.items
    → new.row.values.items ≡ old.row.values.items → KeepsParts w w' old.row.values.items → IsSaved w' new.row new.saved → new.left ≡ old.left
    → StandsStill y w w' old new
stands-still y w w' old new s steps values keeps saved left =
    let ss = reverse old.row.steps.items in
    let h = row-stays y w w' ss old.row.values.items s.order.row keeps in
    let are : moves_at y w' new ≡ moves_at y w old = ap (λ xs. moves_of y w' (reverse xs)) steps ∙ h.moves in
    let stack : stack_at w' new ≡ stack_at w old = ap (λ xs. held_trees w' (stacked (reverse xs) new.row.values.items)) steps
    ∙ ap (λ vs. held_trees w' (stacked ss vs)) values ∙ h.stack in
    record {
      stands = record {
        order = record {
          good = s.order.good;
          row = subst (λ xs. AreInRow y w' (reverse xs) new.row.values.items) (sym steps) (subst (λ vs. AreInRow y w' ss vs) (sym values) h.row);
          saved = saved;
        };
        fits = subst (λ ms. Fits ms (length (stack_at w' new)) 1) (sym are)
            (subst (λ (st : List Tree). Fits (moves_at y w old) (length st) 1) (sym stack) s.fits);
      };
      rest = ap (λ n. ahead y n (moves_at y w' new) (stack_at w' new)) left ∙ ap (λ ms. ahead y old.left ms (stack_at w' new)) are
          ∙ ap (ahead y old.left (moves_at y w old)) stack;
      whole = ap (λ ms. written ms (stack_at w' new)) are ∙ ap (written (moves_at y w old)) stack;
    }

-- the list is kept, and what others protect stays, as an engine's call follows
pub stays-called : (w w1 w2 : Store) (a b : Reference) (work : List Reference) → Stays w w1 a b → Keeps w1 w2 work → Stays w w2 a b
stays-called w w1 w2 a b work stays keeps = stays-trans stays (stays-kept w1 w2 work b stays.kept keeps)

-- ---- a redex on top of all values

module _ (w : Store) (old above : Row) (redex : Reference) (u : Tree) (held : AllHeld w old.values.items) (redex_at : tree_at w redex ≡ Some u)
    (values : above.values.items ≡ old.values.items ++ redex ∷ []) where
  pub above-held : AllHeld w above.values.items
  above-held = subst (λ vs. AllHeld w vs) (sym values) (AllHeld-push w old.values.items redex held (ap is_some redex_at))

  pub above-redex : (w' : Store) → KeepsParts w w' above.values.items → tree_at w' redex ≡ tree_at w redex
  above-redex w' keeps = same-tree w w' above.values.items redex (ap is_some redex_at) keeps
      (subst (λ vs. Contains vs redex) (sym values) (Contains-push old.values.items redex))

  pub under-redex : (n : ℕ) → n ≡ length old.values.items → take n above.values.items ≡ old.values.items
  under-redex n many = ap (take n) values ∙ take_at old.values.items (redex ∷ []) n (sym many)

-- ---- all values of a row were saved, and the lowest are left

module _ (w w1 : Store) (above under : Row) (s : Saved) (n : ℕ) (leaves : Leaves w w1 above under s n) where
  -- an engine's call follows
  module _ (w2 : Store) (work : List Reference) (held : AllHeld w above.values.items) (all : HasAll w1 s.list above.values.items) (keeps : Keeps w1 w2 work)
    where
      pub called-parts : KeepsParts w w2 above.values.items
      called-parts = parts-both w w1 w2 above.values.items held leaves.parts
          (list-keeps w1 w2 above.values.items s.list work leaves.saved.kept all keeps)

      pub called-saved : IsSaved w2 under s
      called-saved = saved-stays w1 w2 under s work leaves.saved
          (subst (λ vs. AllHeld w1 vs) (sym leaves.values)
          (AllHeld-take w1 above.values.items n (still-all-held w w1 above.values.items held leaves.parts))) keeps

  module _ (y : Spec) (old new : Tracer) (stands : Stands y w old) (steps : above.steps ≡ old.row.steps)
      (values : take n above.values.items ≡ old.row.values.items) (row_is : new.row ≡ under) (saved_is : new.saved ≡ s) (left : new.left ≡ old.left) where
    still : (w2 : Store) → KeepsParts w w2 above.values.items → IsSaved w2 under s → StandsStill y w w2 old new
    still w2 parts saved = stands-still y w w2 old new stands
        (ap (λ (r : Row). r.steps.items) row_is ∙ ap (λ (v : Vec Step Global). v.items) (leaves.steps ∙ steps))
        (ap (λ (r : Row). r.values.items) row_is ∙ leaves.values ∙ values)
        (parts-fewer w w2 above.values.items old.row.values.items
        (λ t c. in-take n above.values.items t (subst (λ vs. Contains vs t) (sym values) c)) parts)
        (subst (λ r. IsSaved w2 r new.saved) (sym row_is) (subst (λ z. IsSaved w2 under z) (sym saved_is) saved)) left

    -- nothing follows
    pub still-left : StandsStill y w w1 old new
    still-left = still w1 leaves.parts leaves.saved

    pub still-called : (w2 : Store) (work : List Reference) → AllHeld w above.values.items → HasAll w1 s.list above.values.items → Keeps w1 w2 work
        → StandsStill y w w2 old new
    still-called w2 work held all keeps = still w2 (called-parts w2 work held all keeps) (called-saved w2 work held all keeps)

-- where not even the redex was put on top
pub still-refused : (y : Spec) (w : Store) (old new : Tracer) → Stands y w old → new.row.steps ≡ old.row.steps
    → new.row.values.items ≡ old.row.values.items → new.row.low ≡ old.row.low → new.saved ≡ old.saved → new.left ≡ old.left
    → StandsStill y w w old new
still-refused y w old new stands steps values low saved_is left =
    stands-still y w w old new stands (ap (λ (v : Vec Step Global). v.items) steps) values (parts-same w w old.row.values.items (λ t. refl))
    (subst (λ s. IsSaved w new.row s) (sym saved_is) (saved-lowers w old.row new.row old.saved stands.order.saved (record {
      low = omega (arith, low);
      within = λ le. subst (λ vs. new.row.low ≤ length vs) (sym values) (omega (arith, le, low));
      values = ap (take new.row.low) values;
    }))) left

-- ---- a copy of a row was written down

pub copied : (y : Spec) (w w1 : Store) (old copy : Row) → IsRow y w old → copy.steps.items ≡ old.steps.items → copy.values.items ≡ old.values.items
    → KeepsParts w w1 old.values.items → IsRow y w1 copy × (moves_in y w1 copy ≡ moves_in y w old) × (stack_in w1 copy ≡ stack_in w old)
copied y w w1 old copy row steps values keeps =
    let ss = reverse old.steps.items in
    let h = row-stays y w w1 ss old.values.items row keeps in (
      subst (λ xs. AreInRow y w1 (reverse xs) copy.values.items) (sym steps) (subst (λ vs. AreInRow y w1 ss vs) (sym values) h.row),
      ap (λ xs. moves_of y w1 (reverse xs)) steps ∙ h.moves,
      ap (λ xs. held_trees w1 (stacked (reverse xs) copy.values.items)) steps ∙ ap (λ vs. held_trees w1 (stacked ss vs)) values ∙ h.stack,
    )

-- where all values are left
pub all-left : (t : Tracer) (n : ℕ) → n ≡ length t.row.values.items → take n t.row.values.items ≡ t.row.values.items
all-left t n many = take_all n t.row.values.items (omega (arith, many))

pub copy-written : (y : Spec) (w w1 : Store) (old : Tracer) (left copy : Row) (s : Saved) (n : ℕ) → Stands y w old → n ≡ length old.row.values.items
    → Leaves w w1 old.row left s n → copy.steps.items ≡ left.steps.items → copy.values.items ≡ left.values.items
    → IsWritten y w1 copy (whole_of y w old)
copy-written y w w1 old left copy s n stands many leaves steps values =
    let same = copied y w w1 old.row copy stands.order.row (steps ∙ ap (λ (v : Vec Step Global). v.items) leaves.steps)
    (values ∙ leaves.values ∙ all-left old n many) leaves.parts in
    record {
      row = same.0;
      fits = subst (λ ms. Fits ms (length (stack_in w1 copy)) 1) (sym same.1)
          (subst (λ (st : List Tree). Fits (moves_at y w old) (length st) 1) (sym same.2) stands.fits);
      tree = ap (λ ms. written ms (stack_in w1 copy)) same.1 ∙ ap (written (moves_at y w old)) same.2;
    }

pub copy-answer : {E : Type 0} (y : Spec) (w1 w2 : Store) (copy : Row) (v : Tree) (r : Result Reference E) → IsWritten y w1 copy v
    → IfOk r (λ t. tree_at w2 t ≡ Some (written (moves_in y w1 copy) (stack_in w1 copy))) → IfOk r (λ t. tree_at w2 t ≡ Some v)
copy-answer y w1 w2 copy v r wrote h = if-ok r (λ t is. is ∙ ap (λ x. let o : Option Tree = Some x in o) wrote.tree) h

-- A symbol is applied to the values on top, and the rule that is found for them fires.
use Rattle.std.proofs.Common.{◌-◌, ◌<◌, ◌≤◌, ℕ, arith, sym, ap, subst, ◌∙◌, length, take, length-append}
use Rattle.std.specs.Prelude.{◌≡◌, List, [], ◌∷◌, Option, Some, None, Vec, reverse}
use Rattle.std.specs.declared.alloc.Global.{Global}
use Rattle.std.proofs.lemmas.List.{length-take-le}
use Rattle.rx_term.specs.Tree.{Tree, none}
use Rattle.rx_term.specs.Steps.{Keeps}
use Rattle.rx_term.specs.Store.{Store}
use Rattle.rx_term.specs.declared.Term.{Term as Reference}
use Rattle.rx_term.proofs.WalkLemmas.{AllHeld-take}
use Rattle.rec_syntax.specs.Syntax.{Spec}
use Rattle.rec_sorts.specs.Binding.{application}
use Rattle.rec_sorts.specs.Evaluation.{Match, Outcome}
use Rattle.rec_sorts.specs.Numbering.{name_of}
use Rattle.rec_sorts.specs.SpecRules.{fault}
use Rattle.rec_sorts.specs.declared.letters.Meaning.TheVariants.{Symbol}
use Rattle.rec_engine.specs.Flat.{taken}
use Rattle.rec_trace.specs.Inner.Sides.{HasSide, IsMatch}
use Rattle.rec_trace.specs.Inner.Spreading.{CanSpread}
use Rattle.rec_engine.specs.Lent.{IsAppliedOn}
use Rattle.rec_trace.specs.Inner.Turns.{IsBound}
use Rattle.rec_trace.specs.Lists.{IsSaved, Stays}
use Rattle.rec_trace.specs.Rows.{AreInRow, Lowers, floor_of, reach_of}
use Rattle.rec_trace.specs.Tracing.{IsFound, IsSame, on_top, stack_at}
use Rattle.rec_trace.specs.declared.row.Step.{Step}
use Rattle.rec_trace.specs.declared.row.Step.TheVariants as step
use Rattle.rec_trace.specs.declared.sides.Side.TheVariants.{Contractum}
use Rattle.rec_trace.specs.declared.tracer.Found.TheVariants as found
use Rattle.rec_trace.specs.declared.tracer.Tracer.{Tracer}
use Rattle.rec_trace.proofs.ListLemmas.{stays-kept}
use Rattle.rec_trace.proofs.RowLemmas.{arguments-on-top, parts-kept}
use Rattle.rec_trace.proofs.SavedLemmas.{saved-lowers, saved-stays}
use Rattle.rec_trace.proofs.TopLemmas.{top-here}
use Rattle.rec_trace.proofs.TurnLemmas.{HasReplaced, has-replaced}

-- a symbol was applied to the values on top
pub record HasApplied (y : Spec) (w w' : Store) (old new : Tracer) (f k : ℕ) : Type 0 where
  pub replaced : HasReplaced y w w' old new k (application (name_of y (Symbol f)) (taken k (stack_at w old) none))
  pub reach : 0 < reach_of new.row

pub has-applied : (y : Spec) (w w' : Store) (old new : Tracer) (f k : ℕ) → fault y ≡ None
    → AreInRow y w (step.Invoke f k ∷ reverse old.row.steps.items) old.row.values.items → IsSaved w old.row old.saved
    → Keeps w w' (take (length old.row.values.items - k) old.row.values.items) → IsAppliedOn y w w' f k old.row.values.items new.row.values.items
    → new.row.steps ≡ old.row.steps → Lowers old.row new.row → new.saved ≡ old.saved → HasApplied y w w' old new f k
has-applied y w w' old new f k good row saved keeps applied steps lowers same =
    let vs = old.row.values.items in
    let ss = reverse old.row.steps.items in
    let low = take (length old.row.values.items - k) old.row.values.items in
    let fits = row.clear.0 in
    let turned : floor_of (reverse new.row.steps.items) ≡ floor_of (reverse old.row.steps.items) =
    ap (λ (z : Vec Step Global). floor_of (reverse z.items)) steps in
    let long = ap length applied.split ∙ length-append low (applied.top ∷ []) in
    let below = length-take-le (length old.row.values.items - k) old.row.values.items
    (let q : length old.row.values.items - k ≤ length old.row.values.items = omega arith in q) in
    record {
      replaced = has-replaced y w w' old new f k applied.top (application (name_of y (Symbol f)) (taken k (stack_at w old) none)) good row
          (parts-kept w w' low (AllHeld-take w vs (length vs - k) row.held) keeps)
          (applied.is ∙ ap (λ ts. let o : Option Tree = Some (application (name_of y (Symbol f)) ts) in o) (sym (arguments-on-top y w f k ss vs row)))
          steps applied.split (subst (IsSaved w' new.row) (sym same)
          (saved-lowers w' old.row new.row old.saved (saved-stays w w' old.row old.saved low saved row.held keeps) lowers));
      reach = omega (arith, fits, turned, long, below);
    }

-- the list of values that are saved stays with it
pub applied-stays : (w w' : Store) (old : Tracer) (work : List Reference) → IsSaved w old.row old.saved → Keeps w w' work
    → Stays w w' old.saved.list old.saved.list
applied-stays w w' old work saved keeps = stays-kept w w' work old.saved.list saved.kept keeps

-- in the same state a value is on top still
pub same-reach : (y : Spec) (w w' : Store) (old new : Tracer) → IsSame y w w' old new → 0 < reach_of old.row → 0 < reach_of new.row
same-reach y w w' old new h some =
    let floor : floor_of (reverse new.row.steps.items) ≡ floor_of (reverse old.row.steps.items) = ap (λ (xs : List Step). floor_of (reverse xs)) h.steps in
    let long = h.long in
    omega (arith, some, floor, long)

-- the rule that is found can fire
pub can-fire : (y : Spec) (w w' : Store) (old new : Tracer) (o : Outcome (Option Match)) (i : ℕ) → 0 < reach_of old.row
    → IsFound y w w' old new o (found.Rule i) → IsBound y w' new i new.bind.items
    → CanSpread y w' new.row i new.bind.items (λ r. HasSide r Contractum)
can-fire y w w' old new o i some f bound =
    let reach = same-reach y w w' old new f.3 some in
    let match : IsMatch y i (on_top (stack_at w' new)) f.0.rule f.0.values =
    subst (λ (st : List Tree). IsMatch y i (on_top st) f.0.rule f.0.values) (sym f.3.stack) f.2 in (
      f.0.rule,
      f.0.values,
      subst (λ u. IsMatch y i u f.0.rule f.0.values) (top-here w' new reach) match,
      bound f.0.rule f.0.values match,
      omega (arith, reach),
      tt,
    )

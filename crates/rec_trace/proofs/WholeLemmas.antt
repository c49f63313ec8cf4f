-- What a row writes down.
use Rattle.std.proofs.Common.{◌-◌, ◌<◌, ◌≤◌, ℕ, arith, refl, sym, ap, subst, ◌∙◌, length, drop, take, length-drop}
use Rattle.std.specs.Prelude.{suc, ◌≡◌, Err, IfOk, Ok, OnOk, Result, true, List, [], ◌∷◌, ◌++◌, Option, Some, reverse, slice_get}
use Rattle.std.proofs.lemmas.List.{length-map, length-reverse, nil_from_length}
use Rattle.rx_term.specs.Tree.{Tree, none}
use Rattle.rx_term.specs.Store.{Store, tree_at}
use Rattle.rx_term.specs.Steps.{Keeps}
use Rattle.rx_term.specs.Walks.{AllHeld, held_tree, held_trees}
use Rattle.rx_term.specs.declared.Term.{Term as Reference}
use Rattle.rx_term.proofs.KeepLemmas.{Keeps-fewer}
use Rattle.rx_term.proofs.PartsLemmas.{cons_head, no_element}
use Rattle.rx_term.proofs.WalkLemmas.{AllHeld-take}
use Rattle.rec_syntax.specs.Syntax.{Spec}
use Rattle.rec_sorts.specs.Binding.{application}
use Rattle.rec_sorts.specs.Evaluation.{Done}
use Rattle.rec_sorts.specs.Numbering.{name_of}
use Rattle.rec_sorts.specs.declared.letters.Meaning.TheVariants.{Symbol}
use Rattle.rec_engine.specs.Flat.{taken}
use Rattle.rec_trace.specs.States.{Fits, Give, Invoke, Move, written}
use Rattle.rec_trace.specs.Rows.{AreInRow, IsRow, moves_in, moves_of, stack_in, stacked}
use Rattle.rec_engine.specs.Lent.{IsAppliedOn}
use Rattle.rec_trace.specs.Inner.Turns.{CanTurn, Moves}
use Rattle.rec_trace.specs.declared.row.Row.{Row}
use Rattle.rec_trace.specs.declared.row.Step.{Step}
use Rattle.rec_trace.specs.declared.row.Step.TheVariants as step
use Rattle.rec_trace.proofs.PushLemmas.{held-some}
use Rattle.rec_trace.proofs.SpreadLemmas.{pushed-step}
use Rattle.rec_trace.proofs.RowLemmas.{arguments-on-top, gave, gave-last, parts-kept, replaced}

pub on-ok : {A E P Q : Type 0} (r : Result A E) → (P → Q) → OnOk r P → OnOk r Q
on-ok (Ok a) f p = f p
on-ok (Err e) f p = tt

pub ok-on : {A E : Type 0} {P : A → Type 0} {Q : Type 0} (r : Result A E) → ((a : A) → P a → Q) → IfOk r P → OnOk r Q
ok-on (Ok a) f p = f a p
ok-on (Err e) f p = tt

-- ---- one step

-- the next of some steps is made, and no symbol is called
pub record IsMade (y : Spec) (w w' : Store) (ss : List Step) (vs : List Reference) (ss' : List Step) (vs' : List Reference) : Type 0 where
  pub row : AreInRow y w' ss' vs'
  pub moves_are : Moves (λ n u. Done u n) 0 0 (moves_of y w ss) (held_trees w (stacked ss vs)) (moves_of y w' ss') (held_trees w' (stacked ss' vs')) true

pub made-at : (y : Spec) (w w' : Store) (as' ss ss' bs : List Step) (vs us vs' : List Reference) → as' ≡ ss → bs ≡ ss' → us ≡ vs'
    → IsMade y w w' ss vs ss' vs' → IsMade y w w' as' vs bs us
made-at y w w' as' ss ss' bs vs us vs' e f g h =
    subst (λ xs. IsMade y w w' xs vs bs us) (sym e) (subst (λ xs. IsMade y w w' ss vs xs us) (sym f) (subst (IsMade y w w' ss vs ss') (sym g) h))

pub made-give : (y : Spec) (w : Store) (ss : List Step) (vs : List Reference) (t : Reference) → AreInRow y w (step.Give t ∷ ss) vs
    → IsMade y w w (step.Give t ∷ ss) vs ss (vs ++ t ∷ [])
made-give y w ss vs t h = let o = gave y w ss vs t h in
    record { row = o.row; moves_are = (refl, refl, ap (held_trees w) o.stack) }

pub made-last : (y : Spec) (w : Store) (ss : List Step) (vs : List Reference) (t : Reference) (at : ℕ) → AreInRow y w (step.GiveLast t at ∷ ss) vs
    → IsMade y w w (step.GiveLast t at ∷ ss) vs ss (take at vs ++ (drop (suc at) vs ++ t ∷ []))
made-last y w ss vs t at h = let o = gave-last y w ss vs t at h in
    record { row = o.row; moves_are = (refl, refl, ap (held_trees w) o.stack) }

pub made-apply : (y : Spec) (w w' : Store) (f k : ℕ) (ss : List Step) (vs vs' : List Reference) → AreInRow y w (step.Invoke f k ∷ ss) vs
    → Keeps w w' (take (length vs - k) vs) → IsAppliedOn y w w' f k vs vs' → IsMade y w w' (step.Invoke f k ∷ ss) vs ss vs'
made-apply y w w' f k ss vs vs' h keeps applied =
    let v : Tree = application (name_of y (Symbol f)) (taken k (held_trees w (stacked ss vs)) none) in
    let is : tree_at w' applied.top ≡ Some (application (name_of y (Symbol f)) (taken k (held_trees w (stacked ss vs)) none)) =
    applied.is ∙ ap (λ us. let o : Option Tree = Some (application (name_of y (Symbol f)) us) in o) (sym (arguments-on-top y w f k ss vs h)) in
    let r = replaced y w w' f k ss vs applied.top v h
    (parts-kept w w' (take (length vs - k) vs) (AllHeld-take w vs (length vs - k) h.held) keeps) is in
    subst (IsMade y w w' (step.Invoke f k ∷ ss) vs ss) (sym applied.split) (record { row = r.row; moves_are = (v, refl, r.moves, r.stack) })

-- the last of a row's steps is taken off, and made
module _ (y : Spec) (w : Store) (old new : Row) (rest : List Step) (x : Step) (row : IsRow y w old)
    (off : old.steps.items ≡ rest ++ x ∷ []) (left : new.steps.items ≡ rest) where
  turned : (z : Step) → x ≡ z → reverse old.steps.items ≡ z ∷ reverse rest
  turned z is = pushed-step old.steps.items rest x off ∙ ap (λ a. a ∷ reverse rest) is

  pub step-give : (t : Reference) → x ≡ step.Give t → new.values.items ≡ old.values.items ++ t ∷ []
      → IsMade y w w (reverse old.steps.items) old.values.items (reverse new.steps.items) new.values.items
  step-give t is values =
      let e = turned (step.Give t) is in
      made-at y w w (reverse old.steps.items) (step.Give t ∷ reverse rest) (reverse rest) (reverse new.steps.items) old.values.items new.values.items
      (old.values.items ++ t ∷ []) e (ap reverse left) values
      (made-give y w (reverse rest) old.values.items t (subst (λ ss. AreInRow y w ss old.values.items) e row))

  pub step-last : (t : Reference) (at : ℕ) → x ≡ step.GiveLast t at
      → new.values.items ≡ take at old.values.items ++ (drop (suc at) old.values.items ++ t ∷ [])
      → IsMade y w w (reverse old.steps.items) old.values.items (reverse new.steps.items) new.values.items
  step-last t at is values =
      let e = turned (step.GiveLast t at) is in
      made-at y w w (reverse old.steps.items) (step.GiveLast t at ∷ reverse rest) (reverse rest) (reverse new.steps.items) old.values.items new.values.items
      (take at old.values.items ++ (drop (suc at) old.values.items ++ t ∷ [])) e (ap reverse left) values
      (made-last y w (reverse rest) old.values.items t at (subst (λ ss. AreInRow y w ss old.values.items) e row))

  pub step-apply : (w' : Store) (f k : ℕ) → x ≡ step.Invoke f k → Keeps w w' (take (length old.values.items - k) old.values.items)
      → IsAppliedOn y w w' f k old.values.items new.values.items
      → IsMade y w w' (reverse old.steps.items) old.values.items (reverse new.steps.items) new.values.items
  step-apply w' f k is keeps applied =
      let e = turned (step.Invoke f k) is in
      made-at y w w' (reverse old.steps.items) (step.Invoke f k ∷ reverse rest) (reverse rest) (reverse new.steps.items) old.values.items new.values.items
      new.values.items e (ap reverse left) refl
      (made-apply y w w' f k (reverse rest) old.values.items new.values.items (subst (λ ss. AreInRow y w ss old.values.items) e row) keeps applied)

pub keeps-none : {w w' : Store} {work : List Reference} → Keeps w w' work → Keeps w w' []
keeps-none keeps = Keeps-fewer (λ t c. absurd (no_element t c)) keeps

-- ---- all steps

-- moves that are made as they are written leave the same tree, and still fit
record Same (ms : List Move) (st : List Tree) (ms' : List Move) (st' : List Tree) : Type 0 where
  tree : written ms' st' ≡ written ms st
  fits : Fits ms' (length st') 1

same-written : (ms : List Move) (st : List Tree) (ms' : List Move) (st' : List Tree) → Fits ms (length st) 1 → Moves (λ n u. Done u n) 0 0 ms st ms' st' true
    → Same ms st ms' st'
same-written [] st ms' st' fits h = absurd h
same-written (Give v ∷ ms) st ms' st' fits h = record {
  tree = ap (λ xs. written xs st') h.1 ∙ ap (written ms) h.2;
  fits = subst (λ xs. Fits xs (length st') 1) (sym h.1) (subst (λ (xs : List Tree). Fits ms (length xs) 1) (sym h.2) fits);
}
same-written (Invoke name k ∷ ms) st ms' st' fits h =
    let is : application name (taken k st none) ≡ h.0 = (let e = h.1 in cc e) in
    let long : length (drop k st) ≡ length st - k = length-drop k st in
    record {
      tree = ap (λ xs. written xs st') h.2 ∙ ap (written ms) h.3 ∙ ap (λ v. written ms (v ∷ drop k st)) (sym is);
      fits = subst (λ xs. Fits xs (length st') 1) (sym h.2) (subst (λ (xs : List Tree). Fits ms (length xs) 1) (sym h.3)
          (subst (λ d. Fits ms (suc d) 1) (sym long) fits.1));
    }

-- as far as the steps were made
pub record Writing (y : Spec) (w0 w : Store) (old now : Row) : Type 0 where
  pub row : IsRow y w now
  pub fits : Fits (moves_in y w now) (length (stack_in w now)) 1
  pub whole : written (moves_in y w now) (stack_in w now) ≡ written (moves_in y w0 old) (stack_in w0 old)

can : (ms : List Move) (d : ℕ) → 0 < length ms → Fits ms d 1 → CanTurn ms d
can [] d some fits = let no : ⊥ = omega (arith, some) in absurd no
can (Give v ∷ ms) d some fits = tt
can (Invoke name k ∷ ms) d some fits = fits.0

moves-long : (y : Spec) (w : Store) (ss : List Step) → length (moves_of y w ss) ≡ length ss
moves-long y w [] = refl
moves-long y w (step.Give t ∷ ss) = ap suc (moves-long y w ss)
moves-long y w (step.GiveLast t at ∷ ss) = ap suc (moves-long y w ss)
moves-long y w (step.Invoke f k ∷ ss) = ap suc (moves-long y w ss)

pub writing-can : (y : Spec) (w0 w : Store) (old now : Row) → Writing y w0 w old now → 0 < length now.steps.items
    → CanTurn (moves_in y w now) (length (stack_in w now))
writing-can y w0 w old now h some =
    let many = moves-long y w (reverse now.steps.items) ∙ length-reverse now.steps.items in
    can (moves_in y w now) (length (stack_in w now)) (omega (arith, many, some)) h.fits

pub writing-next : (y : Spec) (w0 w w' : Store) (old now new : Row) → Writing y w0 w old now → IsRow y w' new
    → Moves (λ n u. Done u n) 0 0 (moves_in y w now) (stack_in w now) (moves_in y w' new) (stack_in w' new) true → Writing y w0 w' old new
writing-next y w0 w w' old now new h row m =
    let s = same-written (moves_in y w now) (stack_in w now) (moves_in y w' new) (stack_in w' new) h.fits m in
    record { row = row; fits = s.fits; whole = s.tree ∙ h.whole }

-- one value is left
one-left : (w : Store) (vs : List Reference) → length (held_trees w (stacked [] vs)) ≡ 1 → (v : Reference) × (vs ≡ v ∷ [])
one-left w vs e = by vs (sym (length-reverse vs) ∙ sym (length-map (reverse vs) (held_tree w)) ∙ e)
  where
    by : (us : List Reference) → length us ≡ 1 → (v : Reference) × (us ≡ v ∷ [])
    by [] e = let no : ⊥ = omega (arith, e) in absurd no
    by (u ∷ []) e = (u, refl)
    by (u ∷ x ∷ us) e = let no : ⊥ = omega (arith, e) in absurd no

-- no step is left: the value on top is the tree
pub record Written (w : Store) (now : Row) (u : Tree) : Type 0 where
  pub some : 0 < length now.values.items
  pub is : (t : Reference) → slice_get now.values.items (length now.values.items - 1) ≡ Some t → tree_at w t ≡ Some u

pub writing-ends : (y : Spec) (w0 w : Store) (old now : Row) → Writing y w0 w old now → length now.steps.items ≤ 0
    → Written w now (written (moves_in y w0 old) (stack_in w0 old))
writing-ends y w0 w old now h le =
    let nil : now.steps.items ≡ [] = nil_from_length now.steps.items (omega (arith, le)) in
    let fits : Fits (moves_of y w []) (length (held_trees w (stacked [] now.values.items))) 1 =
    subst (λ (xs : List Step). Fits (moves_of y w (reverse xs)) (length (held_trees w (stacked (reverse xs) now.values.items))) 1) nil h.fits in
    let one = one-left w now.values.items fits in
    let tree : held_tree w one.0 ≡ written (moves_in y w0 old) (stack_in w0 old) =
    sym (ap (λ (xs : List Step). written (moves_of y w (reverse xs)) (held_trees w (stacked (reverse xs) now.values.items))) nil
    ∙ ap (λ us. written [] (held_trees w (stacked [] us))) one.1) ∙ h.whole in
    record {
      some = subst (λ (us : List Reference). 0 < length us) (sym one.1) (omega arith);
      is = λ t e.
          let same : Some one.0 ≡ Some t = subst (λ (us : List Reference). slice_get us (length us - 1) ≡ Some t) one.1 e in
          let top : one.0 ≡ t = cc same in
          subst (λ x. tree_at w x ≡ Some (written (moves_in y w0 old) (stack_in w0 old))) top
          (held-some w one.0 (subst (AllHeld w) one.1 h.row.held one.0 (cons_head one.0 [])) ∙ ap (λ u. let o : Option Tree = Some u in o) tree);
    }

-- What the engine of a bank promises, as the bank's calls promise it.
use Rattle.std.proofs.Common.{◌≡◌, ◌≢◌, ◌⊎◌, inl, inr, ℕ, List, [], ◌∷◌, refl, sym, ap, ◌∙◌, subst, arith, zero}
use Rattle.std.specs.Prelude.{Option, Some, None, Result, Ok, Err, IsSome, IfOk, IfErr, IfSome, Contains}
use Rattle.rx_term.specs.Tree.{Tree, Items, none, list_of}
use Rattle.rx_term.specs.Store.{Store, tree_at, cells, longer}
use Rattle.rx_term.specs.Steps.{Grows, Keeps, Makes, Reclaims, SameBesideContent, MakesOrRefuses}
use Rattle.rx_term.proofs.StoreLemmas.{some-value, same_term}
use Rattle.rx_term.proofs.KeepLemmas.{Keeps-fewer, Keeps-Reclaims, kept-work, still-reached}
use Rattle.rx_term.specs.declared.Term.{Term}
use Rattle.rx_term.specs.declared.faults.BankFault.{BankFault}
use Rattle.rx_term.specs.declared.faults.BankFault.TheVariants as bank
use Rattle.rec_syntax.specs.Syntax.{Spec}
use Rattle.rec_sorts.specs.TermRules.{broken_by_terms, broken_by_elements}
use Rattle.rec_sorts.specs.TermsFaults.{IsTermsFault}
use Rattle.rec_sorts.specs.declared.fault.TermsFault.TheVariants as terms
use Rattle.rec_memo.specs.Pairs.{Pairs}
use Rattle.rec_engine.specs.Cells.{RoomOnly, HasNoRoom}
use Rattle.rec_engine.specs.Engine.{IsGiven, IsGround, IsOutcome, IsNormalised, IsFullOf, RoomOnlyFor, eval_tree}
use Rattle.rec_engine.specs.declared.engine.errors.EngineFault.{EngineFault}
use Rattle.rec_engine.specs.declared.engine.errors.EngineFault.TheVariants as engine
use Rattle.rec_engine.specs.Control.{IfEnded}
use Rattle.rec_engine.specs.declared.engine.Controlled.{Controlled}
use Rattle.rec_engine.specs.declared.engine.Controlled.TheVariants.{Ended, Stopped}
use Rattle.rec_engine.specs.declared.engine.Outcome.{Outcome}
use Rattle.psilt_core.specs.Banks.{BankState, Specified, IsSpecified, IsSameButTerms, store_of}
use Rattle.psilt_core.specs.Inner.Engines.{with_engine}
use Rattle.psilt_core.specs.declared.limited.LimitedBank.{LimitedBank}
use Rattle.rec_engine.specs.declared.engine.Engine.{Engine}
use Rattle.rec_engine.specs.declared.engine.Outcome.TheVariants as outcome
use Rattle.psilt_core.specs.Evaluating.{IsRoom, IsRoomFault, IsFilledBy, IsFilledWith, IsCollected, LacksCells, HasTree, ComesTo, Comes, Normalises, told_of}
use Rattle.psilt_core.specs.Works.{IsSameButBank}
use Rattle.psilt_core.specs.declared.evaluating.Normalised.{Normalised}
use Rattle.psilt_core.specs.declared.fault.Fault.{Fault}
use Rattle.psilt_core.specs.declared.fault.Fault.TheVariants as fault
use Rattle.psilt_core.specs.declared.work.Work.{Work}

in_here : {A : Type 0} (a : A) (xs : List A) → Contains (a ∷ xs) a
in_here a xs = (zero, omega arith, refl)

-- what holds of each answer holds of this one
pub of_ok : {A E : Type 0} (P : A → Type 0) (r : Result A E) (a : A) → r ≡ Ok a → IfOk r P → P a
of_ok P r a e h = subst (λ x. IfOk x P) e h

pub of_err : {A E : Type 0} (P : E → Type 0) (r : Result A E) (a : E) → r ≡ Err a → IfErr r P → P a
of_err P r a e h = subst (λ x. IfErr x P) e h

-- what holds of the specification of an engine and of its store, holds of those of the bank
pub on_spec : {A E : Type 0} (b : BankState) (s : Specified) (y : Spec) (w w' : Store) (Q : Spec → Store → A → Type 0) (r : Result A E)
    → b.specified ≡ Some s → y ≡ s.spec → w ≡ w' → IfOk r (Q y w) → IfOk r (λ a. IsSpecified b (λ z. Q z w' a))
on_spec b s y w w' Q (Ok a) e f g h = (s, e, subst (λ z. Q z w' a) f (subst (λ v. Q y v a) g h))
on_spec b s y w w' Q (Err x) e f g h = tt

-- the same of what was refused
pub on_spec_err : {A E : Type 0} (b : BankState) (s : Specified) (y : Spec) (w w' : Store) (Q : Spec → Store → E → Type 0) (r : Result A E)
    → b.specified ≡ Some s → y ≡ s.spec → w ≡ w' → IfErr r (Q y w) → IfErr r (λ a. IsSpecified b (λ z. Q z w' a))
on_spec_err b s y w w' Q (Ok a) e f g h = tt
on_spec_err b s y w w' Q (Err x) e f g h = (s, e, subst (λ z. Q z w' x) f (subst (λ v. Q y v x) g h))

-- the same of a bank whose engine was taken out
module _ (b : BankState) (e : Engine LimitedBank) (most : ℕ) (symbols : List ℕ) (parts : b ≡ with_engine e most symbols) where
  abbrev taken : Specified
  taken = record { spec = e.spec; options = e.options }

  is_taken : b.specified ≡ Some taken
  is_taken = ap (λ (x : BankState). x.specified) parts

  pub on_engine : {A E : Type 0} (y : Spec) (w w' : Store) (Q : Spec → Store → A → Type 0) (r : Result A E) → y ≡ e.spec → w ≡ w' → IfOk r (Q y w)
      → IfOk r (λ a. IsSpecified b (λ z. Q z w' a))
  on_engine y w w' Q r f g h = on_spec b taken y w w' Q r is_taken f g h

  pub on_engine_err : {A E : Type 0} (y : Spec) (w w' : Store) (Q : Spec → Store → E → Type 0) (r : Result A E) → y ≡ e.spec → w ≡ w'
      → IfErr r (Q y w) → IfErr r (λ a. IsSpecified b (λ z. Q z w' a))
  on_engine_err y w w' Q r f g h = on_spec_err b taken y w w' Q r is_taken f g h

-- what the engine answers where cells ran out
pub lacks_cells : {A : Type 0} (b : BankState) (w : Store) (work : List Term) (m : Pairs) (r : Result A EngineFault) → w ≡ store_of b → b.memo ≡ Some m
    → RoomOnly w work m r → IfErr r (IsRoom (LacksCells b))
lacks_cells b w work m (Ok a) e f h = tt
lacks_cells b w work m (Err engine.Memory) e f h = tt
lacks_cells b w work m (Err engine.Room) e f h = (m, f, (work, subst (λ v. HasNoRoom v work m) e h))
lacks_cells b w work m (Err engine.Deep) e f h = absurd h

filled_with : {A : Type 0} (b : BankState) (w : Store) (m : Pairs) (tree : Option Tree) (r : Result A EngineFault) → w ≡ store_of b → b.memo ≡ Some m
    → RoomOnlyFor w m tree r → IfErr r (IsRoom (IsFilledWith b tree))
filled_with b w m tree (Ok a) e f h = tt
filled_with b w m tree (Err engine.Memory) e f h = tt
filled_with b w m None (Err engine.Room) e f h = absurd h
filled_with b w m (Some u) (Err engine.Room) e f h = (m, f, (u, refl, subst (λ v. IsFullOf v m u) e h))
filled_with b w m tree (Err engine.Deep) e f h = absurd h

specified_room : {A : Type 0} (b : BankState) (s : Specified) (P : Spec → Type 0) (r : Result A EngineFault) → b.specified ≡ Some s
    → IfErr r (IsRoom (P s.spec)) → IfErr r (IsRoom (IsSpecified b P))
specified_room b s P (Ok a) e h = tt
specified_room b s P (Err engine.Memory) e h = tt
specified_room b s P (Err engine.Room) e h = (s, e, h)
specified_room b s P (Err engine.Deep) e h = absurd h

pub eval_filled : {A : Type 0} (b b' : BankState) (s : Specified) (y : Spec) (i : ℕ) (w : Store) (m : Pairs) (r : Result A EngineFault)
    → b.specified ≡ Some s → y ≡ s.spec → w ≡ store_of b' → b'.memo ≡ Some m → RoomOnlyFor w m (eval_tree y i) r
    → IfErr r (IsRoom (IsSpecified b (λ z. IsFilledWith b' (eval_tree z i))))
eval_filled b b' s y i w m r e f g h room = specified_room b s (λ z. IsFilledWith b' (eval_tree z i)) r e
    (subst (λ z. IfErr r (IsRoom (IsFilledWith b' (eval_tree z i)))) f (filled_with b' w m (eval_tree y i) r g h room))

pub not_deep : (P : Type 0) (e : EngineFault) → IsRoom P e → e ≢ engine.Deep
not_deep P engine.Memory h = λ s. cc s
not_deep P engine.Room h = λ s. cc s
not_deep P engine.Deep h = absurd h

-- a bank that only gets terms keeps all
pub keeps_grown : (old new : Store) (work : List Term) → Grows old new → SameBesideContent old new → Keeps old new work
keeps_grown old new work g b = record { trees = λ t u h r. g.trees t u h; beside = b }

-- what is new beside the empty list, and what a collection leaves
pub added_nil : (old new : Store) (n : Term) → Makes old new (Some (Items none none)) n → (r : Term) (v : Tree) → tree_at new r ≡ Some v
    → (tree_at old r ≡ Some v) ⊎ (v ≡ list_of none)
added_nil old new n m r v e = elim (same_term r n) [
  | inl same ↦ (
      let both : Some v ≡ Some (Items none none) = sym e ∙ ap (λ t. tree_at new t) same ∙ m.made in let is : v ≡ Items none none = cc in inr is
      )
  | inr other ↦ inl (sym (m.others r other) ∙ e)
]

pub filled_by : (old mid new : Store) (t : Term) → Reclaims old mid (t ∷ []) → Grows mid new → SameBesideContent mid new → cells new ≡ new.cap
    → ((r : Term) (v : Tree) → tree_at new r ≡ Some v → (tree_at mid r ≡ Some v) ⊎ (v ≡ list_of none)) → IsFilledBy new t
filled_by old mid new t c g b full added = record {
  full = full;
  needed = λ r v here. elim (added r v here) [
    | inl there ↦ inl (still-reached (keeps_grown mid new (t ∷ []) g b) v (still-reached (Keeps-Reclaims c) v (c.only r v there).1))
    | inr nil ↦ inr nil
  ];
}

pub collected : {A : Type 0} (old mid new : Store) (t : Term) (r : Result A BankFault) → Reclaims old mid (t ∷ []) → Grows mid new
    → SameBesideContent mid new → IfErr r (IsRoomFault new)
    → IfErr r (λ e. (s : Term) (v : Tree) → tree_at new s ≡ Some v → (tree_at mid s ≡ Some v) ⊎ (v ≡ list_of none))
    → IfErr r (IsCollected new t)
collected old mid new t (Ok a) c g b full added = tt
collected old mid new t (Err bank.Memory) c g b full added = tt
collected old mid new t (Err bank.Full) c g b full added = filled_by old mid new t c g b full added

-- a make changes nothing but terms
pub beside_made : (old new : Store) (tree : Option Tree) (x : Result Term BankFault) → MakesOrRefuses old new tree x → SameBesideContent old new
beside_made old new tree (Ok r) m = m.beside
beside_made old new tree (Err e) m = m.beside

pub grown_same : (old new : Store) (t : Term) → Grows old new → IsSome (tree_at old t) → tree_at new t ≡ tree_at old t
grown_same old new t g h = let x = some-value (tree_at old t) h in g.trees t x.0 x.1 ∙ sym x.1

pub still_there : (a b : Option Tree) → b ≡ a → IsSome a → IsSome b
still_there a b e h = subst IsSome (sym e) h

-- a reference that a reclaim keeps
pub reclaimed_same : (old new : Store) (t : Term) → Reclaims old new (t ∷ []) → IsSome (tree_at old t) → tree_at new t ≡ tree_at old t
reclaimed_same old new t m h = kept-work (Keeps-Reclaims m) t (in_here t []) h

pub kept_same : (old new : Store) (t : Term) → Keeps old new (t ∷ []) → IsSome (tree_at old t) → tree_at new t ≡ tree_at old t
kept_same old new t k h = kept-work k t (in_here t []) h

pub kept_roots : (old new : Store) (work : List Term) → Keeps old new work → Keeps old new []
kept_roots old new work k = Keeps-fewer (λ t c. absurd (omega (arith, c.1))) k

-- the list of a term alone, where it was made after a reclaim
pub list_again : (w w' v : Store) (t : Term) (r : Result Term BankFault) → tree_at w' t ≡ tree_at w t
    → IfOk r (λ x. tree_at v x ≡ longer (tree_at w' t) (Some (Items none none))) → IfOk r (λ x. tree_at v x ≡ longer (tree_at w t) (Some (Items none none)))
list_again w w' v t r e h = subst (λ o. IfOk r (λ x. tree_at v x ≡ longer o (Some (Items none none)))) e h

-- the list of a term alone keeps the rules where the term does
module _ (b b' : BankState) (t list : Term) (same : b'.specified ≡ b.specified) (held : IsSome (tree_at (store_of b) t))
    (kept : tree_at (store_of b') t ≡ tree_at (store_of b) t) (is : tree_at (store_of b') list ≡ longer (tree_at (store_of b) t) (Some (Items none none))) where
  pub given_is : IsSpecified b' (λ y. IfSome (tree_at (store_of b') list) (λ x. broken_by_terms y x ≡ None)) → IsSpecified b (λ y. IsGiven y (store_of b') t)
  given_is h =
      let x = some-value (tree_at (store_of b) t) held in
      let listed = is ∙ ap (λ o. longer o (Some (Items none none))) x.1 in
      (h.0, sym same ∙ h.1, record { tree = x.0; held = kept ∙ x.1; is_ground = subst (λ o. IfSome o (λ u. broken_by_terms h.0.spec u ≡ None)) listed h.2 })

  pub broken_is : (number : ℕ) → IsSpecified b' (λ y. IfSome (tree_at (store_of b') list) (λ x.
      IsTermsFault (broken_by_terms y x) (terms.Rule number))) → IsSpecified b (λ y. HasTree (store_of b) t (λ u. broken_by_elements y (u ∷ []) ≡ Some number))
  broken_is number h =
      let x = some-value (tree_at (store_of b) t) held in
      let listed = is ∙ ap (λ o. longer o (Some (Items none none))) x.1 in
      (h.0, sym same ∙ h.1, (x.0, x.1, subst (λ o. IfSome o (λ u. broken_by_terms h.0.spec u ≡ Some number)) listed h.2))

same-some : {X : Type 0} (a b : X) → Some a ≡ Some b → a ≡ b
same-some a b e = cc

-- two facts of what is specified are facts of one specification
pub both_specified : (b : BankState) (P Q : Spec → Type 0) → IsSpecified b P → IsSpecified b Q → IsSpecified b (λ y. P y × Q y)
both_specified b P Q h k = (h.0, h.1, (h.2, subst (λ (s : Specified). Q s.spec) (same-some k.0 h.0 (sym k.1 ∙ h.1)) k.2))

pub specified_map : (b : BankState) (P Q : Spec → Type 0) → ((y : Spec) → P y → Q y) → IsSpecified b P → IsSpecified b Q
specified_map b P Q f h = (h.0, h.1, f h.0.spec h.2)

-- a specified term to evaluate
pub gives_term : (b b' : BankState) (i : ℕ) (t : Term) → IsSpecified b (λ y. tree_at (store_of b') t ≡ eval_tree y i)
    → IsSpecified b (λ y. IsGiven y (store_of b') t)
    → IsSpecified b (λ y. HasTree (store_of b') t (λ u. IsGround y u × (eval_tree y i ≡ Some u)))
gives_term b b' i t h k =
    specified_map b (λ y. (tree_at (store_of b') t ≡ eval_tree y i) × IsGiven y (store_of b') t) (λ y.
    HasTree (store_of b') t (λ u. IsGround y u × (eval_tree y i ≡ Some u)))
    (λ y p. (p.1.tree, p.1.held, (p.1.is_ground, sym p.0 ∙ p.1.held)))
    (both_specified b (λ y. tree_at (store_of b') t ≡ eval_tree y i) (λ y. IsGiven y (store_of b') t) h k)

-- what a term came to that keeps the rules
ended_to : (b b' : BankState) (t : Term) (n : ℕ) (o : Outcome) → IsSpecified b (λ y. IsGiven y (store_of b) t)
    → IsSpecified b (λ y. (u : Tree) → tree_at (store_of b) t ≡ Some u → IsOutcome y (store_of b') n u o)
    → IsSpecified b (λ y. (u : Tree) → tree_at (store_of b) t ≡ Some u → IsNormalised y (store_of b') n u o) → ComesTo b b' t n o
ended_to b b' t n o given outcome rewriting =
    let P : Spec → Type 0 = λ y. (u : Tree) → tree_at (store_of b) t ≡ Some u → IsOutcome y (store_of b') n u o in
    let Q : Spec → Type 0 = λ y. (u : Tree) → tree_at (store_of b) t ≡ Some u → IsNormalised y (store_of b') n u o in
    let both = both_specified b P Q outcome rewriting in
    let all = both_specified b (λ y. IsGiven y (store_of b) t) (λ y. P y × Q y) given both in
    (all.0, all.1, (all.2.0.tree, all.2.0.held, (all.2.0.is_ground, all.2.1.0 all.2.0.tree all.2.0.held, all.2.1.1 all.2.0.tree all.2.0.held)))

ended_told : (b b' : BankState) (t : Term) (n : ℕ) (o : Outcome) → ComesTo b b' t n o → Comes b b' t n (told_of (Ended o))
ended_told b b' t n (outcome.Value r k) h = h
ended_told b b' t n outcome.Limit h = h

pub comes_told : (b b' : BankState) (t : Term) (n : ℕ) (e : Controlled) → IsSpecified b (λ y. IsGiven y (store_of b) t)
    → IsSpecified b (λ y. IfEnded (λ o. (u : Tree) → tree_at (store_of b) t ≡ Some u → IsOutcome y (store_of b') n u o) e)
    → IsSpecified b (λ y. IfEnded (λ o. (u : Tree) → tree_at (store_of b) t ≡ Some u → IsNormalised y (store_of b') n u o) e)
    → Comes b b' t n (told_of e)
comes_told b b' t n (Ended o) given outcome rewriting = ended_told b b' t n o (ended_to b b' t n o given outcome rewriting)
comes_told b b' t n Stopped given outcome rewriting = (given.0, given.1, (given.2.tree, given.2.held, given.2.is_ground))

-- the same seen from before its rules were asked
comes_before : (b b' b'' : BankState) (t : Term) (n : ℕ) (o : Outcome) → b'.specified ≡ b.specified → tree_at (store_of b') t ≡ tree_at (store_of b) t
    → ComesTo b' b'' t n o → ComesTo b b'' t n o
comes_before b b' b'' t n o same tree h = (h.0, sym same ∙ h.1, (h.2.0, sym tree ∙ h.2.1, h.2.2))

pub normalises : (b b' b'' : BankState) (t : Term) (n rule : ℕ) (r : Result Normalised Fault) → b'.specified ≡ b.specified
    → tree_at (store_of b') t ≡ tree_at (store_of b) t → Comes b' b'' t n r → Normalises b b'' t n rule r
normalises b b' b'' t n rule (Ok v) same tree h = comes_before b b' b'' t n (outcome.Value v.term v.steps) same tree h
normalises b b' b'' t n rule (Err fault.Limit) same tree h = comes_before b b' b'' t n outcome.Limit same tree h
normalises b b' b'' t n rule (Err fault.Interrupted) same tree h = (h.0, sym same ∙ h.1, (h.2.0, sym tree ∙ h.2.1, h.2.2))
normalises b b' b'' t n rule (Err fault.Memory) same tree h = tt
normalises b b' b'' t n rule (Err fault.Full) same tree h = inr h
normalises b b' b'' t n rule (Err fault.Closed) same tree h = absurd h
normalises b b' b'' t n rule (Err fault.Stale) same tree h = absurd h
normalises b b' b'' t n rule (Err fault.Kind) same tree h = absurd h
normalises b b' b'' t n rule (Err fault.Syntax) same tree h = absurd h
normalises b b' b'' t n rule (Err fault.Range) same tree h = absurd h
normalises b b' b'' t n rule (Err fault.Name) same tree h = absurd h
normalises b b' b'' t n rule (Err fault.Roots) same tree h = absurd h
normalises b b' b'' t n rule (Err fault.Unprotected) same tree h = absurd h
normalises b b' b'' t n rule (Err fault.Open) same tree h = absurd h
normalises b b' b'' t n rule (Err fault.Rule) same tree h = absurd h
normalises b b' b'' t n rule (Err fault.Unspecified) same tree h = absurd h
normalises b b' b'' t n rule (Err fault.Unmatched) same tree h = absurd h
normalises b b' b'' t n rule (Err fault.Unknown) same tree h = absurd h

-- a change of terms alone
pub same_bank : (v : Work) (b : BankState) → IsSameButTerms v.bank b → IsSameButBank v (record v { bank = b })
same_bank v b e = ap (λ (c : BankState). record v { bank = c }) e

-- What is made on top of a work list that is lent.
use Rattle.std.proofs.Common.{ℕ, ◌-◌, ◌≡◌, ◌<◌, ◌≤◌, length, get_or, take, drop, List, [], ◌∷◌, ◌++◌}
use Rattle.std.proofs.Common.{Option, Some, Contains, is_some, sym, ap, ◌∙◌, subst, arith, append_assoc}
use Rattle.std.proofs.lemmas.List.{take-append-drop, length-drop}
use Rattle.rx_term.specs.Tree.{Tree, Items, none}
use Rattle.rx_term.specs.Store.{Store, tree_at, signature_of}
use Rattle.rx_term.specs.Steps.{Keeps}
use Rattle.rx_term.specs.declared.Term.{Term}
use Rattle.rx_term.specs.declared.Symbol as bank
use Rattle.rx_term.specs.Walks.{AllHeld}
use Rattle.rx_term.proofs.KeepLemmas.{Keeps-fewer, Keeps-trans, still-held}
use Rattle.rx_term.proofs.WalkLemmas.{AllHeld-push}
use Rattle.rec_syntax.specs.Syntax.{Spec}
use Rattle.rec_sorts.specs.Lookup.{symbols}
use Rattle.rec_sorts.specs.Numbering.{arity_of}
use Rattle.rec_sorts.specs.Linked.{AreLinked, signature}
use Rattle.rec_engine.specs.Machine.{called}
use Rattle.rec_engine.specs.Lent.{IsAppliedOn}
use Rattle.rec_engine.specs.Inner.Building.{CanApply, Applies, KeepsBelow}
use Rattle.rec_engine.proofs.BuildingLemmas.{trees-kept}
use Rattle.rec_engine.proofs.EndLemmas.{in-front, in-end}
use Rattle.rec_engine.proofs.TurnLemmas.{linked-kept}

-- what stands below a place, and from it on
below-within : (i : ℕ) (work : List Term) (t : Term) → Contains (take i work) t → Contains work t
below-within i work t c = subst (λ (xs : List Term). Contains xs t) (take-append-drop i work) (in-front (take i work) (drop i work) t c)

top-within : (i : ℕ) (work : List Term) (t : Term) → Contains (drop i work) t → Contains work t
top-within i work t c = subst (λ (xs : List Term). Contains xs t) (take-append-drop i work) (in-end (take i work) (drop i work) t c)

pub below-kept : (old new : Store) (i : ℕ) (work : List Term) → Keeps old new work → Keeps old new (take i work)
below-kept old new i work k = Keeps-fewer (below-within i work) k

-- a list that stays held, and one reference more
pub held-above : (old new : Store) (work work' : List Term) (t : Term) → Keeps old new work → AllHeld old work → work' ≡ work ++ t ∷ []
    → tree_at new t ≡ Some (Items none none) → AllHeld new work'
held-above old new work work' t k held pushed is = subst (AllHeld new) (sym pushed) (AllHeld-push new work t (still-held k held) (ap is_some is))

module _ (y : Spec) (old mid : Store) (f k : ℕ) (work work' : List Term) (empty : Term) (s : bank.Symbol) (ss : List bank.Symbol)
    (declared : f < length (symbols y)) (arity : arity_of y f ≡ k) (le : k ≤ length work) (linked : AreLinked y old ss) (es : s ≡ get_or ss f s)
    (keeps : Keeps old mid work) (is_empty : tree_at mid empty ≡ Some (Items none none)) (pushed : work' ≡ work ++ empty ∷ []) where
  -- the references on top, so many, and an empty list above them
  abbrev pub can-top : CanApply mid work' k s
  can-top = record {
    below = take (length work - k) work;
    arguments = drop (length work - k) work;
    list = empty;
    signature = signature y f;
    split = pushed ∙ ap (λ xs. xs ++ empty ∷ []) (sym (take-append-drop (length work - k) work))
        ∙ append_assoc (take (length work - k) work) (drop (length work - k) work) (empty ∷ []);
    counted = length-drop (length work - k) work ∙ (let z : length work - (length work - k) ≡ k = omega (arith, le) in z);
    empty = is_empty;
    symbol = ap (signature_of mid) es ∙ (linked-kept y old mid ss work linked keeps).linked f s declared;
    arity = arity;
  }

  -- what stands below them stays
  pub top-keeps : (new : Store) → KeepsBelow mid new work' k s → Keeps old new (take (length work - k) work)
  top-keeps new below = Keeps-trans (below-kept old mid (length work - k) work keeps) (below can-top)

  -- and the application takes their place
  pub top-applied : (new : Store) (work'' : List Term) → AllHeld old work → Applies mid new work' work'' k s → IsAppliedOn y old new f k work work''
  top-applied new work'' held applies =
      let a = applies can-top in
      record {
        top = a.on_top.top;
        split = a.on_top.split;
        is = a.on_top.is ∙ ap (λ ts. let o : Option Tree = Some (called y f ts) in o)
            (trees-kept old mid (drop (length work - k) work) work keeps held (top-within (length work - k) work));
      }

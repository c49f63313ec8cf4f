-- The arguments of a call, which a collection and the evaluation keep.
use Rattle.std.proofs.Common.{◌≡◌, ◌≢◌, ◌⊎◌, inl, inr, ℕ, List, [], ◌∷◌, drop, Option, Some, IsSome, Contains, refl, sym, ap, ◌∙◌, subst, arith}
use Rattle.std.proofs.Common.{Result, Ok, Err, IfErr, IfOk}
use Rattle.std.specs.FinMap as map
use Rattle.std.specs.Prelude.{Bool, true, false, ◌&&◌, is_some, length, unwrap_or, zero, suc, ◌≤◌}
use Rattle.rx_term.specs.Name.{Signature}
use Rattle.rx_term.specs.Parts.{list_parts, parts}
use Rattle.rx_term.specs.Tree.{Tree, Trees, Items, none, from_list, list_of, to_list}
use Rattle.rx_term.specs.Store.{Store, signature_of, tree_at, cells}
use Rattle.rx_term.specs.Steps.{Grows, IsReached, Keeps, MakesOrRefuses, Reclaims, SameBesideContent}
use Rattle.rx_term.specs.Walks.{AllHeld, HaveTrees, Lists, held_tree, held_trees}
use Rattle.rx_term.specs.declared.Symbol.{Symbol}
use Rattle.rx_term.specs.declared.Term.{Term}
use Rattle.rx_term.specs.declared.faults.BankFault.{BankFault}
use Rattle.rx_term.specs.declared.faults.BankFault.TheVariants as bank
use Rattle.rx_term.proofs.KeepLemmas.{Keeps-Reclaims, kept-work, still-reached}
use Rattle.rx_term.proofs.PartsLemmas.{cons_cases, cons_head, cons_tail, parts-trans}
use Rattle.rx_term.proofs.StoreLemmas.{same_term}
use Rattle.rx_term.proofs.TreeLemmas.{from_to_list, to_from_list}
use Rattle.rx_term.proofs.WalkLemmas.{AllHeld-first, AllHeld-from_trees, AllHeld-rest}
use Rattle.rec_engine.proofs.PartLemmas.{argument-part, element-part}
use Rattle.psilt_core.specs.Answers.{AddsRests, IsApplication, IsRest, are_held, term_of, terms_of}
use Rattle.psilt_core.specs.Calling.{IsCallFault, IsFilledByCall, call_of}
use Rattle.psilt_core.specs.Evaluating.{IsRoomFault}
use Rattle.psilt_core.proofs.EvaluatingLemmas.{grown_same, keeps_grown, still_there}

-- ---- trees of references

held_is : (w : Store) (r : Term) → IsSome (tree_at w r) → tree_at w r ≡ Some (held_tree w r)
held_is w r h = by (tree_at w r) refl h
  where
    by : (o : Option Tree) → tree_at w r ≡ o → IsSome o → tree_at w r ≡ Some (held_tree w r)
    by (Some t) e h = e ∙ ap (λ x. Some x) (sym (ap (λ z. unwrap_or z (list_of none)) e))
    by Option.None e h = cc

pub held_have : (w : Store) (rs : List Term) → AllHeld w rs → HaveTrees w rs (held_trees w rs)
held_have w [] held = tt
held_have w (r ∷ rs) held = (held_is w r (AllHeld-first w r rs held), held_have w rs (AllHeld-rest w r rs held))

-- where each reference has the same tree
pub have_as : (v w : Store) (rs : List Term) (ts : List Tree) → ((r : Term) → Contains rs r → tree_at w r ≡ tree_at v r) → HaveTrees w rs ts → HaveTrees v rs ts
have_as v w [] [] same h = tt
have_as v w (r ∷ rs) (t ∷ ts) same h = (sym (same r (cons_head r rs)) ∙ h.0, have_as v w rs ts (λ x c. same x (cons_tail r rs x c)) h.1)
have_as v w [] (t ∷ ts) same h = absurd h
have_as v w (r ∷ rs) [] same h = absurd h

pub trees_as : (w : Store) (rs : List Term) (ts : List Tree) → HaveTrees w rs ts → held_trees w rs ≡ ts
trees_as w [] [] h = refl
trees_as w (r ∷ rs) (t ∷ ts) h = rw (h.0, trees_as w rs ts h.1) refl
trees_as w [] (t ∷ ts) h = absurd h
trees_as w (r ∷ rs) [] h = absurd h

has_tree : (w : Store) (rs : List Term) (ts : List Tree) (r : Term) (t : Tree) → HaveTrees w rs ts → Contains rs r → tree_at w r ≡ Some t → Contains ts t
has_tree w [] [] r t h c e = absurd (let lt = c.1 in omega (arith, lt))
has_tree w [] (u ∷ us) r t h c e = absurd h
has_tree w (x ∷ xs) [] r t h c e = absurd h
has_tree w (x ∷ xs) (u ∷ us) r t h c e = elim (cons_cases x xs r c) [
  | inl same ↦ (
      let both : Some t ≡ Some u = sym e ∙ ap (λ z. tree_at w z) (sym same) ∙ h.0 in let is : t ≡ u = cc both in
      subst (λ z. Contains (u ∷ us) z) (sym is) (cons_head u us)
      )
  | inr later ↦ cons_tail u us t (has_tree w xs us r t h.1 later e)
]

-- a part of an argument is a part of the call
part_of_call : (w : Store) (g : Signature) (rs : List Term) (ts : Trees) (r : Term) (v u : Tree) → HaveTrees w rs (to_list ts) → Contains rs r
    → tree_at w r ≡ Some v → Contains (parts v) u → Contains (parts (call_of g ts)) u
part_of_call w g rs ts r v u h c e part =
    let among : Contains (to_list ts) v = has_tree w rs (to_list ts) r v h c e in
    parts-trans (call_of g ts) v u
    (argument-part g ts v (subst (λ us. Contains (list_parts us) v) (from_to_list ts) (element-part (to_list ts) v among))) part

-- what keeps the call keeps its arguments
pub keeps_args : (old new : Store) (g : Signature) (rs : List Term) (ts : Trees) (kept : Term) → HaveTrees old rs (to_list ts)
    → tree_at old kept ≡ Some (call_of g ts) → Keeps old new (kept ∷ []) → Keeps old new rs
keeps_args old new g rs ts kept have is k = record {
  trees = λ t u e h. k.trees t u e (elim h.1.1 [
    | inl p ↦ (h.0, (h.1.0, inl p, h.1.2, h.1.3))
    | inr c ↦ (kept, (call_of g ts, inr (cons_head kept []), is, part_of_call old g rs ts h.0 h.1.0 u have c h.1.2 h.1.3))
  ]);
  beside = k.beside;
}

-- an application of terms that are kept
pub application_as : (v w : Store) (name : List ℕ) (quoted : _) (ns : List ℕ) (tree : Option Tree) → ((r : Term) → Contains (terms_of ns) r → tree_at w r ≡ tree_at v r)
    → IsApplication w name quoted ns tree → IsApplication v name quoted ns tree
application_as v w name quoted ns tree same is = (is.0, have_as v w (terms_of ns) (to_list is.0) same is.1, is.2)

-- ---- the lists of arguments that are made

-- a list more, or none
pub added_rest : (old now new : Store) (args : List ℕ) (k : ℕ) (tree : Option Tree) (x : Result Term BankFault) → AddsRests old now args
    → MakesOrRefuses now new tree x → Lists old (terms_of (drop k args)) tree → AddsRests old new args
added_rest old now new args k tree (Ok n) added m is = λ r v e. elim (same_term r n) [
  | inl same ↦ (
      let here : tree ≡ Some v = sym m.made ∙ ap (λ t. tree_at new t) (sym same) ∙ e in
      inr (k, (is.0, is.1, sym here ∙ is.2))
      )
  | inr other ↦ added r v (sym (m.others r other) ∙ e)
]
added_rest old now new args k tree (Err f) added m is = λ r v e. added r v (ap (λ c. map.get c r.0) (sym m.content) ∙ e)

-- none is refused
pub still_rests : (old now new : Store) (args : List ℕ) (tree : Option Tree) (x : Result Term BankFault) → AddsRests old now args
    → MakesOrRefuses now new tree x → IfErr x (λ e. AddsRests old new args)
still_rests old now new args tree (Ok n) added m = tt
still_rests old now new args tree (Err f) added m = λ r v e. added r v (ap (λ c. map.get c r.0) (sym m.content) ∙ e)

drop_over : (xs : List ℕ) (k : ℕ) → length xs ≤ k → drop k xs ≡ []
drop_over [] zero le = refl
drop_over [] (suc k) le = refl
drop_over (x ∷ xs) zero le = absurd (omega (arith, le))
drop_over (x ∷ xs) (suc k) le = drop_over xs k (omega (arith, le))

-- the list of none of them
pub no_rest : (w : Store) (args : List ℕ) (tree : Option Tree) → tree ≡ Some (Items none none) → Lists w (terms_of (drop (length args) args)) tree
no_rest w args tree is = (none, subst (λ ns. HaveTrees w (terms_of ns) []) (sym (drop_over args (length args) (omega arith))) tt, is)

-- what a collection leaves beside them
filled_by_call : (old mid new : Store) (args : List ℕ) → Reclaims old mid (terms_of args) → Grows mid new → SameBesideContent mid new → cells new ≡ new.cap
    → AddsRests mid new args → IsFilledByCall new args
filled_by_call old mid new args c g b full added = record {
  full = full;
  needed = λ r v here. elim (added r v here) [
    | inl there ↦ inl (still-reached (keeps_grown mid new (terms_of args) g b) v (still-reached (Keeps-Reclaims c) v (c.only r v there).1))
    | inr rest ↦ inr (rest.0, (rest.1.0, have_grown mid new (terms_of (drop rest.0 args)) (to_list rest.1.0) g rest.1.1, rest.1.2))
  ];
}
  where
    have_grown : (v w : Store) (rs : List Term) (ts : List Tree) → Grows v w → HaveTrees v rs ts → HaveTrees w rs ts
    have_grown v w [] [] g h = tt
    have_grown v w (r ∷ rs) (t ∷ ts) g h = (g.trees r t h.0, have_grown v w rs ts g h.1)
    have_grown v w [] (t ∷ ts) g h = absurd h
    have_grown v w (r ∷ rs) [] g h = absurd h

pub call_filled : {A : Type 0} (old mid new : Store) (args : List ℕ) (r : Result A BankFault) → Reclaims old mid (terms_of args) → Grows mid new
    → SameBesideContent mid new → IfErr r (IsRoomFault new) → IfErr r (λ e. AddsRests mid new args) → IfErr r (IsCallFault new args)
call_filled old mid new args (Ok a) c g b full added = tt
call_filled old mid new args (Err bank.Memory) c g b full added = tt
call_filled old mid new args (Err bank.Full) c g b full added = filled_by_call old mid new args c g b full added

-- ---- a second try

pub grown_all : (w v : Store) (rs : List Term) → Grows w v → AllHeld w rs → AllHeld v rs
grown_all w v rs g held t c = still_there (tree_at w t) (tree_at v t) (grown_same w v t g (held t c)) (held t c)

pub all_there : (w : Store) (ns : List ℕ) → AllHeld w (terms_of ns) → are_held w ns ≡ true
all_there w [] held = refl
all_there w (n ∷ ns) held = both_true (is_some (tree_at w (term_of n))) (are_held w ns) (AllHeld-first w (term_of n) (terms_of ns) held)
    (all_there w ns (AllHeld-rest w (term_of n) (terms_of ns) held))
  where
    both_true : (a b : Bool) → a ≡ true → b ≡ true → (a && b) ≡ true
    both_true true b e f = f
    both_true false b e f = absurd (cc e)

pub beside_named : (old new : Store) → Grows old new → new.symbols ≡ old.symbols → SameBesideContent old new
beside_named old new g named = record { symbols = named; roots = g.roots; cap = g.cap }

-- the application that is made after a collection
pub made_again : (w x z : Store) (s : Symbol) (args : List ℕ) (r : Result Term BankFault) → Keeps w x (terms_of args) → AllHeld w (terms_of args)
    → IfOk r (λ t. (g : Signature) → signature_of x s ≡ Some g → IsApplication x g.name g.quoted args (tree_at z t))
    → IfOk r (λ t. (g : Signature) → signature_of w s ≡ Some g → IsApplication w g.name g.quoted args (tree_at z t))
made_again w x z s args (Ok t) k held made = λ g is.
    application_as w x g.name g.quoted args (tree_at z t) (λ r c. kept-work k r c (held r c))
    (made g (ap (λ m. map.get m s.0) k.beside.symbols ∙ is))
made_again w x z s args (Err e) k held made = tt

-- What a call comes to.
use Rattle.std.proofs.Common.{◌≡◌, ◌≢◌, ◌<◌, inr, inl, ℕ, List, ◌∷◌, [], length, Option, Some, None, IsSome, Contains, refl, sym, ap, ◌∙◌, subst, Result, Ok, Err, IfOk, IfErr, arith}
use Rattle.std.specs.Prelude.{true}
use Rattle.std.specs.Option.{option_and_then}
use Rattle.std.proofs.lemmas.List.{length-map}
use Rattle.rx_term.specs.Name.{Signature}
use Rattle.rx_term.specs.Tree.{Tree, from_list, to_list}
use Rattle.rx_term.specs.Store.{Store, arity_at, signature_of, tree_at}
use Rattle.rx_term.specs.Steps.{Keeps}
use Rattle.rx_term.specs.Walks.{AllHeld, HaveTrees, held_trees}
use Rattle.rx_term.specs.declared.Symbol.{Symbol}
use Rattle.rx_term.specs.declared.Term.{Term}
use Rattle.rx_term.proofs.KeepLemmas.{kept-work, still-held}
use Rattle.rx_term.proofs.StoreLemmas.{some-value}
use Rattle.rx_term.proofs.TreeLemmas.{to_from_list}
use Rattle.rec_syntax.specs.Syntax.{Spec}
use Rattle.rec_sorts.specs.Linked.{signature}
use Rattle.rec_sorts.specs.Lookup.{symbols}
use Rattle.rec_sorts.specs.Numbering.{arity_of}
use Rattle.rec_engine.specs.Engine.{IsCallOutcome}
use Rattle.rec_engine.specs.Machine.{called}
use Rattle.rec_engine.specs.declared.engine.Controlled.TheVariants.{Ended}
use Rattle.rec_engine.specs.declared.engine.Outcome.{Outcome}
use Rattle.rec_engine.specs.declared.engine.Outcome.TheVariants as outcome
use Rattle.psilt_core.specs.Answers.{IsApplication, are_held, terms_of}
use Rattle.psilt_core.specs.Banks.{BankState, IsSpecified, signature_at, store_of}
use Rattle.psilt_core.specs.Calling.{CallComesTo, CallsOn, OnCall, broken_by_call, call_of}
use Rattle.psilt_core.specs.Evaluating.{told_of}
use Rattle.psilt_core.specs.Inner.Judged.{IsJudged, IsSymbolOf}
use Rattle.psilt_core.proofs.AnswerLemmas.{all_held}
use Rattle.psilt_core.proofs.ArgumentLemmas.{have_as, held_have, keeps_args, trees_as}
use Rattle.psilt_core.proofs.EvaluatingLemmas.{both_specified, specified_map}

-- the number of a symbol that takes them
pub callable : (y : Spec) (w : Store) (s : Symbol) (k n : ℕ) → arity_at w s ≡ Some n → IsSymbolOf y w s k → n ≡ arity_of y k
callable y w s k n e is = let both : Some (arity_of y k) ≡ Some n = sym (ap (option_and_then (λ (g : Signature). Some g.arity)) is.1) ∙ e in cc both

module _ (b : BankState) (s : Symbol) (args : List ℕ) (g : Signature) (is : signature_of (store_of b) s ≡ Some g)
    (held : are_held (store_of b) args ≡ true) where
  -- the call as a tree
  abbrev tree : Tree
  tree = call_of g (from_list (held_trees (store_of b) (terms_of args)))

  trees : HaveTrees (store_of b) (terms_of args) (to_list (from_list (held_trees (store_of b) (terms_of args))))
  trees = subst (HaveTrees (store_of b) (terms_of args)) (sym (to_from_list (held_trees (store_of b) (terms_of args))))
      (held_have (store_of b) (terms_of args) (all_held (store_of b) args held))

  pub on_call : (n : ℕ) (P : Spec → Tree → Type 0) → signature_at b n ≡ signature_of (store_of b) s → IsSpecified b (λ y. P y tree) → OnCall b n args P
  on_call n P at h = (h.0, h.1, (g, at ∙ is, (from_list (held_trees (store_of b) (terms_of args)), trees, h.2)))

  -- it violates a rule
  pub breaks : (n number : ℕ) (values : List Term) → values ≡ terms_of args → signature_at b n ≡ signature_of (store_of b) s
      → IsSpecified b (λ y. IsJudged y (store_of b) s values (Some number)) → OnCall b n args (λ y u. broken_by_call y u ≡ Some number)
  breaks n number values same at h =
      on_call n (λ y u. broken_by_call y u ≡ Some number) at
      (specified_map b (λ y. IsJudged y (store_of b) s values (Some number)) (λ y. broken_by_call y tree ≡ Some number)
      (λ y q. subst (λ rs. broken_by_call y (call_of g (from_list (held_trees (store_of b) rs))) ≡ Some number) same (q g is)) h)

  -- while its arguments are kept, it is the call that the engine is asked for
  module _ (v : Store) (kept : Keeps (store_of b) v (terms_of args)) where
    same_there : (r : Term) → Contains (terms_of args) r → tree_at v r ≡ tree_at (store_of b) r
    same_there r c = kept-work kept r c (all_held (store_of b) args held r c)

    pub same_trees : held_trees v (terms_of args) ≡ held_trees (store_of b) (terms_of args)
    same_trees = trees_as v (terms_of args) (held_trees (store_of b) (terms_of args))
        (have_as v (store_of b) (terms_of args) (held_trees (store_of b) (terms_of args)) (λ r c. sym (same_there r c))
        (held_have (store_of b) (terms_of args) (all_held (store_of b) args held)))

    pub still_all : AllHeld v (terms_of args)
    still_all = still-held kept (all_held (store_of b) args held)

    is_called : (y : Spec) (k : ℕ) → IsSymbolOf y (store_of b) s k → called y k (held_trees v (terms_of args)) ≡ tree
    is_called y k of =
        let both : Some (signature y k) ≡ Some g = sym of.1 ∙ is in
        let same : signature y k ≡ g = cc both in
        ap (called y k) same_trees ∙ ap (λ (h : Signature). call_of h (from_list (held_trees (store_of b) (terms_of args)))) same

    pub comes : (b'' : BankState) (n steps k : ℕ) (values : List Term) (o : Outcome) → values ≡ terms_of args → signature_at b n ≡ signature_of (store_of b) s
        → IsSpecified b (λ y. IsSymbolOf y (store_of b) s k) → IsSpecified b (λ y. IsJudged y (store_of b) s values None)
        → IsSpecified b (λ y. IsCallOutcome y (store_of b'') steps (called y k (held_trees v values)) o) → CallComesTo b b'' n args steps o
    comes b'' n steps k values o same at of judged came =
        let P : Spec → Type 0 = λ y. IsSymbolOf y (store_of b) s k in
        let Q : Spec → Type 0 = λ y. IsJudged y (store_of b) s values None in
        let R : Spec → Type 0 = λ y. IsCallOutcome y (store_of b'') steps (called y k (held_trees v values)) o in
        let all = both_specified b P (λ y. Q y × R y) of (both_specified b Q R judged came) in
        on_call n (λ y u. (broken_by_call y u ≡ None) × IsCallOutcome y (store_of b'') steps u o) at
        (specified_map b (λ y. P y × (Q y × R y)) (λ y. (broken_by_call y tree ≡ None) × IsCallOutcome y (store_of b'') steps tree o) (λ y q. (
          subst (λ rs. broken_by_call y (call_of g (from_list (held_trees (store_of b) rs))) ≡ None) same (q.1.0 g is),
          subst (λ u. IsCallOutcome y (store_of b'') steps u o) (ap (λ rs. called y k (held_trees v rs)) same ∙ is_called y k q.0) q.1.1,
        )) all)

    -- and what the evaluation keeps
    pub keeps_on : (z : Store) (t : Term) → IsApplication (store_of b) g.name g.quoted args (tree_at v t) → Keeps v z (t ∷ []) → Keeps v z (terms_of args)
    keeps_on z t app k =
        keeps_args v z g (terms_of args) app.0 t (have_as v (store_of b) (terms_of args) (to_list app.0) (λ r c. sym (same_there r c)) app.1) app.2 k

pub call_told : (b b'' : BankState) (n : ℕ) (args : List ℕ) (steps rule : ℕ) (o : Outcome) → CallComesTo b b'' n args steps o
    → CallsOn b b'' n args steps rule (told_of (Ended o))
call_told b b'' n args steps rule (outcome.Value r k) h = h
call_told b b'' n args steps rule outcome.Limit h = h

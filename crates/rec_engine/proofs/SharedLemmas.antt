-- Terms that are their own values: they evaluate to themselves, and a term of a symbol and such arguments evaluates as the call on them.
use Rattle.std.proofs.Common.{refl, sym, ap, subst, ◌∙◌, is_some}
use Rattle.std.proofs.lemmas.List.{length-map}
use Rattle.std.proofs.lemmas.List.Folds.{list_any-append}
use Rattle.std.specs.Prelude.{ℕ, ◌≡◌, ◌||◌, Bool, true, false, not, List, [], ◌∷◌, ◌++◌, Option, None, Some, IfSome, length}
use Rattle.std.specs.Prelude.{Result, IfOk}
use Rattle.std.specs.List.{list_any}
use Rattle.rx_term.specs.Name.{plain_name}
use Rattle.rx_term.specs.Tree.{Tree, Trees, Int, Appl, Items, Hole, none, more, to_list, count_of}
use Rattle.rx_term.specs.Store.{Store, tree_at}
use Rattle.rx_term.specs.Walks.{held_tree, held_trees}
use Rattle.rx_term.specs.Steps.{Keeps}
use Rattle.rx_term.specs.declared.Term.{Term}
use Rattle.rx_term.proofs.KeepLemmas.{Keeps-trans, kept-work}
use Rattle.rx_term.proofs.TreeLemmas.{from_to_list}
use Rattle.rec_syntax.specs.Syntax.{Spec}
use Rattle.rec_sorts.specs.TermRules.{nodes, nodes_all, arguments, is_annotated}
use Rattle.rec_sorts.specs.Binding.{application}
use Rattle.rec_sorts.specs.Numbering.{name_of, arity_of}
use Rattle.rec_sorts.specs.declared.letters.Meaning.TheVariants.{Symbol}
use Rattle.rec_sorts.specs.Evaluation.{Outcome, Done, Eval, EvalAll, Call, term_of, terms_of}
use Rattle.rec_sorts.specs.Walking.{backwards, backwards_all}
use Rattle.rec_sorts.proofs.WalkedLemmas.{held}
use Rattle.rec_sorts.proofs.GivenRuleLemmas.{length-to_list}
use Rattle.rec_sorts.proofs.RuleLemmas as R
use Rattle.rec_match.proofs.FactLemmas.{every_append}
use Rattle.rec_engine.specs.declared.compile.code.Code.{Code}
use Rattle.rec_engine.specs.Machine.{IsCode, called}
use Rattle.rec_engine.specs.Engine.{IsGiven, IsGround}
use Rattle.rec_engine.specs.declared.compile.code.Op.{Op}
use Rattle.rec_engine.specs.declared.compile.code.Op.TheVariants as op
use Rattle.rec_engine.specs.declared.engine.errors.EngineFault.{EngineFault}
use Rattle.rec_engine.specs.declared.engine.evaluation.Reached.{Reached}
use Rattle.rec_engine.specs.Inner.Answered.{Reaches, IsAnswer}
use Rattle.rec_engine.specs.Inner.Given.{IsCallOf, IsNodeOp}
use Rattle.rec_engine.specs.Inner.Shared.{HasNoRules, IsOwnValue, AreOwnValues}
use Rattle.rec_engine.proofs.EndLemmas.{in-here}
use Rattle.rec_engine.proofs.TurnLemmas.{ok-map}
use Rattle.rec_engine.proofs.GroundLemmas.{pass-none}
use Rattle.rec_engine.proofs.RunLemmas.{call-none}

pub some-map : {A : Type 0} {P Q : A → Type 0} (o : Option A) → ((a : A) → P a → Q a) → IfSome o P → IfSome o Q
some-map None f h = h
some-map (Some a) f h = f a h

-- ---- annotations

or_false : (a b : Bool) → a || b ≡ false → (a ≡ false) × (b ≡ false)
or_false false b e = (refl, e)
or_false true b e = absurd (cc e)

any-split : (p : Tree → Bool) (xs ys : List Tree) → list_any p (xs ++ ys) ≡ false → (list_any p xs ≡ false) × (list_any p ys ≡ false)
any-split p xs ys e = or_false (list_any p xs) (list_any p ys) (sym (list_any-append p xs ys) ∙ e)

bare : (anns : Trees) → ◌≡◌ {A = Bool} (elim anns [ none ↦ false | more a as' ↦ true ]) false → anns ≡ none
bare none e = refl
bare (more a as') e = absurd (cc e)

-- the arguments of a ground tree have no annotations
unannotated : (y : Spec) (u : Tree) → IsGround y u → list_any is_annotated (nodes_all (arguments u)) ≡ false
unannotated y u h = (any-split is_annotated (nodes_all (arguments u)) [] (pass-none y (u ∷ []) h).unannotated).0

-- ---- values

module _ (y : Spec) (c : Code) (code : IsCode y c) (n : ℕ) where
  -- an application of a symbol without rules is its own value
  stays : (name : List ℕ) (quoted : Bool) (args anns : Trees) → HasNoRules y c.matcher (Appl name quoted args anns) → anns ≡ none
      → Call y n (application name args) ≡ Done (Appl name quoted args anns) n
  stays name quoted args anns h bare_root =
      let is = h.call.is in
      let named : name ≡ name_of y (Symbol h.symbol) = cc is in
      let flagged : quoted ≡ not (plain_name (name_of y (Symbol h.symbol))) = cc is in
      ap (λ x. Call y n (application x args)) named
      ∙ call-none y c code h.symbol n h.none args
      ∙ ap (λ x. Done (Appl x (not (plain_name x)) args none) n) (sym named)
      ∙ ap (λ b. Done (Appl name b args none) n) (ap (λ x. not (plain_name x)) named ∙ sym flagged)
      ∙ ap (λ ts. Done (Appl name quoted args ts) n) (sym bare_root)

  mutual
    own-value : (t : Tree) → IsOwnValue y c.matcher t → list_any is_annotated (nodes t) ≡ false → Eval y n [] (term_of t) ≡ Done t n
    own-value (Int z anns) h a = absurd (let is = h.0.call.is in cc is)
    own-value (Items items anns) h a = absurd (let is = h.0.call.is in cc is)
    own-value (Hole inner anns) h a = absurd (let is = h.0.call.is in cc is)
    own-value (Appl name quoted args anns) h a =
        let a' = or_false (is_annotated (Appl name quoted args anns)) (list_any is_annotated (nodes_all args)) a in
        R.eval_application y n [] (record { at = 0; bytes = name }) (terms_of args) args n refl (own-values args h.1 a'.1)
        ∙ stays name quoted args anns h.0 (bare anns a'.0)

    own-values : (ts : Trees) → AreOwnValues y c.matcher ts → list_any is_annotated (nodes_all ts) ≡ false → EvalAll y n [] (terms_of ts) ≡ Done ts n
    own-values none h a = R.all_none y n []
    own-values (more t ts) h a =
        let h' = every_append (HasNoRules y c.matcher) (backwards_all ts) (backwards t) h in
        let a' = any-split is_annotated (nodes t) (nodes_all ts) a in
        R.all_more y n [] (term_of t) (terms_of ts) t n ts n (own-value t h'.1 a'.0) (own-values ts h'.0 a'.1)

  -- a term whose arguments are their own values evaluates as the call of its symbol on them
  evaluates-call : (u : Tree) (f k : ℕ) → IsCallOf y u f k → IsGround y u → AreOwnValues y c.matcher (arguments u)
      → Eval y n [] (term_of u) ≡ Call y n (called y f (to_list (arguments u)))
  evaluates-call (Int z anns) f k h ground values = absurd (let is = h.is in cc is)
  evaluates-call (Items items anns) f k h ground values = absurd (let is = h.is in cc is)
  evaluates-call (Hole inner anns) f k h ground values = absurd (let is = h.is in cc is)
  evaluates-call (Appl name quoted args anns) f k h ground values =
      let is = h.is in
      let named : name ≡ name_of y (Symbol f) = cc is in
      R.eval_application y n [] (record { at = 0; bytes = name }) (terms_of args) args n refl
      (own-values args values (unannotated y (Appl name quoted args anns) ground))
      ∙ ap (λ x. Call y n (application x args)) named
      ∙ ap (λ ts. Call y n (application (name_of y (Symbol f)) ts)) (sym (from_to_list args))

-- the same of a term in the store and of references to its arguments
pub call-evaluates : (y : Spec) (c : Code) → IsCode y c → (n : ℕ) (w : Store) (t : Term) (u : Tree) (f k : ℕ) (vs : List Term)
    → IsGiven y w t → tree_at w t ≡ Some u → IsCallOf y (held_tree w t) f k → AreOwnValues y c.matcher (arguments (held_tree w t))
    → held_trees w vs ≡ to_list (arguments (held_tree w t)) → Eval y n [] (term_of u) ≡ Call y n (called y f (held_trees w vs))
call-evaluates y c code n w t u f k vs given there call values listed =
    let same : held_tree w t ≡ u = held w t u there in
    let ground : IsGround y (held_tree w t) = subst (IsGround y) (sym (held w t given.tree given.held)) given.is_ground in
    ap (λ x. Eval y n [] (term_of x)) (sym same)
    ∙ evaluates-call y c code n (held_tree w t) f k call ground values
    ∙ ap (λ ts. Call y n (called y f ts)) (sym listed)

-- ---- the callee of a node

module _ (y : Spec) (t : Tree) (f k : ℕ) (o : Op) (h : IsNodeOp y t o) (is : o ≡ op.Call f k) where
  pub callee-call : IsCallOf y t f k
  callee-call = subst (IsNodeOp y t) is h

  pub callee-filled : (w : Store) (vs : List Term) → held_trees w vs ≡ to_list (arguments t) → length vs ≡ arity_of y f
  callee-filled w vs listed =
      let call = callee-call in
      sym (length-map vs (held_tree w)) ∙ ap length listed ∙ length-to_list (arguments t) ∙ ap (λ x. count_of (arguments x)) call.is ∙ call.counted
      ∙ sym call.filled

-- ---- a term that is looked at again

-- a term that is kept is still given
pub given-kept : (y y' : Spec) (w w' : Store) (t : Term) → y' ≡ y → Keeps w w' (t ∷ []) → IsGiven y w t → IsGiven y' w' t
given-kept y y' w w' t same keeps given = record {
  tree = given.tree;
  held = kept-work keeps t (in-here t []) (ap is_some given.held) ∙ given.held;
  is_ground = subst (λ z. IsGround z given.tree) (sym same) given.is_ground;
}

pub kept-twice : (a b d : Store) (t : Term) → Keeps a b (t ∷ []) → Keeps b d (t ∷ []) → Keeps a d (t ∷ [])
kept-twice a b d t p q = Keeps-trans p q

-- its answer is that of the term before
pub answer-before : (y y' : Spec) (w w' v : Store) (t : Term) (n : ℕ) (r : Result Reached EngineFault) → y' ≡ y → Keeps w w' (t ∷ [])
    → IfOk r (λ x. (u : Tree) → tree_at w' t ≡ Some u → IsAnswer y' v n (term_of u) x)
    → IfOk r (λ x. (u : Tree) → tree_at w t ≡ Some u → IsAnswer y v n (term_of u) x)
answer-before y y' w w' v t n r same keeps h = ok-map r (λ x k u e.
    subst (λ z. IsAnswer z v n (term_of u) x) same (k u (kept-work keeps t (in-here t []) (ap is_some e) ∙ e))) h

-- the answer of a call
pub call-answers : (y : Spec) (v : Store) (n : ℕ) (t : Tree → Type 0) (o : Outcome Tree) (r : Result Reached EngineFault)
    → ((u : Tree) → t u → Eval y n [] (term_of u) ≡ o) → IfOk r (Reaches v n o) → IfOk r (λ x. (u : Tree) → t u → IsAnswer y v n (term_of u) x)
call-answers y v n t o r same h = ok-map r (λ x k u e. subst (λ z. Reaches v n z x) (sym (same u e)) k) h

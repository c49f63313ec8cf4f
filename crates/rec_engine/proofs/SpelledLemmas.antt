-- Letters that spell a ground tree make it, but for its annotations.
use Rattle.std.proofs.Common.{refl, sym, ap, ap₂, subst, ◌∙◌, reverse, map}
use Rattle.std.specs.Prelude.{ℕ, ◌≡◌, ◌||◌, not, Bool, true, false, List, [], ◌∷◌, ◌++◌, Option, Some, None, Result, Ok, Err, IfOk}
use Rattle.std.specs.Bool.{beq}
use Rattle.std.specs.List.{list_any}
use Rattle.std.proofs.lemmas.List.{reverse-append}
use Rattle.std.proofs.lemmas.List.Folds.{list_any-append}
use Rattle.rx_term.specs.Name.{plain_name}
use Rattle.rx_term.specs.Tree.{Tree, Trees, Int, Appl, Items, Hole, none, more, count_of}
use Rattle.rx_term.specs.Store.{Store, tree_at}
use Rattle.rx_term.specs.Walks.{held_tree}
use Rattle.rx_term.specs.declared.Term as bank
use Rattle.rec_syntax.specs.Syntax.{Declaration, Spec}
use Rattle.rec_sorts.specs.Lookup.{symbol, is_variable}
use Rattle.rec_sorts.specs.SpecRules.{fault}
use Rattle.rec_sorts.specs.Laws.{Every}
use Rattle.rec_sorts.specs.TermRules.{nodes, nodes_all, is_no_application, is_annotated, is_undeclared}
use Rattle.rec_sorts.specs.Binding.{tree_of, instances}
use Rattle.rec_sorts.specs.Evaluation.{term_of, terms_of}
use Rattle.rec_sorts.specs.Numbering.{Named, named, name_of, arity_of}
use Rattle.rec_sorts.specs.Walking.{backwards}
use Rattle.rec_sorts.specs.declared.letters.Letter.{Letter}
use Rattle.rec_sorts.specs.declared.letters.Meaning.TheVariants.{Symbol}
use Rattle.rec_sorts.proofs.GivenLetterLemmas.{node_named, named-backwards}
use Rattle.rec_sorts.proofs.WalkedLemmas.{held}
use Rattle.rec_match.proofs.FactLemmas.{facts}
use Rattle.rec_match.proofs.LetterLemmas.{IsFilledName}
use Rattle.rec_engine.specs.declared.engine.errors.EngineFault.{EngineFault}
use Rattle.rec_engine.specs.Engine.{IsGround, IsGiven, Spells}
use Rattle.rec_engine.specs.Inner.Given.{IsNode}
use Rattle.rec_engine.specs.Inner.Made.{MakesOne}
use Rattle.rec_engine.proofs.EngineLemmas.{terms-given}
use Rattle.rec_engine.proofs.GroundLemmas.{ground-nodes, pass-none}
use Rattle.rec_engine.proofs.TermLemmas.{makes-closed}

-- ---- the tree without its annotations

or_false : (a b : Bool) → a || b ≡ false → (a ≡ false) × (b ≡ false)
or_false false b e = (refl, e)
or_false true b e = absurd (cc e)

any-split : (p : Tree → Bool) (xs ys : List Tree) → list_any p (xs ++ ys) ≡ false → (list_any p xs ≡ false) × (list_any p ys ≡ false)
any-split p xs ys e = or_false (list_any p xs) (list_any p ys) (sym (list_any-append p xs ys) ∙ e)

bare : (anns : Trees) → ◌≡◌ {A = Bool} (elim anns [ none ↦ false | more a as' ↦ true ]) false → anns ≡ none
bare none e = refl
bare (more a as') e = absurd (cc e)

flagged : (y : Spec) (name : List ℕ) (quoted flag : Bool) → ◌≡◌ {A = Bool}
    (elim (elim (beq quoted flag) as (λ _. Option Declaration) [ true ↦ symbol y name | false ↦ None ]) [ Some d ↦ false | None ↦ true ]) false → flag ≡ quoted
flagged y name true true e = refl
flagged y name true false e = absurd (cc e)
flagged y name false true e = absurd (cc e)
flagged y name false false e = refl

mutual
  same-tree : (y : Spec) (t : Tree) → list_any is_no_application (nodes t) ≡ false → list_any is_annotated (nodes t) ≡ false
      → list_any (is_undeclared y) (nodes t) ≡ false → tree_of (term_of t) ≡ t
  same-tree y (Int z anns) a n u = absurd (cc a)
  same-tree y (Items items anns) a n u = absurd (cc a)
  same-tree y (Hole inner anns) a n u = absurd (cc a)
  same-tree y (Appl name quoted args anns) a n u =
      let t : Tree = Appl name quoted args anns in
      let n' = or_false (is_annotated t) (list_any is_annotated (nodes_all args)) n in
      let u' = or_false (is_undeclared y t) (list_any (is_undeclared y) (nodes_all args)) u in
      let flag = flagged y name quoted (not (plain_name name)) u'.0 in
      ap (λ b. Appl name b (instances [] (terms_of args)) none) flag
      ∙ ap (λ ts. Appl name quoted ts none) (same-trees y args a n'.1 u'.1)
      ∙ ap (λ ts. Appl name quoted args ts) (sym (bare anns n'.0))

  same-trees : (y : Spec) (ts : Trees) → list_any is_no_application (nodes_all ts) ≡ false → list_any is_annotated (nodes_all ts) ≡ false
      → list_any (is_undeclared y) (nodes_all ts) ≡ false → instances [] (terms_of ts) ≡ ts
  same-trees y none a n u = refl
  same-trees y (more t ts) a n u =
      let a' = any-split is_no_application (nodes t) (nodes_all ts) a in
      let n' = any-split is_annotated (nodes t) (nodes_all ts) n in
      let u' = any-split (is_undeclared y) (nodes t) (nodes_all ts) u in
      ap₂ (λ x xs. more x xs) (same-tree y t a'.0 n'.0 u'.0) (same-trees y ts a'.1 n'.1 u'.1)

-- a ground tree stays ground without its annotations
pub ground-bare : (y : Spec) (u : Tree) → IsGround y u → IsGround y (tree_of (term_of u))
ground-bare y (Int z anns) h = absurd (cc h)
ground-bare y (Items items anns) h = absurd (cc h)
ground-bare y (Hole inner anns) h = absurd (cc h)
ground-bare y (Appl name quoted args anns) h =
    let t : Tree = Appl name quoted args anns in
    let p = pass-none y (t ∷ []) h in
    let own : (q : Tree → Bool) → list_any q (nodes t ++ []) ≡ false → list_any q (nodes t) ≡ false = λ q e. (any-split q (nodes t) [] e).0 in
    let a = or_false (is_no_application t) (list_any is_no_application (nodes_all args)) (own is_no_application p.applications) in
    let u = or_false (is_undeclared y t) (list_any (is_undeclared y) (nodes_all args)) (own (is_undeclared y) p.declared) in
    let n = (any-split is_annotated (nodes_all args) [] p.unannotated).0 in
    let flag = flagged y name quoted (not (plain_name name)) u.0 in
    let same : tree_of (term_of t) ≡ Appl name quoted args none =
    ap (λ b. Appl name b (instances [] (terms_of args)) none) flag ∙ ap (λ ts. Appl name quoted ts none) (same-trees y args a.1 n u.1) in
    subst (IsGround y) (sym same) h

-- ---- its letters

node-name : (y : Spec) → fault y ≡ None → (t : Tree) → IsNode y t → IsFilledName y (node_named t) × (is_variable y (node_named t).name ≡ false)
node-name y kept t (f, (n, c)) =
    let same : node_named t ≡ record { name = name_of y (Symbol f); arguments = count_of c.args } = ap node_named c.is in
    let called : (node_named t).name ≡ name_of y (Symbol f) = ap (λ (m : Named). m.name) same in
    let counted : (node_named t).arguments ≡ n = ap (λ (m : Named). m.arguments) same ∙ c.counted in (
      (λ k lt e.
          let is : k ≡ f = (facts y kept).symbols_differ k f lt c.declared (sym e ∙ called) in
          ap (λ j. arity_of_symbol j) is ∙ c.filled ∙ sym counted),
      ap (is_variable y) called ∙ (facts y kept).symbol_is_none f c.declared,
    )
  where
    arity_of_symbol : ℕ → ℕ
    arity_of_symbol j = arity_of y j

every-snoc : {A : Type 0} (P : A → Type 0) (xs : List A) (x : A) → Every P xs → P x → Every P (xs ++ x ∷ [])
every-snoc P [] x h p = (p, tt)
every-snoc P (z ∷ xs) x h p = (h.0, every-snoc P xs x h.1 p)

every-reverse : {A : Type 0} (P : A → Type 0) (xs : List A) → Every P xs → Every P (reverse xs)
every-reverse P [] h = tt
every-reverse P (x ∷ xs) h = subst (Every P) (sym (reverse-append (x ∷ []) xs)) (every-snoc P (reverse xs) x (every-reverse P xs h.1) h.0)

every-named : (y : Spec) (P : Named → Type 0) → ((t : Tree) → IsNode y t → P (node_named t)) → (ts : List Tree) → Every (IsNode y) ts
    → Every P (map node_named ts)
every-named y P f [] h = tt
every-named y P f (t ∷ ts) h = (f t h.0, every-named y P f ts h.1)

names-of : (y : Spec) (P : Named → Type 0) → ((t : Tree) → IsNode y t → P (node_named t)) → (u : Tree) → IsGround y u → Every P (named (term_of u))
names-of y P f u ground = subst (Every P) (named-backwards u)
    (every-reverse P (map node_named (backwards u)) (every-named y P f (backwards u) (ground-nodes y u ground)))

pub spelled-makes : (y : Spec) → fault y ≡ None → (ls : List Letter) (u : Tree) → Spells y ls u → MakesOne y ls (tree_of (term_of u))
spelled-makes y kept ls u h =
    makes-closed y (term_of u) ls h.letters
    (names-of y (IsFilledName y) (λ t n. (node-name y kept t n).0) u h.is_ground)
    (names-of y (λ (m : Named). is_variable y m.name ≡ false) (λ t n. (node-name y kept t n).1) u h.is_ground)

-- ---- what is answered

pub spelled-made : (y : Spec) → fault y ≡ None → (w : Store) (ls : List Letter) (r : Result bank.Term EngineFault)
    → IfOk r (λ t. (u : Tree) → MakesOne y ls u → tree_at w t ≡ Some u) → IfOk r (λ t. (u : Tree) → Spells y ls u → tree_at w t ≡ Some (tree_of (term_of u)))
spelled-made y kept w ls (Ok t) h = λ u s. h (tree_of (term_of u)) (spelled-makes y kept ls u s)
spelled-made y kept w ls (Err f) h = tt

pub spelled-given : (y : Spec) → fault y ≡ None → (w : Store) (ls : List Letter) (u : Tree) → Spells y ls u → (r : Result bank.Term EngineFault)
    → IfOk r (λ t. (u : Tree) → MakesOne y ls u → tree_at w t ≡ Some u) → IfOk r (IsGiven y w)
spelled-given y kept w ls u s r h = terms-given w y ls (tree_of (term_of u)) r (ground-bare y u s.is_ground) (spelled-makes y kept ls u s) h

-- the copy of a given term is given
pub copy-given : (y : Spec) (own w : Store) (t : bank.Term) (r : Result bank.Term EngineFault) → IsGiven y own t
    → IfOk r (λ x. tree_at w x ≡ Some (tree_of (term_of (held_tree own t)))) → IfOk r (IsGiven y w)
copy-given y own w t (Ok x) given h = record {
  tree = tree_of (term_of (held_tree own t));
  held = h;
  is_ground = ground-bare y (held_tree own t) (subst (IsGround y) (sym (held own t given.tree given.held)) given.is_ground);
}
copy-given y own w t (Err f) given h = tt

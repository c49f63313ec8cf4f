-- Ground trees: those of good lists of given terms, those of a specification's terms to evaluate, and their nodes.
use Rattle.std.proofs.Common.{refl, sym, ap, subst, ◌∙◌, arith, length, append_assoc}
use Rattle.std.specs.Prelude.{ℕ, zero, suc, ◌≡◌, ◌<◌, ◌||◌, Bool, true, false, not, List, [], ◌∷◌, ◌++◌}
use Rattle.std.specs.Prelude.{Option, Some, None, map, flat_map, get_or, nat_eq, bytes_eq, slice_get}
use Rattle.std.specs.Bool.{beq}
use Rattle.std.specs.List.{list_any}
use Rattle.std.proofs.lemmas.Bool.{eqb-true}
use Rattle.std.proofs.lemmas.List.{append-nil}
use Rattle.rx_term.specs.Name.{plain_name}
use Rattle.rx_term.specs.Tree.{Tree, Trees, Appl, Int, Items, Hole, to_list, count_of}
use Rattle.rec_syntax.specs.Tokens.{Word}
use Rattle.rec_syntax.specs.Syntax.{Term, Terms, Apply, Declaration, Spec, head, subterms, subterms_all}
use Rattle.rec_syntax.specs.Syntax as X
use Rattle.rec_sorts.specs.Lookup.{symbols, symbol, declared, names, mentions, variable_words}
use Rattle.rec_sorts.specs.Lookup.{variable_sort, is_variable, sort_of, same_sort, count, rule_terms}
use Rattle.rec_sorts.specs.SpecRules.{fault, all_rules, all_terms, everywhere, heads, is_filled, ill_placed, ill_sorted_in}
use Rattle.rec_sorts.specs.Laws.{Every}
use Rattle.rec_sorts.specs.TermRules.{nodes, nodes_all, arguments, tree_symbol, is_no_application, is_annotated, is_undeclared}
use Rattle.rec_sorts.specs.TermRules.{is_ill_filled, tree_sort, are_ill_sorted, is_ill_sorted, first_passed, broken_by_elements}
use Rattle.rec_sorts.specs.Binding.{instances, tree_of, application}
use Rattle.rec_sorts.specs.Walking.{backwards}
use Rattle.rec_sorts.proofs.KeptLemmas.{all_kept, all_filled, missing_none, no_free_variable, bytes_eq-eq}
use Rattle.rec_sorts.proofs.WalkedLemmas.{any-backwards}
use Rattle.rec_sorts.proofs.GivenRuleLemmas.{length-to_list, declared_by}
use Rattle.rec_match.proofs.FactLemmas.{every_append, every_joined, every_flat, every_map, filter_none}
use Rattle.rec_engine.specs.Engine.{IsGround}
use Rattle.rec_engine.specs.Inner.Given.{IsNode}

-- ---- tests of nodes

-- no test passes at any of some nodes, but for annotations, which are asked of others
pub record PassNone (y : Spec) (all inner : List Tree) : Type 0 where
  pub applications : list_any is_no_application all ≡ false
  pub unannotated : list_any is_annotated inner ≡ false
  pub declared : list_any (is_undeclared y) all ≡ false
  pub filled : list_any (is_ill_filled y) all ≡ false
  pub sorted : list_any (is_ill_sorted y) all ≡ false

all-failed : (a b c d e : Bool) → first_passed 2 (a ∷ b ∷ c ∷ d ∷ e ∷ []) ≡ None → (a ≡ false) × (b ≡ false) × (c ≡ false) × (d ≡ false) × (e ≡ false)
all-failed true b c d e h = absurd (cc h)
all-failed false true c d e h = absurd (cc h)
all-failed false false true d e h = absurd (cc h)
all-failed false false false true e h = absurd (cc h)
all-failed false false false false true h = absurd (cc h)
all-failed false false false false false h = (refl, refl, refl, refl, refl)

pub pass-none : (y : Spec) (ts : List Tree) → broken_by_elements y ts ≡ None → PassNone y (flat_map nodes ts) (flat_map (λ t. nodes_all (arguments t)) ts)
pass-none y ts e =
    let all : List Tree = flat_map nodes ts in
    let inner : List Tree = flat_map (λ t. nodes_all (arguments t)) ts in
    let f = all-failed (list_any is_no_application all) (list_any is_annotated inner) (list_any (is_undeclared y) all)
    (list_any (is_ill_filled y) all) (list_any (is_ill_sorted y) all) e in
    record { applications = f.0; unannotated = f.1; declared = f.2; filled = f.3; sorted = f.4 }

unbroken : (y : Spec) (ts : List Tree) → PassNone y (flat_map nodes ts) (flat_map (λ t. nodes_all (arguments t)) ts) → broken_by_elements y ts ≡ None
unbroken y ts h = λ i. first_passed 2 (h.applications i ∷ h.unannotated i ∷ h.declared i ∷ h.filled i ∷ h.sorted i ∷ [])

-- ---- the elements of a good list

or_false : (a b : Bool) → a || b ≡ false → (a ≡ false) × (b ≡ false)
or_false false b e = (refl, e)
or_false true b e = absurd (cc e)

-- ---- the nodes of a ground tree

-- the number of a declaration, and its name and arguments by the number
declared-number : (ds : List Declaration) (name : List ℕ) (d : Declaration) → declared ds name ≡ Some d
    → (f : ℕ) × (f < length ds) × (get_or (map (λ (w : Word). w.bytes) (names ds)) f [] ≡ name)
    × (get_or (map (λ (d : Declaration). length d.arguments) ds) f 0 ≡ length d.arguments)
declared-number [] name d e = absurd (cc e)
declared-number (x ∷ ds) name d e = by (bytes_eq x.name.bytes name) refl e (λ h. declared-number ds name d h)
  where
    by : (b : Bool) → bytes_eq x.name.bytes name ≡ b → ◌≡◌ {A = Option Declaration} (elim b [ true ↦ Some x | false ↦ declared ds name ]) (Some d)
        → (declared ds name ≡ Some d → (f : ℕ) × (f < length ds) × (get_or (map (λ (w : Word). w.bytes) (names ds)) f [] ≡ name)
        × (get_or (map (λ (d : Declaration). length d.arguments) ds) f 0 ≡ length d.arguments))
        → (f : ℕ) × (f < length (x ∷ ds)) × (get_or (map (λ (w : Word). w.bytes) (names (x ∷ ds))) f [] ≡ name)
        × (get_or (map (λ (d : Declaration). length d.arguments) (x ∷ ds)) f 0 ≡ length d.arguments)
    by true q e later = let is : x ≡ d = cc e in (zero, omega arith, bytes_eq-eq x.name.bytes name q, ap (λ (d : Declaration). length d.arguments) is)
    by false q e later = let r = later e in (suc r.0, (let lt = r.1 in omega (arith, lt)), r.2, r.3)

beq-true : (a b : Bool) → beq a b ≡ true → a ≡ b
beq-true true true e = refl
beq-true true false e = absurd (cc e)
beq-true false true e = absurd (cc e)
beq-true false false e = refl

not-false : (b : Bool) → not b ≡ false → b ≡ true
not-false true e = refl
not-false false e = absurd (cc e)

tree-node : (y : Spec) (t : Tree) → is_no_application t ≡ false → is_undeclared y t ≡ false → is_ill_filled y t ≡ false → IsNode y t
tree-node y (Int z anns) a u f = absurd (cc a)
tree-node y (Items items anns) a u f = absurd (cc a)
tree-node y (Hole inner anns) a u f = absurd (cc a)
tree-node y (Appl name quoted args anns) a u f = by_quoted (beq quoted (not (plain_name name))) refl u f
  where
    by_symbol : (o : Option Declaration) → symbol y name ≡ o → quoted ≡ not (plain_name name) → ◌≡◌ {A = Bool} (elim o [ Some d ↦ false | None ↦ true ]) false
        → ◌≡◌ {A = Bool} (elim o [ Some d ↦ not (nat_eq (length (to_list args)) (length d.arguments)) | None ↦ false ]) false
        → IsNode y (Appl name quoted args anns)
    by_symbol None e q u f = absurd (cc u)
    by_symbol (Some d) e q u f =
        let n = declared-number (symbols y) name d e in
        let same : count_of args ≡ length d.arguments = sym (length-to_list args)
        ∙ eqb-true (length (to_list args)) (length d.arguments) (not-false (nat_eq (length (to_list args)) (length d.arguments)) f) in (
          n.0,
          (
            count_of args,
            record {
              args = args;
              anns = anns;
              declared = n.1;
              is = ap (λ b. Appl name b args anns) q ∙ ap (λ x. Appl x (not (plain_name x)) args anns) (sym n.2);
              filled = n.3 ∙ sym same;
              counted = refl;
            },
          ),
        )

    by_quoted : (b : Bool) → beq quoted (not (plain_name name)) ≡ b
        → ◌≡◌ {A = Bool} (elim (declared_by y b name) [ Some d ↦ false | None ↦ true ]) false
        → ◌≡◌ {A = Bool} (elim (declared_by y b name) [ Some d ↦ not (nat_eq (length (to_list args)) (length d.arguments)) | None ↦ false ]) false
        → IsNode y (Appl name quoted args anns)
    by_quoted true q u f = by_symbol (symbol y name) refl (beq-true quoted (not (plain_name name)) q) u f
    by_quoted false q u f = absurd (cc u)

every-node : (y : Spec) (ts : List Tree) → list_any is_no_application ts ≡ false → list_any (is_undeclared y) ts ≡ false
    → list_any (is_ill_filled y) ts ≡ false → Every (IsNode y) ts
every-node y [] a u f = tt
every-node y (t ∷ ts) a u f =
    let a' = or_false (is_no_application t) (list_any is_no_application ts) a in
    let u' = or_false (is_undeclared y t) (list_any (is_undeclared y) ts) u in
    let f' = or_false (is_ill_filled y t) (list_any (is_ill_filled y) ts) f in
    (tree-node y t a'.0 u'.0 f'.0, every-node y ts a'.1 u'.1 f'.1)

-- the nodes of a ground tree are applications of declared symbols
pub ground-nodes : (y : Spec) (u : Tree) → IsGround y u → Every (IsNode y) (backwards u)
ground-nodes y u e =
    let h = pass-none y (u ∷ []) e in
    let over : (p : Tree → Bool) → list_any p (flat_map nodes (u ∷ [])) ≡ false → list_any p (backwards u) ≡ false = λ p q.
    any-backwards p u ∙ sym (ap (list_any p) (append-nil (nodes u))) ∙ q in
    every-node y (backwards u) (over is_no_application h.applications) (over (is_undeclared y) h.declared) (over (is_ill_filled y) h.filled)

-- ---- terms to evaluate

-- a term's word is a symbol, with arguments as declared
record IsFit (y : Spec) (t : Term) : Type 0 where
  declaration : Declaration
  is_symbol : symbol y (head t).bytes ≡ Some declaration
  filled : is_filled y t ≡ true
  sorted : ill_sorted_in y t ≡ []

-- what no test finds in a node
record IsFine (y : Spec) (t : Tree) : Type 0 where
  application : is_no_application t ≡ false
  unannotated : is_annotated t ≡ false
  declared : is_undeclared y t ≡ false
  filled : is_ill_filled y t ≡ false
  sorted : is_ill_sorted y t ≡ false

beq-same : (b : Bool) → beq b b ≡ true
beq-same true = refl
beq-same false = refl

applied-symbol : (y : Spec) (name : List ℕ) (ts : Trees) → tree_symbol y (application name ts) ≡ symbol y name
applied-symbol y name ts = ap pick (beq-same (not (plain_name name)))
  where
    pick : Bool → Option Declaration
    pick b = elim b [ true ↦ symbol y name | false ↦ None ]

length-instances : (ts : Terms) → length (to_list (instances [] ts)) ≡ count ts
length-instances X.none = refl
length-instances (X.more t ts) = ap suc (length-instances ts)

same-sorts : (y : Spec) (t : Term) → IsFit y t → tree_sort y (tree_of t) ≡ sort_of y t
same-sorts y (Apply w ts) h = ap by_tree (applied-symbol y w.bytes (instances [] ts) ∙ h.is_symbol) ∙ sym (ap by_word h.is_symbol)
  where
    by_tree : Option Declaration → Option (List ℕ)
    by_tree o = elim o [ Some d ↦ Some d.sort.bytes | None ↦ None ]

    by_word : Option Declaration → Option (List ℕ)
    by_word o = elim o [ Some d ↦ Some d.sort.bytes | None ↦ variable_sort y.variables w.bytes ]

itself : (y : Spec) (t : Term) → Every (IsFit y) (subterms t) → IsFit y t
itself y (Apply w ts) h = h.0

sorted-arguments : (y : Spec) (ss : List Word) (ts : Terms) → Every (IsFit y) (subterms_all ts) → ill_placed y ss ts ≡ []
    → are_ill_sorted y ss (instances [] ts) ≡ false
sorted-arguments y [] ts h e = refl
sorted-arguments y (s ∷ ss) X.none h e = refl
sorted-arguments y (s ∷ ss) (X.more t ts) h e =
    let k = every_append (IsFit y) (subterms t) (subterms_all ts) h in
    by (same_sort (sort_of y t) (Some s.bytes)) refl e (same-sorts y t (itself y t k.0)) (λ q. sorted-arguments y ss ts k.1 q)
  where
    by : (b : Bool) → same_sort (sort_of y t) (Some s.bytes) ≡ b
        → ◌≡◌ {A = List Term} (elim b [ true ↦ ill_placed y ss ts | false ↦ t ∷ ill_placed y ss ts ]) [] → tree_sort y (tree_of t) ≡ sort_of y t
        → (ill_placed y ss ts ≡ [] → are_ill_sorted y ss (instances [] ts) ≡ false) → are_ill_sorted y (s ∷ ss) (instances [] (X.more t ts)) ≡ false
    by true q e same later = ap (λ o. not (same_sort o (Some s.bytes)) || are_ill_sorted y ss (instances [] ts)) same
        ∙ ap (λ b. not b || are_ill_sorted y ss (instances [] ts)) q ∙ later e
    by false q e same later = absurd (cc e)

fine-node : (y : Spec) (w : Word) (ts : Terms) → Every (IsFit y) (subterms (Apply w ts)) → IsFine y (tree_of (Apply w ts))
fine-node y w ts h =
    let fit = h.0 in
    let known : tree_symbol y (application w.bytes (instances [] ts)) ≡ Some fit.declaration = applied-symbol y w.bytes (instances [] ts) ∙ fit.is_symbol in
    let count_fits : nat_eq (count ts) (length fit.declaration.arguments) ≡ true = sym (ap filled_by fit.is_symbol) ∙ fit.filled in
    record {
      application = refl;
      unannotated = refl;
      declared = ap undeclared_by known;
      filled = ap misfilled_by known ∙ ap (λ n. not (nat_eq n (length fit.declaration.arguments))) (length-instances ts) ∙ ap not count_fits;
      sorted = ap missorted_by known ∙ sorted-arguments y fit.declaration.arguments ts h.1 (sym (ap placed_by fit.is_symbol) ∙ fit.sorted);
    }
  where
    filled_by : Option Declaration → Bool
    filled_by o = elim o [ Some d ↦ nat_eq (count ts) (length d.arguments) | None ↦ nat_eq (count ts) 0 ]

    placed_by : Option Declaration → List Term
    placed_by o = elim o [ Some d ↦ ill_placed y d.arguments ts | None ↦ [] ]

    undeclared_by : Option Declaration → Bool
    undeclared_by o = elim o [ Some d ↦ false | None ↦ true ]

    misfilled_by : Option Declaration → Bool
    misfilled_by o = elim o [ Some d ↦ not (nat_eq (length (to_list (instances [] ts))) (length d.arguments)) | None ↦ false ]

    missorted_by : Option Declaration → Bool
    missorted_by o = elim o [ Some d ↦ are_ill_sorted y d.arguments (instances [] ts) | None ↦ false ]

mutual
  fine-nodes : (y : Spec) (t : Term) → Every (IsFit y) (subterms t) → Every (IsFine y) (nodes (tree_of t))
  fine-nodes y (Apply w ts) h = (fine-node y w ts h, fine-nodes_all y ts h.1)

  fine-nodes_all : (y : Spec) (ts : Terms) → Every (IsFit y) (subterms_all ts) → Every (IsFine y) (nodes_all (instances [] ts))
  fine-nodes_all y X.none h = tt
  fine-nodes_all y (X.more t ts) h =
      let k = every_append (IsFit y) (subterms t) (subterms_all ts) h in
      every_joined (IsFine y) (nodes (tree_of t)) (nodes_all (instances [] ts)) (fine-nodes y t k.0) (fine-nodes_all y ts k.1)

none-of-them : (p : Tree → Bool) (ts : List Tree) → Every (λ t. p t ≡ false) ts → list_any p ts ≡ false
none-of-them p [] h = refl
none-of-them p (t ∷ ts) h = ap (λ b. b || list_any p ts) h.0 ∙ none-of-them p ts h.1

below : (y : Spec) (t : Term) → Every (IsFit y) (subterms t) → Every (IsFine y) (nodes_all (arguments (tree_of t)))
below y (Apply w ts) h = fine-nodes_all y ts h.1

fit-ground : (y : Spec) (t : Term) → Every (IsFit y) (subterms t) → IsGround y (tree_of t)
fit-ground y t h =
    let fine = fine-nodes y t h in
    let inner = below y t h in
    let all : List Tree = nodes (tree_of t) in
    let from : (p : Tree → Bool) → Every (λ u. p u ≡ false) all → list_any p (flat_map nodes (tree_of t ∷ [])) ≡ false = λ p k.
    ap (list_any p) (append-nil all) ∙ none-of-them p all k in
    unbroken y (tree_of t ∷ []) (record {
      applications = from is_no_application (every_map (IsFine y) (λ u. is_no_application u ≡ false) (λ u k. k.application) all fine);
      unannotated = ap (list_any is_annotated) (append-nil (nodes_all (arguments (tree_of t))))
          ∙ none-of-them is_annotated (nodes_all (arguments (tree_of t)))
          (every_map (IsFine y) (λ u. is_annotated u ≡ false) (λ u k. k.unannotated) (nodes_all (arguments (tree_of t))) inner);
      declared = from (is_undeclared y) (every_map (IsFine y) (λ u. is_undeclared y u ≡ false) (λ u k. k.declared) all fine);
      filled = from (is_ill_filled y) (every_map (IsFine y) (λ u. is_ill_filled y u ≡ false) (λ u k. k.filled) all fine);
      sorted = from (is_ill_sorted y) (every_map (IsFine y) (λ u. is_ill_sorted y u ≡ false) (λ u k. k.sorted) all fine);
    })

-- ---- each term to evaluate is so

heads_none : (ts : List Term) → heads ts ≡ [] → ts ≡ []
heads_none [] e = refl
heads_none (t ∷ ts) e = absurd (cc e)

both_none : {A : Type 0} (xs ys : List A) → xs ++ ys ≡ [] → (xs ≡ []) × (ys ≡ [])
both_none [] ys e = (refl, e)
both_none (x ∷ xs) ys e = absurd (cc e)

flat_none : {A B : Type 0} (f : A → List B) (xs : List A) → flat_map f xs ≡ [] → Every (λ x. f x ≡ []) xs
flat_none f [] e = tt
flat_none f (x ∷ xs) e = let k = both_none (f x) (flat_map f xs) e in (k.0, flat_none f xs k.1)

every_heads : (P : List ℕ → Type 0) (ts : List Term) → Every (λ (w : Word). P w.bytes) (heads ts) → Every (λ t. P (head t).bytes) ts
every_heads P [] h = tt
every_heads P (t ∷ ts) h = (h.0, every_heads P ts h.1)

mentions_append : (ws vs : List Word) (name : List ℕ) → mentions (ws ++ vs) name ≡ true → mentions vs name ≡ false → mentions ws name ≡ true
mentions_append [] vs name e none_there = absurd (cc (sym e ∙ none_there))
mentions_append (w ∷ ws) vs name e none_there = by (bytes_eq w.bytes name) e (λ q. mentions_append ws vs name q none_there)
  where
    by : (b : Bool) → b || mentions (ws ++ vs) name ≡ true → (mentions (ws ++ vs) name ≡ true → mentions ws name ≡ true) → b || mentions ws name ≡ true
    by true e later = refl
    by false e later = later e

mentioned : (ds : List Declaration) (name : List ℕ) → mentions (names ds) name ≡ true → (d : Declaration) × (declared ds name ≡ Some d)
mentioned [] name e = absurd (cc e)
mentioned (x ∷ ds) name e = by (bytes_eq x.name.bytes name) e (λ q. mentioned ds name q)
  where
    by : (b : Bool) → b || mentions (names ds) name ≡ true → (mentions (names ds) name ≡ true → (d : Declaration) × (declared ds name ≡ Some d))
        → (d : Declaration) × (◌≡◌ {A = Option Declaration} (elim b [ true ↦ Some x | false ↦ declared ds name ]) (Some d))
    by true e later = (x, refl)
    by false e later = later e

fit : (y : Spec) (t : Term) → mentions (names (symbols y) ++ variable_words y.variables) (head t).bytes ≡ true → is_variable y (head t).bytes ≡ false
    → is_filled y t ≡ true → ill_sorted_in y t ≡ [] → IsFit y t
fit y t known closed filled sorted =
    let d = mentioned (symbols y) (head t).bytes (mentions_append (names (symbols y)) (variable_words y.variables) (head t).bytes known closed) in
    record { declaration = d.0; is_symbol = d.1; filled = filled; sorted = sorted }

each-fit : (y : Spec) (ts : List Term) → Every (λ t. mentions (names (symbols y) ++ variable_words y.variables) (head t).bytes ≡ true) ts
    → Every (λ t. is_variable y (head t).bytes ≡ false) ts → Every (λ t. is_filled y t ≡ true) ts → Every (λ t. ill_sorted_in y t ≡ []) ts
    → Every (IsFit y) ts
each-fit y [] a b c d = tt
each-fit y (t ∷ ts) a b c d = (fit y t a.0 b.0 c.0 d.0, each-fit y ts a.1 b.1 c.1 d.1)

flat-append : {A B : Type 0} (f : A → List B) (xs ys : List A) → flat_map f (xs ++ ys) ≡ flat_map f xs ++ flat_map f ys
flat-append f [] ys = refl
flat-append f (x ∷ xs) ys = ap (λ zs. f x ++ zs) (flat-append f xs ys) ∙ sym (append_assoc (f x) (flat_map f xs) (flat_map f ys))

-- what holds of all terms holds of those to evaluate
pub of-terms : (y : Spec) (P : Term → Type 0) → Every P (all_terms y) → Every P (everywhere y.terms)
of-terms y P h = (every_append P (everywhere (rule_terms y.rules)) (everywhere y.terms)
    (subst (Every P) (flat-append subterms (rule_terms y.rules) y.terms) h)).1

terms-fit : (y : Spec) → fault y ≡ None → Every (IsFit y) (everywhere y.terms)
terms-fit y kept =
    let lists = all_kept (all_rules y) kept in
    each-fit y (everywhere y.terms)
    (of-terms y (λ t. mentions (names (symbols y) ++ variable_words y.variables) (head t).bytes ≡ true)
    (every_heads (λ n. mentions (names (symbols y) ++ variable_words y.variables) n ≡ true) (all_terms y)
    (missing_none (names (symbols y) ++ variable_words y.variables) (heads (all_terms y)) lists.1.1.1.1.0)))
    (every_heads (λ n. is_variable y n ≡ false) (everywhere y.terms)
    (filter_none (λ (w : Word). is_variable y w.bytes) (heads (everywhere y.terms)) (no_free_variable y kept)))
    (of-terms y (λ t. is_filled y t ≡ true) (all_filled y kept))
    (of-terms y (λ t. ill_sorted_in y t ≡ []) (flat_none (ill_sorted_in y) (all_terms y)
    (heads_none (flat_map (ill_sorted_in y) (all_terms y)) lists.1.1.1.1.1.1.0)))

pub every-got : {A : Type 0} (P : A → Type 0) (xs : List A) → Every P xs → (i : ℕ) (x : A) → slice_get xs i ≡ Some x → P x
every-got P [] h i x e = absurd (cc e)
every-got P (z ∷ xs) h zero x e = let is : z ≡ x = cc e in subst P is h.0
every-got P (z ∷ xs) h (suc i) x e = every-got P xs h.1 i x e

-- each term to evaluate is ground, as a tree
pub term-ground : (y : Spec) → fault y ≡ None → (i : ℕ) (t : Term) → slice_get y.terms i ≡ Some t → IsGround y (tree_of t)
term-ground y kept i t e = fit-ground y t (every-got (λ t. Every (IsFit y) (subterms t)) y.terms
    (every_flat (IsFit y) subterms y.terms (terms-fit y kept)) i t e)

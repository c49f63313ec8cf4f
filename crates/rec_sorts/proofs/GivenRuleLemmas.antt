-- What the numbers of what is declared show of input terms is what their rules ask.
use Rattle.std.proofs.Common.{refl, sym, ap, ◌∙◌, arith}
use Rattle.std.proofs.lemmas.List.{length-map}
use Rattle.std.specs.Prelude.{ℕ, ◌≡◌, ◌<◌, ◌&&◌, ◌||◌, Bool, true, false, not, List, [], ◌∷◌, ◌++◌, Option}
use Rattle.std.specs.Prelude.{Some, None, length, flat_map, nat_eq, is_some, is_none, unwrap_or, IfSome}
use Rattle.std.specs.Bool.{beq}
use Rattle.std.specs.List.{list_any}
use Rattle.std.specs.Option.{option_eq, option_map, option_and_then}
use Rattle.rx_term.specs.Tree.{Tree, Trees, Int, Appl, Items, Hole, none, more, list_of, to_list, count_of, items_of}
use Rattle.rx_term.specs.Name.{plain_name}
use Rattle.rx_term.specs.Store.{Store}
use Rattle.rx_term.specs.Walks.{held_trees}
use Rattle.rx_term.specs.declared.Term.{Term as Reference}
use Rattle.rec_syntax.specs.Tokens.{Word}
use Rattle.rec_syntax.specs.Syntax.{Declaration, Spec}
use Rattle.rec_sorts.specs.Lookup.{symbols, symbol, variable_words, same_sort}
use Rattle.rec_sorts.specs.SpecRules.{fault, all_rules, unknown_sorts}
use Rattle.rec_sorts.specs.Laws.{Every}
use Rattle.rec_sorts.specs.TermRules.{nodes, arguments, is_no_application, is_annotated, tree_symbol, is_undeclared, is_ill_filled, tree_sort}
use Rattle.rec_sorts.specs.TermRules.{are_ill_sorted, is_ill_sorted, first_passed, elements, broken_by_elements, broken_by_terms}
use Rattle.rec_sorts.specs.Names.{first_at}
use Rattle.rec_sorts.specs.Declaring.{sort_numbers}
use Rattle.rec_sorts.specs.Scope.{meaning_of, sort_at, arguments_at}
use Rattle.rec_sorts.specs.Agreeing.{IsScope}
use Rattle.rec_sorts.specs.Walking.{unstacked}
use Rattle.rec_sorts.specs.Inner.GivenTerms.{symbol_alone, symbol_at, is_nameless, is_misfilled, are_misfits, has_misfit, broken_by_nodes, broken_by_all}
use Rattle.rec_sorts.specs.declared.letters.Meaning.{Meaning}
use Rattle.rec_sorts.specs.declared.letters.Meaning.TheVariants.{Symbol, Variable}
use Rattle.rec_sorts.specs.ListNodes.{AreNodes}
use Rattle.rec_sorts.specs.declared.walk.ListNodes.{ListNodes}
use Rattle.rec_sorts.specs.declared.scope.Scope.{Scope}
use Rattle.rec_sorts.proofs.KeptLemmas.{all_kept}
use Rattle.rec_sorts.proofs.MeaningLemmas.{meaning-symbol, meaning-variable, sort_at-name, sort_by, arguments_at-name, arguments_by}
use Rattle.rec_sorts.proofs.KeptNameLemmas.{IsKnown, AreKnown, option_eq-numbers, arguments_known, sorts_known}
use Rattle.rec_sorts.proofs.WalkedLemmas.{any-unstacked, any-inner}

pub length-to_list : (ts : Trees) → length (to_list ts) ≡ count_of ts
length-to_list none = refl
length-to_list (more t ts) = omega (arith, length-to_list ts)

-- tests with the same answers pass at the same elements
any-same : {X : Type 0} (p q : X → Bool) → ((x : X) → p x ≡ q x) → (xs : List X) → list_any p xs ≡ list_any q xs
any-same p q same [] = refl
any-same p q same (x ∷ xs) = ap (λ b. b || list_any p xs) (same x) ∙ ap (λ b. q x || b) (any-same p q same xs)

-- the symbol of a name, if it is asked for
abbrev pub declared_by : Spec → Bool → List ℕ → Option Declaration
declared_by y b name = elim b [ true ↦ symbol y name | false ↦ None ]

abbrev pub meant_by : Scope → Bool → List ℕ → Option Meaning
meant_by s b name = elim b [ true ↦ symbol_alone (meaning_of s name) | false ↦ None ]

-- a tree's name
abbrev pub tree_name : Tree → List ℕ
tree_name (Appl name quoted args anns) = name
tree_name t = []

-- the symbol of this name is declared, and is the one that is meant
pub record Stands (y : Spec) (s : Scope) (name : List ℕ) (d : Declaration) (meant : Option Meaning) : Type 0 where
  pub number : ℕ
  pub declared : symbol y name ≡ Some d
  pub within : number < length (symbols y)
  pub same : meant ≡ meaning_of s name
  pub numbered : meant ≡ Some (Symbol number)

-- a symbol is no variable
alone-variable : (o : Option ℕ) → symbol_alone (option_map (λ k. Variable k) o) ≡ None
alone-variable None = refl
alone-variable (Some k) = refl

module _ (y : Spec) (s : Scope) (h : IsScope y s) where
  stands_by : (b : Bool) (name : List ℕ) (d : Declaration) → declared_by y b name ≡ Some d → Stands y s name d (meant_by s b name)
  stands_by true name d e =
      let f = meaning-symbol y s h name d e in
      let meant : symbol_alone (meaning_of s name) ≡ Some (Symbol f.0) = ap symbol_alone f.4 in
      record { number = f.0; declared = e; within = f.1; same = meant ∙ sym f.4; numbered = meant }
  stands_by false name d e = absurd (cc e)

  unmeant_by : (b : Bool) (name : List ℕ) → declared_by y b name ≡ None → meant_by s b name ≡ None
  unmeant_by true name e = ap symbol_alone (meaning-variable y s h name e) ∙ alone-variable (first_at (variable_words y.variables) name)
  unmeant_by false name e = refl

  -- a tree of a declared symbol represents it
  pub stands : (t : Tree) (d : Declaration) → tree_symbol y t ≡ Some d → Stands y s (tree_name t) d (symbol_at s t)
  stands (Appl name quoted args anns) d e = stands_by (beq quoted (not (plain_name name))) name d e
  stands (Int z anns) d e = absurd (cc e)
  stands (Items items anns) d e = absurd (cc e)
  stands (Hole inner anns) d e = absurd (cc e)

  -- another tree represents none
  pub unmeant : (t : Tree) → tree_symbol y t ≡ None → symbol_at s t ≡ None
  unmeant (Appl name quoted args anns) e = unmeant_by (beq quoted (not (plain_name name))) name e
  unmeant (Int z anns) e = refl
  unmeant (Items items anns) e = refl
  unmeant (Hole inner anns) e = refl

  abbrev undeclared_by : Option Declaration → Bool
  undeclared_by o = elim o [ Some d ↦ false | None ↦ true ]

  pub nameless-undeclared : (t : Tree) → is_nameless s t ≡ is_undeclared y t
  nameless-undeclared t = by_symbol (tree_symbol y t) refl
    where
      by_symbol : (o : Option Declaration) → tree_symbol y t ≡ o → is_none (symbol_at s t) ≡ undeclared_by o
      by_symbol (Some d) e = ap is_none (stands t d e).numbered
      by_symbol None e = ap is_none (unmeant t e)

  abbrev filled_by : List Tree → Option Declaration → Bool
  filled_by ts o = elim o [ Some d ↦ not (nat_eq (length ts) (length d.arguments)) | None ↦ false ]

  misfilled_at : Option Meaning → ℕ → Bool
  misfilled_at m n = is_some m && not (nat_eq n (length (arguments_at s m)))

  arguments-symbol : (name : List ℕ) (d : Declaration) (m : Option Meaning) → Stands y s name d m
      → arguments_at s m ≡ sort_numbers (first_at y.sorts) d.arguments
  arguments-symbol name d m f =
      ap (arguments_at s) f.same
      ∙ arguments_at-name y s h name
      ∙ ap (arguments_by y s h) f.declared

  pub misfilled-ill_filled : (t : Tree) → is_misfilled s t ≡ is_ill_filled y t
  misfilled-ill_filled t = by_symbol (tree_symbol y t) refl
    where
      by_symbol : (o : Option Declaration) → tree_symbol y t ≡ o → is_misfilled s t ≡ filled_by (to_list (arguments t)) o
      by_symbol (Some d) e =
          let f = stands t d e in
          ap (λ m. is_some m && not (nat_eq (count_of (arguments t)) (length (arguments_at s (symbol_at s t))))) f.numbered
          ∙ ap (λ (xs : List (Option ℕ)). not (nat_eq (count_of (arguments t)) (length xs))) (arguments-symbol (tree_name t) d (symbol_at s t) f)
          ∙ ap (λ (n : ℕ). not (nat_eq (count_of (arguments t)) n)) (length-map d.arguments (λ (w : Word). first_at y.sorts w.bytes))
          ∙ ap (λ (n : ℕ). not (nat_eq n (length d.arguments))) (sym (length-to_list (arguments t)))
      by_symbol None e = ap (λ m. is_some m && not (nat_eq (count_of (arguments t)) (length (arguments_at s (symbol_at s t))))) (unmeant t e)

  abbrev sort_of_symbol : Option Declaration → Option (List ℕ)
  sort_of_symbol o = elim o [ Some d ↦ Some d.sort.bytes | None ↦ None ]

  -- the number of a tree's sort
  sort-tree : (t : Tree) → sort_at s (symbol_at s t) ≡ option_and_then (first_at y.sorts) (tree_sort y t)
  sort-tree t = by_symbol (tree_symbol y t) refl
    where
      by_symbol : (o : Option Declaration) → tree_symbol y t ≡ o → sort_at s (symbol_at s t) ≡ option_and_then (first_at y.sorts) (sort_of_symbol o)
      by_symbol (Some d) e =
          let f = stands t d e in
          ap (sort_at s) f.same
          ∙ sort_at-name y s h (tree_name t)
          ∙ ap (λ (o : Option Declaration). option_and_then (first_at y.sorts) (sort_by y s h o (tree_name t))) f.declared
      by_symbol None e = ap (sort_at s) (unmeant t e)

  module _ (kept : unknown_sorts y ≡ []) where
    last_known : (sorts ws : List Word) (w : Word) → AreKnown sorts (ws ++ w ∷ []) → IsKnown sorts (Some w.bytes)
    last_known sorts [] w k = k.0
    last_known sorts (v ∷ ws) w k = last_known sorts ws w k.1

    sort_known : (t : Tree) → IsKnown y.sorts (tree_sort y t)
    sort_known t = by_symbol (tree_symbol y t) refl
      where
        by_symbol : (o : Option Declaration) → tree_symbol y t ≡ o → IsKnown y.sorts (sort_of_symbol o)
        by_symbol (Some d) e = let f = stands t d e in last_known y.sorts d.arguments d.sort (sorts_known y kept (tree_name t) d f.declared)
        by_symbol None e = tt

    misfits-sorted : (ss : List Word) (ts : Trees) → AreKnown y.sorts ss → are_misfits s (sort_numbers (first_at y.sorts) ss) ts ≡ are_ill_sorted y ss ts
    misfits-sorted [] ts k = refl
    misfits-sorted (v ∷ ss) none k = refl
    misfits-sorted (v ∷ ss) (more t ts) k =
        ap (λ (o : Option ℕ). not (option_eq nat_eq o (first_at y.sorts v.bytes)) || are_misfits s (sort_numbers (first_at y.sorts) ss) ts) (sort-tree t)
        ∙ ap (λ b. not b || are_misfits s (sort_numbers (first_at y.sorts) ss) ts) (option_eq-numbers y.sorts (tree_sort y t) (Some v.bytes) (sort_known t) k.0)
        ∙ ap (λ b. not (same_sort (tree_sort y t) (Some v.bytes)) || b) (misfits-sorted ss ts k.1)

    abbrev ill_sorted_by : Trees → Option Declaration → Bool
    ill_sorted_by ts o = elim o [ Some d ↦ are_ill_sorted y d.arguments ts | None ↦ false ]

    pub misfit-ill_sorted : (t : Tree) → has_misfit s t ≡ is_ill_sorted y t
    misfit-ill_sorted t = by_symbol (tree_symbol y t) refl
      where
        by_symbol : (o : Option Declaration) → tree_symbol y t ≡ o → has_misfit s t ≡ ill_sorted_by (arguments t) o
        by_symbol (Some d) e =
            let f = stands t d e in
            ap (λ (xs : List (Option ℕ)). are_misfits s xs (arguments t)) (arguments-symbol (tree_name t) d (symbol_at s t) f)
            ∙ misfits-sorted d.arguments (arguments t) (arguments_known y kept (tree_name t) d f.declared)
        by_symbol None e = ap (λ m. are_misfits s (arguments_at s m) (arguments t)) (unmeant t e)

  -- the rules 2 to 6
  pub broken-nodes : fault y ≡ None → (ts all inner : List Tree) → all ≡ unstacked ts → inner ≡ unstacked (flat_map (λ t. to_list (arguments t)) ts)
      → broken_by_nodes s all inner ≡ broken_by_elements y ts
  broken-nodes kept ts all inner p q =
      let every : Every (λ b. b.words ≡ []) (all_rules y) = all_kept (all_rules y) kept in
      let sorts : unknown_sorts y ≡ [] = every.1.1.1.0 in
      let one = ap (list_any is_no_application) p ∙ any-unstacked is_no_application ts in
      let two = ap (list_any is_annotated) q ∙ any-inner is_annotated ts in
      let three = ap (list_any (is_nameless s)) p ∙ any-unstacked (is_nameless s) ts
      ∙ any-same (is_nameless s) (is_undeclared y) nameless-undeclared (flat_map nodes ts) in
      let four = ap (list_any (is_misfilled s)) p ∙ any-unstacked (is_misfilled s) ts
      ∙ any-same (is_misfilled s) (is_ill_filled y) misfilled-ill_filled (flat_map nodes ts) in
      let five = ap (list_any (has_misfit s)) p ∙ any-unstacked (has_misfit s) ts
      ∙ any-same (has_misfit s) (is_ill_sorted y) (misfit-ill_sorted sorts) (flat_map nodes ts) in
      λ i. first_passed 2 (one i ∷ two i ∷ three i ∷ four i ∷ five i ∷ [])

  -- all six
  pub broken-list : fault y ≡ None → (t : Tree) (all inner : List Tree) → is_some (elements t) ≡ true → all ≡ unstacked (to_list (items_of t))
      → inner ≡ unstacked (flat_map (λ t. to_list (arguments t)) (to_list (items_of t)))
      → broken_by_nodes s all inner ≡ broken_by_terms y t
  broken-list kept (Items items none) all inner e p q = broken-nodes kept (to_list items) all inner p q
  broken-list kept (Items items (more a as')) all inner e p q = absurd (cc e)
  broken-list kept (Int z anns) all inner e p q = absurd (cc e)
  broken-list kept (Appl name quoted args anns) all inner e p q = absurd (cc e)
  broken-list kept (Hole held anns) all inner e p q = absurd (cc e)

-- the rules 2 to 6 do not depend on the order of subterms, nor on how often each is visited
pub broken-found : (s : Scope) (w : Store) (ts : List Tree) (found : ListNodes) (all inner : List Reference) → all ≡ found.all.items
    → inner ≡ found.inner.items → AreNodes w ts found → broken_by_nodes s (held_trees w all) (held_trees w inner) ≡ broken_by_all s ts
broken-found s w ts found all inner e f n =
    let at_all = (λ (p : Tree → Bool). ap (λ rs. list_any p (held_trees w rs)) e ∙ n.all_found p) in
    let at_inner = (λ (p : Tree → Bool). ap (λ rs. list_any p (held_trees w rs)) f ∙ n.inner_found p) in
    let one = at_all is_no_application in
    let two = at_inner is_annotated in
    let three = at_all (is_nameless s) in
    let four = at_all (is_misfilled s) in
    let five = at_all (has_misfit s) in
    λ i. first_passed 2 (one i ∷ two i ∷ three i ∷ four i ∷ five i ∷ [])

-- what holds of the tree of a reference
pub if_held : (P : Tree → Type 0) (o : Option Tree) → P (unwrap_or o (list_of none)) → IfSome o P
if_held P None h = tt
if_held P (Some t) h = h

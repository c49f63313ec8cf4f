-- The symbol of a call in a specification, and its rules.
use Rattle.std.proofs.Common.{◌≡◌, ◌≢◌, ℕ, zero, suc, ◌<◌, ◌≤◌, Bool, true, false, List, [], ◌∷◌, length, drop, map, get_or, Option, Some, None}
use Rattle.std.proofs.Common.{refl, sym, ap, ◌∙◌, subst, arith, slice_get, eq-eqb}
use Rattle.std.specs.Prelude.{not, nat_eq, bytes_eq, unwrap_or}
use Rattle.std.specs.Bool.{beq}
use Rattle.std.specs.Option.{option_and_then}
use Rattle.std.proofs.lemmas.Slice.Eq.{bytes_eq-Decides}
use Rattle.std.proofs.lemmas.Bool.Decides.{Decides-eqb}
use Rattle.std.proofs.lemmas.List.{length-map}
use Rattle.rx_term.specs.Name.{Signature, plain_name}
use Rattle.rx_term.specs.Kinds.{HasAppl}
use Rattle.rx_term.specs.Tree.{Tree, none, from_list, list_of, to_list}
use Rattle.rx_term.specs.Store.{Store, arity_at, signature_of}
use Rattle.rx_term.specs.Walks.{held_tree, held_trees}
use Rattle.rx_term.proofs.TreeLemmas.{to_from_list}
use Rattle.rx_term.specs.declared.Symbol as bank
use Rattle.rx_term.specs.declared.Term.{Term}
use Rattle.rec_syntax.specs.Lexemes.{word_of}
use Rattle.rec_syntax.specs.Parts.{words_of}
use Rattle.rec_syntax.specs.Syntax.{Declaration, Spec}
use Rattle.rec_syntax.specs.declared.lexer.Span.{Span}
use Rattle.rec_sorts.specs.Linked.{AreLinked, signature}
use Rattle.rec_sorts.specs.Lookup.{declared, names, same_sort, symbol, symbols}
use Rattle.rec_sorts.specs.Numbering.{arity_of, bytes_at, name_of}
use Rattle.rec_sorts.specs.SpecRules.{fault}
use Rattle.rec_sorts.specs.TermRules.{are_ill_sorted, first_passed, tree_sort, tree_symbol}
use Rattle.rec_sorts.specs.declared.letters.Meaning.TheVariants.{Symbol}
use Rattle.rec_sorts.proofs.LinkLemmas.{symbols_differ}
use Rattle.psilt_core.specs.Calling.{broken_by_call, call_of}
use Rattle.psilt_core.specs.Inner.Judged.{IsDeclared, IsJudged, IsSymbolOf}

-- ---- a declared symbol by its name

pub bytes_same : (a b : List ℕ) → a ≡ b → bytes_eq a b ≡ true
bytes_same a b e = (bytes_eq-Decides a b).1 e

bytes_other : (a b : List ℕ) → a ≢ b → bytes_eq a b ≡ false
bytes_other a b n = by (bytes_eq a b) refl
  where
    by : (c : Bool) → bytes_eq a b ≡ c → bytes_eq a b ≡ false
    by true e = absurd (n ((bytes_eq-Decides a b).0 e))
    by false e = e

abbrev declared_test : Bool → Declaration → Option Declaration → Option Declaration
declared_test b d o = elim b [ true ↦ Some d | false ↦ o ]

-- the declaration at an index has the name
pub named_here : (ds : List Declaration) (k : ℕ) (name : List ℕ) → k < length ds → bytes_at (names ds) k ≡ name → declared (drop k ds) name ≡ slice_get ds k
named_here [] k name lt e = absurd (omega (arith, lt))
named_here (d ∷ ds) zero name lt e = ap (λ b. declared_test b d (declared ds name)) (bytes_same d.name.bytes name e)
named_here (d ∷ ds) (suc k) name lt e = named_here ds k name (omega (arith, lt)) e

-- it has another one
pub named_later : (ds : List Declaration) (k : ℕ) (name : List ℕ) → k < length ds → bytes_at (names ds) k ≢ name
    → declared (drop k ds) name ≡ declared (drop (suc k) ds) name
named_later [] k name lt n = absurd (omega (arith, lt))
named_later (d ∷ ds) zero name lt n = ap (λ b. declared_test b d (declared ds name)) (bytes_other d.name.bytes name n)
named_later (d ∷ ds) (suc k) name lt n = named_later ds k name (omega (arith, lt)) n

pub named_nowhere : (ds : List Declaration) (k : ℕ) (name : List ℕ) → length ds ≤ k → declared (drop k ds) name ≡ None
named_nowhere [] zero name le = refl
named_nowhere [] (suc k) name le = refl
named_nowhere (d ∷ ds) zero name le = absurd (omega (arith, le))
named_nowhere (d ∷ ds) (suc k) name le = named_nowhere ds k name (omega (arith, le))

-- where names differ, a name is that of the declaration with its number
numbered : (ds : List Declaration) → ((i j : ℕ) → i < length ds → j < length ds → bytes_at (names ds) i ≡ bytes_at (names ds) j → i ≡ j)
    → (k : ℕ) → k < length ds → declared ds (bytes_at (names ds) k) ≡ slice_get ds k
numbered [] differ k lt = absurd (omega (arith, lt))
numbered (d ∷ ds) differ zero lt = ap (λ b. declared_test b d (declared ds d.name.bytes)) (bytes_same d.name.bytes d.name.bytes refl)
numbered (d ∷ ds) differ (suc k) lt =
    ap (λ b. declared_test b d (declared ds (bytes_at (names ds) k)))
    (bytes_other d.name.bytes (bytes_at (names ds) k) (λ e. let same = differ 0 (suc k) (omega arith) lt e in absurd (omega (arith, same))))
    ∙ numbered ds (λ i j p q e. let same = differ (suc i) (suc j) (omega (arith, p)) (omega (arith, q)) e in omega (arith, same)) k (omega (arith, lt))

pub symbol_numbered : (y : Spec) → fault y ≡ None → (k : ℕ) → k < length (symbols y) → symbol y (name_of y (Symbol k)) ≡ slice_get (symbols y) k
symbol_numbered y kept k lt = numbered (symbols y) (λ i j p q e. symbols_differ y kept i j p q e) k lt

-- ---- a symbol of the store

beq_same : (a : Bool) → beq a a ≡ true
beq_same true = refl
beq_same false = refl

abbrev pub quoted_test : Spec → Bool → List ℕ → Option Declaration
quoted_test y b name = elim b [ true ↦ symbol y name | false ↦ None ]

same_signature : (a b : Signature) (o : Option Signature) → o ≡ Some a → o ≡ Some b → a ≡ b
same_signature a b o e f = let both : Some a ≡ Some b = sym e ∙ f in cc both

-- the symbol of the store with the signature of a declared one
pub declared_linked : (y : Spec) (w : Store) (s : bank.Symbol) (k : ℕ) → fault y ≡ None → k < length (symbols y) → signature_of w s ≡ Some (signature y k)
    → IsDeclared y w s (Some k)
declared_linked y w s k kept lt is = λ g e.
    subst (λ (h : Signature). tree_symbol y (call_of h none) ≡ slice_get (symbols y) k) (same_signature (signature y k) g (signature_of w s) is e)
    (ap (λ b. quoted_test y b (name_of y (Symbol k))) (beq_same (not (plain_name (name_of y (Symbol k))))) ∙ symbol_numbered y kept k lt)

beq_other : (a b : Bool) → a ≡ b → beq a (not b) ≡ false
beq_other true true e = refl
beq_other false false e = refl
beq_other true false e = absurd (cc e)
beq_other false true e = absurd (cc e)

beq_not : (a b : Bool) → a ≢ b → beq a (not b) ≡ true
beq_not true true n = absurd (n refl)
beq_not false false n = absurd (n refl)
beq_not true false n = refl
beq_not false true n = refl

-- the number of a linked symbol
pub linked_number : (y : Spec) (w : Store) (ss : List bank.Symbol) (s : bank.Symbol) (k : ℕ) → AreLinked y w ss → k < length ss → get_or ss k s ≡ s → IsSymbolOf y w s k
linked_number y w ss s k linked lt is =
    let low : k < length (symbols y) = let n = linked.counted in omega (arith, n, lt) in
    (low, subst (λ x. signature_of w x ≡ Some (signature y k)) is (linked.linked k s low))

-- the quotes are wrong
pub declared_misquoted : (y : Spec) (w : Store) (s : bank.Symbol) (h : Signature) → signature_of w s ≡ Some h → h.quoted ≡ plain_name h.name → IsDeclared y w s None
declared_misquoted y w s h is quoted = λ g e.
    subst (λ (h : Signature). tree_symbol y (call_of h none) ≡ None) (same_signature h g (signature_of w s) is e)
    (ap (λ b. quoted_test y b h.name) (beq_other h.quoted (plain_name h.name) quoted))

-- they are right, and the name is looked up
pub declared_named : (y : Spec) (w : Store) (s : bank.Symbol) (h : Signature) (k : Option ℕ) → signature_of w s ≡ Some h → h.quoted ≢ plain_name h.name
    → symbol y h.name ≡ option_and_then (slice_get (symbols y)) k → IsDeclared y w s k
declared_named y w s h k is quoted found = λ g e.
    subst (λ (h : Signature). tree_symbol y (call_of h none) ≡ option_and_then (slice_get (symbols y)) k) (same_signature h g (signature_of w s) is e)
    (ap (λ b. quoted_test y b h.name) (beq_not h.quoted (plain_name h.name) quoted) ∙ found)

-- the signature of a symbol that takes some arguments
pub has_signature : (w : Store) (s : bank.Symbol) (n : ℕ) → arity_at w s ≡ Some n → (g : Signature) × (signature_of w s ≡ Some g) × (g.arity ≡ n)
has_signature w s n e = by (signature_of w s) refl e
  where
    by : (o : Option Signature) → signature_of w s ≡ o → option_and_then (λ (g : Signature). Some g.arity) o ≡ Some n
        → (g : Signature) × (signature_of w s ≡ Some g) × (g.arity ≡ n)
    by (Some g) is h = (g, is, cc h)
    by None is h = absurd (cc h)

-- ---- the sorts of values

module _ (y : Spec) (source : List ℕ) (w : Store) where
  abbrev ill_in : List Span → List Term → Bool
  ill_in ss rs = are_ill_sorted y (words_of source ss) (from_list (held_trees w rs))

  pub sorted_next : (ss : List Span) (rs : List Term) (i : ℕ) (s : Span) (r : Term) → i < length rs → i < length ss
      → same_sort (tree_sort y (held_tree w (get_or rs i r))) (Some (word_of source (get_or ss i s)).bytes) ≡ true
      → ill_in (drop i ss) (drop i rs) ≡ ill_in (drop (suc i) ss) (drop (suc i) rs)
  sorted_next [] rs i s r p q e = absurd (omega (arith, q))
  sorted_next ss [] i s r p q e = absurd (omega (arith, p))
  sorted_next (t ∷ ss) (x ∷ rs) zero s r p q e = rw e refl
  sorted_next (t ∷ ss) (x ∷ rs) (suc i) s r p q e = sorted_next ss rs i s r (omega (arith, p)) (omega (arith, q)) e

  pub sorted_not : (ss : List Span) (rs : List Term) (i : ℕ) (s : Span) (r : Term) → i < length rs → i < length ss
      → same_sort (tree_sort y (held_tree w (get_or rs i r))) (Some (word_of source (get_or ss i s)).bytes) ≡ false
      → ill_in (drop i ss) (drop i rs) ≡ true
  sorted_not [] rs i s r p q e = absurd (omega (arith, q))
  sorted_not ss [] i s r p q e = absurd (omega (arith, p))
  sorted_not (t ∷ ss) (x ∷ rs) zero s r p q e = rw e refl
  sorted_not (t ∷ ss) (x ∷ rs) (suc i) s r p q e = sorted_not ss rs i s r (omega (arith, p)) (omega (arith, q)) e

  no_values : (ss : List Span) → ill_in ss [] ≡ false
  no_values [] = refl
  no_values (s ∷ ss) = refl

  pub sorted_all : (ss : List Span) (rs : List Term) (i : ℕ) → length rs ≤ i → ill_in (drop i ss) (drop i rs) ≡ false
  sorted_all ss [] zero le = no_values ss
  sorted_all ss [] (suc i) le = no_values (drop (suc i) ss)
  sorted_all ss (x ∷ rs) zero le = absurd (omega (arith, le))
  sorted_all [] (x ∷ rs) (suc i) le = refl
  sorted_all (t ∷ ss) (x ∷ rs) (suc i) le = sorted_all ss rs i (omega (arith, le))

-- the sort of an application is that of its symbol
pub sort_of_appl : (y : Spec) (w : Store) (t : Term) (s : bank.Symbol) (h : HasAppl w t s) (sort : List ℕ) (r : Bool)
    → ((g : Signature) → signature_of w s ≡ Some g → r ≡ same_sort (tree_sort y (call_of g none)) (Some sort))
    → r ≡ same_sort (tree_sort y (held_tree w t)) (Some sort)
sort_of_appl y w t s h sort r is = is _ h.symbol ∙ ap (λ o. same_sort (tree_sort y (unwrap_or o (list_of none))) (Some sort)) (sym h.here)

-- ---- the rules of a call

abbrev undeclared_by : Option Declaration → Bool
undeclared_by o = elim o [ Some d ↦ false | None ↦ true ]

abbrev ill_filled_by : List Tree → Option Declaration → Bool
ill_filled_by ts o = elim o [ Some d ↦ not (nat_eq (length (to_list (from_list ts))) (length d.arguments)) | None ↦ false ]

abbrev ill_sorted_by : Spec → List Tree → Option Declaration → Bool
ill_sorted_by y ts o = elim o [ Some d ↦ are_ill_sorted y d.arguments (from_list ts) | None ↦ false ]

abbrev verdict_by : Spec → List Tree → Option Declaration → Option ℕ
verdict_by y ts o = first_passed 4 (undeclared_by o ∷ ill_filled_by ts o ∷ ill_sorted_by y ts o ∷ [])

not_equal : (a b : ℕ) → a ≢ b → nat_eq a b ≡ false
not_equal a b n = by (nat_eq a b) refl
  where
    by : (c : Bool) → nat_eq a b ≡ c → nat_eq a b ≡ false
    by true e = absurd (n ((Decides-eqb a b).0 e))
    by false e = e

module _ (y : Spec) (g : Signature) (ts : List Tree) where
  verdict_is : (o : Option Declaration) → tree_symbol y (call_of g none) ≡ o → broken_by_call y (call_of g (from_list ts)) ≡ verdict_by y ts o
  verdict_is o e = ap (verdict_by y ts) e

  pub breaks_four : tree_symbol y (call_of g none) ≡ None → broken_by_call y (call_of g (from_list ts)) ≡ Some 4
  breaks_four e = verdict_is None e

  pub breaks_five : (d : Declaration) → tree_symbol y (call_of g none) ≡ Some d → length ts ≢ length d.arguments
      → broken_by_call y (call_of g (from_list ts)) ≡ Some 5
  breaks_five d e n =
      verdict_is (Some d) e
      ∙ ap (λ b. first_passed 5 (not b ∷ ill_sorted_by y ts (Some d) ∷ []))
      (ap (λ us. nat_eq (length us) (length d.arguments)) (to_from_list ts) ∙ not_equal (length ts) (length d.arguments) n)

  filled : (d : Declaration) → length ts ≡ length d.arguments → nat_eq (length (to_list (from_list ts))) (length d.arguments) ≡ true
  filled d e = ap (λ us. nat_eq (length us) (length d.arguments)) (to_from_list ts) ∙ eq-eqb (length ts) (length d.arguments) e

  sorted_as : (d : Declaration) (b : Bool) → tree_symbol y (call_of g none) ≡ Some d → length ts ≡ length d.arguments
      → are_ill_sorted y d.arguments (from_list ts) ≡ b → broken_by_call y (call_of g (from_list ts)) ≡ first_passed 6 (b ∷ [])
  sorted_as d b e n is =
      verdict_is (Some d) e
      ∙ ap (λ c. first_passed 5 (not c ∷ ill_sorted_by y ts (Some d) ∷ [])) (filled d n)
      ∙ ap (λ c. first_passed 6 (c ∷ [])) is

  pub breaks_six : (d : Declaration) → tree_symbol y (call_of g none) ≡ Some d → length ts ≡ length d.arguments
      → are_ill_sorted y d.arguments (from_list ts) ≡ true → broken_by_call y (call_of g (from_list ts)) ≡ Some 6
  breaks_six d e n is = sorted_as d true e n is

  pub breaks_none : (d : Declaration) → tree_symbol y (call_of g none) ≡ Some d → length ts ≡ length d.arguments
      → are_ill_sorted y d.arguments (from_list ts) ≡ false → broken_by_call y (call_of g (from_list ts)) ≡ None
  breaks_none d e n is = sorted_as d false e n is

-- ---- the verdict on a call

-- a declaration by its name and by its number
declared_name : (ds : List Declaration) (name : List ℕ) (d : Declaration) → declared ds name ≡ Some d → d.name.bytes ≡ name
declared_name [] name d e = absurd (cc e)
declared_name (c ∷ ds) name d e = by (bytes_eq c.name.bytes name) refl e (declared_name ds name d)
  where
    by : (b : Bool) → bytes_eq c.name.bytes name ≡ b → declared_test b c (declared ds name) ≡ Some d → (declared ds name ≡ Some d → d.name.bytes ≡ name)
        → d.name.bytes ≡ name
    by true is h later = let same : c ≡ d = cc h in ap (λ (x : Declaration). x.name.bytes) (sym same) ∙ (bytes_eq-Decides c.name.bytes name).0 is
    by false is h later = later h

at_number : (ds : List Declaration) (k : ℕ) (d : Declaration) → slice_get ds k ≡ Some d
    → (bytes_at (names ds) k ≡ d.name.bytes) × (get_or (map (λ (x : Declaration). length x.arguments) ds) k 0 ≡ length d.arguments)
at_number [] k d e = absurd (cc e)
at_number (c ∷ ds) zero d e = let same : c ≡ d = cc e in (ap (λ (x : Declaration). x.name.bytes) same, ap (λ (x : Declaration). length x.arguments) same)
at_number (c ∷ ds) (suc k) d e = at_number ds k d e

beq_yes : (a b : Bool) → beq a b ≡ true → a ≡ b
beq_yes true true e = refl
beq_yes false false e = refl
beq_yes true false e = absurd (cc e)
beq_yes false true e = absurd (cc e)

-- the name and the quotes of a declared symbol
quoted_name : (y : Spec) (g : Signature) (d : Declaration) → tree_symbol y (call_of g none) ≡ Some d
    → (g.quoted ≡ not (plain_name g.name)) × (symbol y g.name ≡ Some d)
quoted_name y g d e = by (beq g.quoted (not (plain_name g.name))) refl e
  where
    by : (b : Bool) → beq g.quoted (not (plain_name g.name)) ≡ b → quoted_test y b g.name ≡ Some d
        → (g.quoted ≡ not (plain_name g.name)) × (symbol y g.name ≡ Some d)
    by true is h = (beq_yes g.quoted (not (plain_name g.name)) is, h)
    by false is h = absurd (cc h)

signature_by : (g : Signature) (name : List ℕ) (quoted : Bool) (arity : ℕ) → name ≡ g.name → quoted ≡ g.quoted → arity ≡ g.arity
    → ◌≡◌ {A = Signature} (record { name = name; quoted = quoted; arity = arity }) g
signature_by g name quoted arity e f h = λ i. record { name = e i; quoted = f i; arity = h i }

module _ (y : Spec) (w : Store) (s : bank.Symbol) (k : ℕ) (d : Declaration) (values : List Term) (of : IsDeclared y w s (Some k))
    (at : Some d ≡ slice_get (symbols y) k) where
  declared_as : (g : Signature) → signature_of w s ≡ Some g → tree_symbol y (call_of g none) ≡ Some d
  declared_as g is = of g is ∙ sym at

  trees_counted : length (held_trees w values) ≡ length values
  trees_counted = length-map values (held_tree w)

  pub judged_five : (length values ≡ length d.arguments → ⊥) → IsJudged y w s values (Some 5)
  judged_five n = λ g is. breaks_five y g (held_trees w values) d (declared_as g is) (λ e. n (sym trees_counted ∙ e))

  module _ (filled : length values ≡ length d.arguments) where
    pub judged_six : are_ill_sorted y d.arguments (from_list (held_trees w values)) ≡ true → IsJudged y w s values (Some 6)
    judged_six ill = λ g is. breaks_six y g (held_trees w values) d (declared_as g is) (trees_counted ∙ filled) ill

    pub judged_none : are_ill_sorted y d.arguments (from_list (held_trees w values)) ≡ false → IsJudged y w s values None
    judged_none ill = λ g is. breaks_none y g (held_trees w values) d (declared_as g is) (trees_counted ∙ filled) ill

    pub judged_number : k < length (symbols y) → arity_at w s ≡ Some (length values) → IsSymbolOf y w s k
    judged_number lt counted =
        let g = has_signature w s (length values) counted in
        let q = quoted_name y g.0 d (declared_as g.0 g.1) in
        let n = at_number (symbols y) k d (sym at) in
        let named : name_of y (Symbol k) ≡ g.0.name = n.0 ∙ declared_name (symbols y) g.0.name d q.1 in (
          lt,
          g.1 ∙ ap (λ x. Some x) (sym (signature_by g.0 (name_of y (Symbol k)) (not (plain_name (name_of y (Symbol k)))) (arity_of y k) named
              (ap (λ m. not (plain_name m)) named ∙ sym q.0) (n.1 ∙ sym filled ∙ sym g.2))),
        )

-- a comparison of names
pub equal_names : (a b c : List ℕ) (r : Bool) → r ≡ bytes_eq a b → r ≡ true → a ≡ c → c ≡ b
equal_names a b c r is holds same = sym same ∙ (bytes_eq-Decides a b).0 (sym is ∙ holds)

pub other_names : (a b c : List ℕ) (r : Bool) → r ≡ bytes_eq a b → r ≡ false → a ≡ c → c ≢ b
other_names a b c r is fails same = λ e. absurd (cc (sym fails ∙ is ∙ bytes_same a b (same ∙ e)))

-- Which applications are calls, by the numbers of their symbols.
use Rattle.std.proofs.Common.{◌≡◌, ℕ, ◌+◌, ◌-◌, ◌<◌, ◌≤◌, suc, Bool, true, false, List, [], ◌∷◌}
use Rattle.std.proofs.Common.{Option, Some, None, refl, sym, ap, subst, ◌∙◌, arith, get_or, length, length-append, map}
use Rattle.std.specs.Prelude.{bytes_eq, nat_eq, not, unwrap_or, ◌&&◌}
use Rattle.std.specs.Bool.{beq}
use Rattle.std.specs.Cmp.{booleans_Decides}
use Rattle.std.specs.List.{list_any}
use Rattle.std.specs.Option.{option_and_then}
use Rattle.std.proofs.lemmas.Bool.Decides.{Decides-and, Decides-eqb}
use Rattle.std.proofs.lemmas.List.{get_or-append-add, get_or-map}
use Rattle.std.proofs.lemmas.List.Folds.{list_any_at}
use Rattle.std.proofs.lemmas.Slice.Eq.{bytes_eq-Decides}
use Rattle.rx_term.specs.Kinds.{HasAppl, HasKind}
use Rattle.rx_term.specs.Name.{Signature, plain_name}
use Rattle.rx_term.specs.Steps.{IsSound}
use Rattle.rx_term.specs.Store.{Store, args_of, arity_at, signature_of, tree_at}
use Rattle.rx_term.specs.Tree.{Tree, Trees, Int, Appl, Items, Hole, count_of, list_of, more, none}
use Rattle.rx_term.specs.Walks.{held_tree}
use Rattle.rx_term.specs.declared.Kind.{Kind}
use Rattle.rx_term.specs.declared.Kind.TheVariants as kind
use Rattle.rx_term.specs.declared.Symbol as bank
use Rattle.rx_term.specs.declared.Term.{Term}
use Rattle.rec_syntax.specs.Syntax.{Declaration, Spec, nameless}
use Rattle.rec_sorts.specs.Linked.{AreLinked, NumberOf, signature}
use Rattle.rec_sorts.specs.Lookup.{names, symbols}
use Rattle.rec_sorts.specs.Numbering.{arity_of, name_of}
use Rattle.rec_sorts.specs.declared.letters.Meaning.TheVariants.{Symbol}
use Rattle.rec_match.proofs.AnswerLemmas.{arity-is}
use Rattle.rec_stuck.specs.Inner.Calls.{IsCallOf}
use Rattle.rec_stuck.specs.Stuck.{bare_of, is_call, is_of}

-- ---- an operator's number

abbrev no_declaration : Declaration
no_declaration = record { name = nameless; arguments = []; sort = nameless }

any-at : (p : Declaration → Bool) (ds : List Declaration) → list_any p ds ≡ true → (j : ℕ) × (j < length ds) × (p (get_or ds j no_declaration) ≡ true)
any-at p [] e = absurd (cc e)
any-at p (d ∷ ds) e = by (p d) refl (any-at p ds)
  where
    by : (b : Bool) → p d ≡ b → (list_any p ds ≡ true → (j : ℕ) × (j < length ds) × (p (get_or ds j no_declaration) ≡ true))
        → (j : ℕ) × (j < length (d ∷ ds)) × (p (get_or (d ∷ ds) j no_declaration) ≡ true)
    by true q later = (0, omega arith, q)
    by false q later = let r = later (rw q at e) in let lt = r.1 in (suc r.0, omega (arith, lt), r.2)

module _ (y : Spec) (j : ℕ) (lt : j < length y.operators) where
  abbrev number : ℕ
  number = length y.constructors + j

  abbrev operator : Declaration
  operator = get_or y.operators j no_declaration

  low : number < length (symbols y)
  low = let l = length-append y.constructors y.operators in omega (arith, l, lt)

  here : get_or (symbols y) number no_declaration ≡ operator
  here = get_or-append-add y.constructors y.operators j no_declaration

  named : name_of y (Symbol number) ≡ operator.name.bytes
  named = ap (λ ws. get_or ws number []) (maps (symbols y)) ∙ get_or-map (λ (d : Declaration). d.name.bytes) (symbols y) number no_declaration [] low
      ∙ ap (λ (d : Declaration). d.name.bytes) here
    where
      maps : (ds : List Declaration) → map (λ w. w.bytes) (names ds) ≡ map (λ (d : Declaration). d.name.bytes) ds
      maps [] = refl
      maps (d ∷ ds) = ap (λ bs. d.name.bytes ∷ bs) (maps ds)

  sized : arity_of y number ≡ length operator.arguments
  sized = get_or-map (λ (d : Declaration). length d.arguments) (symbols y) number no_declaration 0 low ∙ ap (λ (d : Declaration). length d.arguments) here

-- ---- an application, and a declaration

module _ (name : List ℕ) (quoted : Bool) (args anns : Trees) (d : Declaration) where
  of-parts : is_of (Appl name quoted args anns) d ≡ true → (d.name.bytes ≡ name) × (quoted ≡ not (plain_name name)) × (count_of args ≡ length d.arguments)
  of-parts e =
      let outer = Decides-and (bytes_eq d.name.bytes name && beq quoted (not (plain_name name))) (nat_eq (count_of args) (length d.arguments))
      (Decides-and (bytes_eq d.name.bytes name) (beq quoted (not (plain_name name))) (bytes_eq-Decides d.name.bytes name)
      (booleans_Decides quoted (not (plain_name name)))) (Decides-eqb (count_of args) (length d.arguments)) in
      let k = outer.0 e in
      (k.0.0, k.0.1, k.1)

  of-all : d.name.bytes ≡ name → quoted ≡ not (plain_name name) → count_of args ≡ length d.arguments → is_of (Appl name quoted args anns) d ≡ true
  of-all a b c =
      let outer = Decides-and (bytes_eq d.name.bytes name && beq quoted (not (plain_name name))) (nat_eq (count_of args) (length d.arguments))
      (Decides-and (bytes_eq d.name.bytes name) (beq quoted (not (plain_name name))) (bytes_eq-Decides d.name.bytes name)
      (booleans_Decides quoted (not (plain_name name)))) (Decides-eqb (count_of args) (length d.arguments)) in
      outer.1 ((a, b), c)

none-of : (t : Tree) → ((d : Declaration) → is_of t d ≡ false) → (ds : List Declaration) → list_any (is_of t) ds ≡ false
none-of t h [] = refl
none-of t h (d ∷ ds) = let a = h d in rw a (none-of t h ds)

tree-of : (w : Store) (t : Term) (u : Tree) → tree_at w t ≡ Some u → held_tree w t ≡ u
tree-of w t u e = ap (λ o. unwrap_or o (list_of none)) e

-- what is no application is no call
pub no-application : (y : Spec) (w : Store) (t : Term) (k : Kind) → HasKind w t k → ((s : bank.Symbol) → k ≡ kind.Appl s → ⊥)
    → is_call y (held_tree w t) ≡ false
no-application y w t (kind.Int z) h other = ap (is_call y) (tree-of w t (Int z h.anns) h.here) ∙ none-of (Int z h.anns) (λ d. refl) y.operators
no-application y w t kind.Nil h other = ap (is_call y) (tree-of w t (Items none h.anns) h.here) ∙ none-of (Items none h.anns) (λ d. refl) y.operators
no-application y w t kind.Cons h other = ap (is_call y) (tree-of w t (Items (more h.first h.rest) h.anns) h.here)
    ∙ none-of (Items (more h.first h.rest) h.anns) (λ d. refl) y.operators
no-application y w t (kind.Appl s) h other = absurd (other s refl)
no-application y w t kind.Hole h other = ap (is_call y) (tree-of w t (Hole h.inside h.anns) h.here) ∙ none-of (Hole h.inside h.anns) (λ d. refl) y.operators

-- ---- an application of a bank's symbol

module _ (y : Spec) (w : Store) (sound : IsSound w) (ss : List bank.Symbol) (linked : AreLinked y w ss) (t : Term) (s : bank.Symbol)
    (h : HasAppl w t s) (o : Option ℕ) (is : NumberOf ss s o) where
  abbrev own : Signature
  own = record { name = h.name; quoted = h.quoted; arity = count_of h.args }

  tree : held_tree w t ≡ Appl h.name h.quoted h.args h.anns
  tree = tree-of w t (Appl h.name h.quoted h.args h.anns) h.here

  -- of an operator it has the number
  number-of : (j : ℕ) → (lt : j < length y.operators) → is_of (Appl h.name h.quoted h.args h.anns) (get_or y.operators j no_declaration) ≡ true
      → o ≡ Some (length y.constructors + j)
  number-of j lt e =
      let parts = of-parts h.name h.quoted h.args h.anns (get_or y.operators j no_declaration) e in
      let k = length y.constructors + j in
      let name : h.name ≡ name_of y (Symbol k) = sym parts.0 ∙ sym (named y j lt) in
      let flag : h.quoted ≡ not (plain_name (name_of y (Symbol k))) = parts.1 ∙ ap (λ n. not (plain_name n)) name in
      let count : count_of h.args ≡ arity_of y k = parts.2 ∙ sym (sized y j lt) in
      let whole : own ≡ signature y k = same k name flag count in
      let l = linked.counted in
      let below = low y j lt in
      is.each k (omega (arith, l, below)) (sound.symbols_one_to_one (get_or ss k s) s (signature y k) (linked.linked k s below)
      (h.symbol ∙ ap (λ g. let r : Option Signature = Some g in r) whole))
    where
      same : (k : ℕ) → h.name ≡ name_of y (Symbol k) → h.quoted ≡ not (plain_name (name_of y (Symbol k))) → count_of h.args ≡ arity_of y k → own ≡ signature y k
      same k a b c =
          ap (λ x. let g : Signature = record { name = x; quoted = h.quoted; arity = count_of h.args } in g) a
          ∙ ap (λ x. let g : Signature = record { name = name_of y (Symbol k); quoted = x; arity = count_of h.args } in g) b
          ∙ ap (λ x. let g : Signature = record { name = name_of y (Symbol k); quoted = not (plain_name (name_of y (Symbol k))); arity = x } in g) c

  not-call : ((j : ℕ) → o ≡ Some (length y.constructors + j) → ⊥) → is_call y (held_tree w t) ≡ false
  not-call never = by (is_call y (held_tree w t)) refl
    where
      by : (b : Bool) → is_call y (held_tree w t) ≡ b → is_call y (held_tree w t) ≡ false
      by true e = let r = any-at (is_of (held_tree w t)) y.operators e in
          absurd (never r.0 (number-of r.0 r.1 (subst (λ u. is_of u (get_or y.operators r.0 no_declaration) ≡ true) tree r.2)))
      by false e = e

  -- without a number it is no call, nor with that of a constructor
  pub no-number : o ≡ None → is_call y (held_tree w t) ≡ false
  no-number e = not-call (λ j k. cc (e, k))

  pub constructor-number : (k : ℕ) → o ≡ Some k → k < length y.constructors → is_call y (held_tree w t) ≡ false
  constructor-number k e lt = not-call (λ j q. let same : Some k ≡ Some (length y.constructors + j) = sym e ∙ q in
      let eq : k ≡ length y.constructors + j = cc same in omega (arith, lt, eq))

  -- with another one it is
  pub a-call : (k n : ℕ) → o ≡ Some k → length y.constructors ≤ k → arity_at w s ≡ Some n → IsCallOf y w t (Some (record { term = t; symbol = k; count = n }))
  a-call k n e le ar =
      let there = is.found k e in
      let below = there.0 in
      let l = linked.counted in
      let lt : k < length (symbols y) = omega (arith, below, l) in
      let sums = length-append y.constructors y.operators in
      let j = k - length y.constructors in
      let j-low : j < length y.operators = omega (arith, lt, sums, le) in
      let number : length y.constructors + j ≡ k = omega (arith, le) in
      let g : own ≡ signature y k = some-is own (signature y k) (sym h.symbol ∙ ap (signature_of w) (sym there.1) ∙ linked.linked k s lt) in
      let name : h.name ≡ name_of y (Symbol k) = ap (λ (x : Signature). x.name) g in
      let flag : h.quoted ≡ not (plain_name (name_of y (Symbol k))) = ap (λ (x : Signature). x.quoted) g in
      let count : count_of h.args ≡ arity_of y k = ap (λ (x : Signature). x.arity) g in
      let operator-name : (get_or y.operators j no_declaration).name.bytes ≡ h.name =
      sym (named y j j-low) ∙ ap (λ n. name_of y (Symbol n)) number ∙ sym name in
      let operator-count : count_of h.args ≡ length (get_or y.operators j no_declaration).arguments = count ∙ ap (arity_of y) (sym number) ∙ sized y j j-low in
      let all = of-all h.name h.quoted h.args h.anns (get_or y.operators j no_declaration) operator-name
      (flag ∙ ap (λ n. not (plain_name n)) (sym name)) operator-count in (
        ap (is_call y) tree ∙ list_any_at (is_of (Appl h.name h.quoted h.args h.anns)) y.operators j no_declaration j-low all,
        refl,
        record {
          args = h.args;
          listed = ap (option_and_then args_of) h.here;
          declared = lt;
          bare = ap bare_of tree ∙ ap (λ n. Appl n h.quoted h.args none) name ∙ ap (λ b. Appl (name_of y (Symbol k)) b h.args none) flag;
          counted = count;
          count = arity-is w t s h n ar;
        },
      )
    where
      some-is : {A : Type 0} (a b : A) → Some a ≡ Some b → a ≡ b
      some-is a b e = cc

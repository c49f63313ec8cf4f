-- What a symbol's trees find is the first rule that matches among those from a number on.
use Rattle.std.proofs.Common.{sym, ap, subst, arith, ◌∙◌, inl, inr, drop, length}
use Rattle.std.specs.Prelude.{ℕ, ◌≡◌, ◌≢◌, ◌<◌, ◌≤◌, ◌-◌, ◌+◌, ◌⊎◌, List, Option, Some, None, get_or}
use Rattle.std.proofs.lemmas.Bool.{cases_eq}
use Rattle.std.proofs.lemmas.List.{get_or-map, length-drop}
use Rattle.rx_term.specs.Tree.{Tree, from_list}
use Rattle.rx_term.specs.Store.{Store, signature_of}
use Rattle.rx_term.specs.declared.Term.{Term}
use Rattle.rx_term.specs.declared.Symbol as bank
use Rattle.rx_term.specs.Walks.{held_trees}
use Rattle.rec_syntax.specs.Syntax.{Spec}
use Rattle.rec_sorts.specs.Lookup.{symbols}
use Rattle.rec_sorts.specs.Binding.{Substitution, application, binds, first_match, next_match}
use Rattle.rec_sorts.specs.Linked.{AreLinked}
use Rattle.rec_sorts.specs.Numbering.{name_of, arity_of}
use Rattle.rec_sorts.specs.declared.letters.Meaning.TheVariants.{Symbol}
use Rattle.rec_match.specs.Forests as forests
use Rattle.rec_match.specs.Forests.{AreNumbers, CanRun, Runs}
use Rattle.rec_match.specs.Matching.{IsMatcher, IsSide, CanFind, FindsFor, symbol_at, numbers_of, first_rule}
use Rattle.rec_match.specs.declared.matcher.Matcher.{Matcher}
use Rattle.rec_match.proofs.AnswerLemmas.{found-binds, no_rule}
use Rattle.rec_match.proofs.FactLemmas.{facts, RuleFacts}
use Rattle.rec_match.proofs.FindLemmas.{last-args, own-count}
use Rattle.rec_match.proofs.LetterLemmas.{every-at}
use Rattle.rec_match.proofs.NextLemmas.{which, nothing}
use Rattle.rec_match.proofs.SkipLemmas.{other-head}
use Rattle.rec_match.proofs.ValueLemmas.{side-paired}

-- the symbols in a store have numbers
pub linked-numbers : (y : Spec) (w : Store) (ss : List bank.Symbol) → AreLinked y w ss → AreNumbers y w (numbers_of ss)
linked-numbers y w ss linked k lt =
    let long = linked.counted in
    let d : bank.Symbol = record { 0 = 0 } in
    ap (λ n. let s : bank.Symbol = record { 0 = n } in signature_of w s) (get_or-map (λ (s : bank.Symbol). s.0) ss k d 0 (omega (arith, lt, long)))
    ∙ linked.linked k d lt

-- the last of some references
pub args-long : (w : Store) (m : Matcher) (k n at : ℕ) (work args : List Term) → CanFind w m k n at work → args ≡ drop (length work - n) work → length args ≡ n
args-long w m k n at work args can ea =
    let l : length args ≡ length work - (length work - n) = ap length ea ∙ length-drop (length work - n) work in
    let le = can.long in
    omega (arith, l, le)

-- the trees of a symbol can be run
pub can-run : (w : Store) (m : Matcher) (k n at : ℕ) (work args : List Term) → CanFind w m k n at work → args ≡ drop (length work - n) work
    → CanRun w m.forest k (length args)
can-run w m k n at work args can ea = record {
  spec = can.spec;
  numbers = numbers_of can.symbols;
  linked = linked-numbers can.spec w can.symbols can.linked;
  forest = can.matcher.forest;
  declared = can.declared;
  counted = args-long w m k n at work args can ea ∙ can.counted;
}

-- a rule that matches an application of a symbol is one of the symbol's
own-rule : (y : Spec) (ss : List bank.Symbol) (m : Matcher) → IsMatcher y ss m → (k i : ℕ) → k < length (symbols y) → i < length y.rules
    → (args : List Tree) (s : Substitution) → binds y (get_or y.rules i no_rule).left (application (name_of y (Symbol k)) (from_list args)) ≡ Some s
    → symbol_at m i ≡ k
own-rule y ss m matcher k i ltk lt args s binding = by (cases_eq (symbol_at m i) k)
  where
    side : IsSide y ss m i (get_or y.rules i no_rule)
    side = matcher.sides i no_rule lt

    by : (symbol_at m i ≡ k) ⊎ (symbol_at m i ≢ k) → symbol_at m i ≡ k
    by (inl e) = e
    by (inr ne) = absurd (cc (sym (other-head y matcher.kept (get_or y.rules i no_rule).left (symbol_at m i) k side.declared ltk side.head ne
        (from_list args)) ∙ binding))

-- what the trees of a symbol find among the rules from a number on, by each specification whose
-- matcher it is
abbrev pub FoundFor : Store → Matcher → ℕ → ℕ → List Term → List Term → Option ℕ → Type 0
FoundFor w m k at args bind found = (y : Spec) (ss : List bank.Symbol) → AreLinked y w ss → IsMatcher y ss m → k < length (symbols y)
    → length args ≡ arity_of y k → forests.Finds y w (name_of y (Symbol k)) at args bind found

pub found-runs : (w : Store) (m : Matcher) (k at : ℕ) (args bind : List Term) (found : Option ℕ) → Runs w m.forest k at args bind found
    → FoundFor w m k at args bind found
found-runs w m k at args bind found runs y ss linked matcher lt counted =
    runs y (numbers_of ss) (linked-numbers y w ss linked) matcher.forest lt counted

-- all rules of a symbol are those from its first one on
pub found-all : (w : Store) (m : Matcher) (k : ℕ) (args bind : List Term) (found : Option ℕ) → Runs w m.forest k 0 args bind found
    → FoundFor w m k (first_rule m k) args bind found
found-all w m k args bind found runs y ss linked matcher lt counted =
    by found (runs y (numbers_of ss) (linked-numbers y w ss linked) matcher.forest lt counted)
  where
    same : next_match y 0 (application (name_of y (Symbol k)) (from_list (held_trees w args)))
        ≡ next_match y (first_rule m k) (application (name_of y (Symbol k)) (from_list (held_trees w args)))
    same = (matcher.heads k 0 (let n = matcher.symbols in omega (arith, n, lt))).0 (from_list (held_trees w args))

    by : (o : Option ℕ) → forests.Finds y w (name_of y (Symbol k)) 0 args bind o → forests.Finds y w (name_of y (Symbol k)) (first_rule m k) args bind o
    by None h = (sym same ∙ h.0, h.1)
    by (Some i) h = record { values = h.values; first = sym same ∙ h.first; bound = h.bound; held = h.held }

module _ (w : Store) (m : Matcher) (k n at : ℕ) (work args bind : List Term) (found : Option ℕ) (can : CanFind w m k n at work)
    (ea : args ≡ drop (length work - n) work) (runs : FoundFor w m k at args bind found) where
  -- after the last rule the trees find none
  trees-find-none : length m.sides.items ≤ at → FindsFor w m at work bind found
  trees-find-none le y ss below own j linked matcher ltj head split counted =
      by found (runs can.spec can.symbols can.linked can.matcher can.declared
      (args-long w m k n at work args can ea ∙ can.counted))
    where
      by : (o : Option ℕ) → forests.Finds can.spec w (name_of can.spec (Symbol k)) at args bind o
          → Rattle.rec_match.specs.Matching.Finds y w m (name_of y (Symbol j)) at own bind o
      by None h = nothing y at (application (name_of y (Symbol j)) (from_list (held_trees w own))) (let l = matcher.ruled in omega (arith, l, le))
      by (Some i) h = absurd (cc (sym (nothing can.spec at (application (name_of can.spec (Symbol k)) (from_list (held_trees w args))) (let l =
          can.matcher.ruled in omega (arith, l, le))) ∙ h.first))

  -- if there is a rule, it is one of the symbol
  trees-find-one : at < length m.sides.items → FindsFor w m at work bind found
  trees-find-one lt y ss below own j linked matcher ltj head split counted =
      by found (runs y ss linked matcher (subst (λ i. i < length (symbols y)) (sym same) ltj)
      (ap length is ∙ sym (counted lt) ∙ side.filled ∙ ap (arity_of y) (can.head lt)))
    where
      side : IsSide y ss m at (get_or y.rules at no_rule)
      side = matcher.sides at no_rule (let l = matcher.ruled in omega (arith, l, lt))

      is : args ≡ own
      is = ea ∙ last-args work below own n split (sym (own-count w m k n at work can lt) ∙ counted lt)

      same : k ≡ j
      same = sym (can.head lt) ∙ head lt

      u : Tree
      u = application (name_of y (Symbol j)) (from_list (held_trees w own))

      here : application (name_of y (Symbol k)) (from_list (held_trees w args)) ≡ u
      here = ap (λ i. application (name_of y (Symbol i)) (from_list (held_trees w args))) same
          ∙ ap (λ xs. application (name_of y (Symbol j)) (from_list (held_trees w xs))) is

      whole : at + (length y.rules - at) ≡ length y.rules
      whole = let l = matcher.ruled in omega (arith, lt, l)

      by : (o : Option ℕ) → forests.Finds y w (name_of y (Symbol k)) at args bind o
          → Rattle.rec_match.specs.Matching.Finds y w m (name_of y (Symbol j)) at own bind o
      by None h = ap (first_match y at (drop at y.rules)) (sym here) ∙ h.0
      by (Some i) h =
          let first : first_match y at (drop at y.rules) u ≡ Some (record { number = i; values = h.values }) =
          ap (first_match y at (drop at y.rules)) (sym here) ∙ h.first in
          let b = found-binds y u at (length y.rules - at) whole (record { number = i; values = h.values }) first in
          let paired = side-paired y matcher.kept ss w m i (get_or y.rules i no_rule) (matcher.sides i no_rule b.0)
          (every-at (RuleFacts y) y.rules (facts y matcher.kept).rules i no_rule b.0).left u h.values b.1 bind h.bound in
          record {
            values = h.values;
            first = first;
            same = paired.same;
            bound = h.bound;
            counted = paired.counted;
            head = own-rule y ss m matcher j i ltj b.0 (held_trees w own) h.values b.1 ∙ sym (head lt);
            held = h.held;
          }

  -- what the trees find
  pub trees-find : FindsFor w m at work bind found
  trees-find = elim (which (length m.sides.items) at) [ inl le ↦ trees-find-none le | inr lt ↦ trees-find-one lt ]

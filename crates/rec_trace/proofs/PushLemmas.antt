-- The values of a match, and letters as moves.
use Rattle.std.proofs.Common.{◌+◌, ◌<◌, ℕ, arith, refl, sym, ap, subst, ◌∙◌, drop, get_or, length, map, inl, inr}
use Rattle.std.specs.Prelude.{◌≡◌, Bool, true, false, List, [], ◌∷◌, ◌++◌, Option, Some, None, Contains, IsSome}
use Rattle.std.specs.Prelude.{unwrap_or}
use Rattle.std.proofs.lemmas.List.{get_or-map, length-map, map-append}
use Rattle.rx_term.specs.Tree.{Tree, Trees, Appl, Int, Items, Hole, none, more, list_of, tree_eq}
use Rattle.rx_term.specs.Parts.{parts}
use Rattle.rx_term.specs.Store.{Store, tree_at}
use Rattle.rx_term.specs.Walks.{AllHeld, held_tree, held_trees}
use Rattle.rx_term.specs.declared.Term.{Term as Reference}
use Rattle.rx_term.proofs.PartsLemmas.{args-part, cons_cases, item-part, parts-self, parts-trans, rest-part}
use Rattle.rx_term.proofs.StoreLemmas.{some-value}
use Rattle.rec_syntax.specs.Syntax.{Term, Terms, Apply, Rule, Spec}
use Rattle.rec_sorts.specs.Lookup.{count, is_variable}
use Rattle.rec_sorts.specs.TermRules.{arguments}
use Rattle.rec_sorts.specs.Laws.{Every}
use Rattle.rec_sorts.specs.Binding.{Bound, Substitution, bind_first, binds, instance, next_match, parts_at_variables}
use Rattle.rec_sorts.specs.Binding.{parts_at_variables_all, value_of, NumberedMatch}
use Rattle.rec_sorts.specs.Numbering.{AreLetters, Named, named, named_all, named_by}
use Rattle.rec_sorts.specs.declared.letters.Letter.{Letter}
use Rattle.rec_match.specs.Next.{IsAnswer}
use Rattle.rec_match.specs.Rows.{values_of}
use Rattle.rec_match.proofs.BoundLemmas.{BindsOnly, parts_only}
use Rattle.rec_match.proofs.FindLemmas.{first-matched}
use Rattle.rec_match.proofs.LetterLemmas.{every-at}
use Rattle.rec_engine.proofs.TermLemmas.{drop-at}
use Rattle.rec_engine.proofs.TriedRuleLemmas.{no_rule}
use Rattle.rec_trace.specs.States.{Give, Invoke, moves, moves_all}
use Rattle.rec_trace.specs.Inner.Sides.{HasValues, IsMatch, IsRead, IsRow, move_of}
use Rattle.rec_trace.proofs.SideLemmas.{rule-at, some-same}

-- a substitution of a match binds variables alone
pub binds-only : (y : Spec) (l : Term) (u : Tree) (s : Substitution) → binds y l u ≡ Some s → BindsOnly y s
binds-only y l u s e = by (tree_eq (instance (parts_at_variables y [] l u) l) u) e
  where
    by : (b : Bool) → ◌≡◌ {A = Option Substitution} (elim b [ true ↦ Some (parts_at_variables y [] l u) | false ↦ None ]) (Some s) → BindsOnly y s
    by true q = subst (BindsOnly y) (some-same (parts_at_variables y [] l u) s q) (parts_only y [] l u (λ name v f. absurd (cc f)))
    by false q = absurd (cc q)

-- all values are parts of a tree
abbrev AreParts : Tree → Substitution → Type 0
AreParts u s = Every (λ (b : Bound). Contains (parts u) b.value) s

abbrev AllParts : Tree → Trees → Type 0
AllParts u none = Unit {0}
AllParts u (more t ts) = Contains (parts u) t × AllParts u ts

arguments-parts : (u t : Tree) → Contains (parts u) t → AllParts u (arguments t)
arguments-parts u t c = by t c
  where
    items : (ts : Trees) → Contains (parts u) (list_of ts) → AllParts u ts
    items none h = tt
    items (more x xs) h = (
      parts-trans u (list_of (more x xs)) x h (item-part x xs none),
      items xs (parts-trans u (list_of (more x xs)) (list_of xs) h (rest-part x xs none)),
    )

    by : (t : Tree) → Contains (parts u) t → AllParts u (arguments t)
    by (Appl name quoted args anns) h = items args (parts-trans u (Appl name quoted args anns) (list_of args) h (args-part name quoted args anns))
    by (Int z anns) h = tt
    by (Items xs anns) h = tt
    by (Hole x anns) h = tt

every-joined : (u : Tree) (xs ys : Substitution) → AreParts u xs → AreParts u ys → AreParts u (xs ++ ys)
every-joined u [] ys h k = k
every-joined u (x ∷ xs) ys h k = (h.0, every-joined u xs ys h.1 k)

mutual
  bound-parts : (y : Spec) (u : Tree) (s : Substitution) (t : Term) (v : Tree) → AreParts u s → Contains (parts u) v → AreParts u (parts_at_variables y s t v)
  bound-parts y u s (Apply w ts) v h c = by (is_variable y w.bytes) (bound-parts-all y u s ts (arguments v) h (arguments-parts u v c))
    where
      first : (o : Option Tree) → AreParts u (elim o [ Some x ↦ s | None ↦ s ++ (record { name = w.bytes; value = v } ∷ []) ])
      first (Some x) = h
      first None = every-joined u s (record { name = w.bytes; value = v } ∷ []) h (c, tt)

      by : (b : Bool) → AreParts u (parts_at_variables_all y s ts (arguments v))
          → AreParts u (elim b [ true ↦ bind_first s w.bytes v | false ↦ parts_at_variables_all y s ts (arguments v) ])
      by true later = first (value_of s w.bytes)
      by false later = later

  bound-parts-all : (y : Spec) (u : Tree) (s : Substitution) (ts : Terms) (vs : Trees) → AreParts u s → AllParts u vs
      → AreParts u (parts_at_variables_all y s ts vs)
  bound-parts-all y u s Terms.none vs h c = h
  bound-parts-all y u s (Terms.more t ts) none h c = h
  bound-parts-all y u s (Terms.more t ts) (more v vs) h c = bound-parts-all y u (parts_at_variables y s t v) ts vs (bound-parts y u s t v h c.0) c.1

binds-parts : (y : Spec) (l : Term) (u : Tree) (s : Substitution) → binds y l u ≡ Some s → AreParts u s
binds-parts y l u s e = by (tree_eq (instance (parts_at_variables y [] l u) l) u) e
  where
    by : (b : Bool) → ◌≡◌ {A = Option Substitution} (elim b [ true ↦ Some (parts_at_variables y [] l u) | false ↦ None ]) (Some s) → AreParts u s
    by true q = subst (AreParts u) (some-same (parts_at_variables y [] l u) s q) (bound-parts y u [] l u tt (parts-self u))
    by false q = absurd (cc q)

-- a rule that matches is the first at or after its own number
pub matched-first : (y : Spec) (i : ℕ) (u : Tree) (r : Rule) (s : Substitution) → IsMatch y i u r s
    → next_match y i u ≡ Some (record { number = i; values = s })
matched-first y i u r s match =
    let at = rule-at y i r match.rule in
    first-matched y i u no_rule s at.within (subst (λ (z : Rule). binds y z.left u ≡ Some s) (sym (at.is no_rule)) match.binds)

-- the values of a match are parts of a tree
each-value : (u : Tree) (s : Substitution) → AreParts u s → (w : Store) (bind : List Reference) → held_trees w bind ≡ values_of s → (t : Reference)
    → Contains bind t → Contains (parts u) (held_tree w t)
each-value u [] h w [] e t c = absurd (let l = c.1 in let no : ⊥ = omega (arith, l) in no)
each-value u [] h w (b ∷ bs) e t c = absurd (cc e)
each-value u (x ∷ s) h w [] e t c = absurd (cc e)
each-value u (x ∷ s) h w (b ∷ bs) e t c = elim (cons_cases b bs t c) [
  | inl q ↦ subst (λ (z : Reference). Contains (parts u) (held_tree w z)) q
      (subst (Contains (parts u)) (sym (first-of-two (held_tree w b) x.value (held_trees w bs) (values_of s) e)) h.0)
  | inr d ↦ each-value u s h.1 w bs (rest-of-two (held_tree w b) x.value (held_trees w bs) (values_of s) e) t d
]
  where
    first-of-two : (a b : Tree) (xs ys : List Tree) → a ∷ xs ≡ b ∷ ys → a ≡ b
    first-of-two a b xs ys e = cc

    rest-of-two : (a b : Tree) (xs ys : List Tree) → a ∷ xs ≡ b ∷ ys → xs ≡ ys
    rest-of-two a b xs ys e = cc

-- a reference that is held has its tree
pub held-some : (w : Store) (t : Reference) → IsSome (tree_at w t) → tree_at w t ≡ Some (held_tree w t)
held-some w t h = let x = some-value (tree_at w t) h in x.1 ∙ ap (λ (o : Option Tree). let q : Option Tree = Some (unwrap_or o (list_of none)) in q) (sym x.1)

-- references to the values of a match are parts of its tree
pub values-bound : (y : Spec) (w : Store) (redex : Reference) (l : Term) (s : Substitution) (bind : List Reference) → binds y l (held_tree w redex) ≡ Some s
    → held_trees w bind ≡ values_of s → AllHeld w bind → HasValues w redex bind s
values-bound y w redex l s bind e values held = record {
  values = values;
  held = held;
  within = λ t c. record {
    tree = held_tree w t;
    held = held-some w t (held t c);
    within = each-value (held_tree w redex) s (binds-parts y l (held_tree w redex) s e) w bind values t c;
  };
}

pub has-values : (y : Spec) (w : Store) (redex : Reference) (i : ℕ) (r : Rule) (s : Substitution) (bind : List Reference) (found : Option ℕ)
    → IsMatch y i (held_tree w redex) r s → IsAnswer y w redex i bind found → HasValues w redex bind s
has-values y w redex i r s bind found match answer = by found answer
  where
    first : next_match y i (held_tree w redex) ≡ Some (record { number = i; values = s })
    first = matched-first y i (held_tree w redex) r s match

    by : (o : Option ℕ) → IsAnswer y w redex i bind o → HasValues w redex bind s
    by None h = absurd (cc (sym h.0 ∙ first))
    by (Some k) h =
        let same : (let a : NumberedMatch = record { number = k; values = h.values } in a) ≡ record { number = i; values = s } =
        some-same (let a : NumberedMatch = record { number = k; values = h.values } in a)
        (record { number = i; values = s }) (sym h.first ∙ first) in
        values-bound y w redex r.left s bind match.binds
        (h.bound ∙ ap (λ (m : NumberedMatch). values_of m.values) same) h.held

-- what has a value has no arguments
abbrev NoArguments : Substitution → List Named → Type 0
NoArguments s ms = Every (λ (m : Named). (v : Tree) → value_of s m.name ≡ Some v → m.arguments ≡ 0) ms

no_arguments : (y : Spec) (s : Substitution) → BindsOnly y s → (ms : List Named)
    → Every (λ (m : Named). is_variable y m.name ≡ true → m.arguments ≡ 0) ms → NoArguments s ms
no_arguments y s only [] bare = tt
no_arguments y s only (m ∷ ms) bare = ((λ v e. bare.0 (only m.name v e)), no_arguments y s only ms bare.1)

split_arguments : (s : Substitution) (ms ns : List Named) → NoArguments s (ms ++ ns) → NoArguments s ms × NoArguments s ns
split_arguments s [] ns h = (tt, h)
split_arguments s (m ∷ ms) ns h = let k = split_arguments s ms ns h.1 in ((h.0, k.0), k.1)

no_count : (ts : Terms) → count ts ≡ 0 → ts ≡ Terms.none
no_count Terms.none e = refl
no_count (Terms.more t ts) e = absurd (cc e)

mutual
  -- a term's names, each as a move, are its moves
  named-moves : (s : Substitution) (t : Term) → NoArguments s (named t) → map (move_of s) (named t) ≡ moves s t
  named-moves s (Apply w ts) h =
      let split = split_arguments s (named_all ts) (record { name = w.bytes; arguments = count ts } ∷ []) h in
      map-append (move_of s) (named_all ts) (record { name = w.bytes; arguments = count ts } ∷ [])
      ∙ by (value_of s w.bytes) refl split.1.0 (named-moves-all s ts split.0)
    where
      given : (v : Tree) (zs : Terms) → zs ≡ Terms.none → map (move_of s) (named_all zs) ++ (Give v ∷ []) ≡ Give v ∷ []
      given v zs e = ap (λ xs. map (move_of s) (named_all xs) ++ (Give v ∷ [])) e

      by : (o : Option Tree) → value_of s w.bytes ≡ o → ((v : Tree) → value_of s w.bytes ≡ Some v → count ts ≡ 0)
          → map (move_of s) (named_all ts) ≡ moves_all s ts
          → map (move_of s) (named_all ts) ++ ((elim o [ Some v ↦ Give v | None ↦ Invoke w.bytes (count ts) ]) ∷ [])
          ≡ (elim o [ Some v ↦ Give v ∷ [] | None ↦ moves_all s ts ++ Invoke w.bytes (count ts) ∷ [] ])
      by (Some v) e h later = given v ts (no_count ts (h v e))
      by None e h later = ap (λ ms. ms ++ (Invoke w.bytes (count ts) ∷ [])) later

  named-moves-all : (s : Substitution) (ts : Terms) → NoArguments s (named_all ts) → map (move_of s) (named_all ts) ≡ moves_all s ts
  named-moves-all s Terms.none h = refl
  named-moves-all s (Terms.more t ts) h =
      let split = split_arguments s (named t) (named_all ts) h in
      map-append (move_of s) (named t) (named_all ts) ∙ ap (λ ms. ms ++ map (move_of s) (named_all ts)) (named-moves s t split.0)
      ∙ ap (λ ms. moves s t ++ ms) (named-moves-all s ts split.1)

-- the names of a rule's term, each as a move, are its moves
pub row-moves : (y : Spec) (r : Rule) (s : Substitution) (u : Tree) (ls : List Letter) (t : Term) → binds y r.left u ≡ Some s → IsRow y r ls t
    → map (move_of s) (named t) ≡ moves s t
row-moves y r s u ls t e row = named-moves s t (no_arguments y s (binds-only y r.left u s e) (named t) row.bare)

-- there are as many letters of a term as names, and each is that of a name
pub row-long : (y : Spec) (r : Rule) (ls : List Letter) (t : Term) → IsRow y r ls t → length ls ≡ length (named t)
row-long y r ls t row = sym (length-map ls (named_by y)) ∙ ap length row.letters.1

pub row-letter : (y : Spec) (r : Rule) (ls : List Letter) (t : Term) (k : ℕ) (l : Letter) → IsRow y r ls t → k < length ls
    → (named_by y (get_or ls k l) ∷ drop (k + 1) (named t) ≡ drop k (named t)) × IsRead y r (get_or ls k l)
row-letter y r ls t k l row lt = (
  ap (λ n. n ∷ drop (k + 1) (named t)) (sym (get_or-map (named_by y) ls k l (named_by y l) lt) ∙ ap (λ ns. get_or ns k (named_by y l)) row.letters.1)
      ∙ sym (drop-at (named t) k (named_by y l) (subst (λ n. k < n) (row-long y r ls t row) lt)),
  every-at (IsRead y r) ls row.read k l lt,
)

-- the letters of a ground term are its moves
pub ground-moves : (y : Spec) (ls : List Letter) (t : Term) → AreLetters y ls t → map (move_of []) (map (named_by y) ls) ≡ moves [] t
ground-moves y ls t letters = ap (map (move_of [])) letters.1 ∙ named-moves [] t (unbound_all (named t))
  where
    unbound_all : (ms : List Named) → NoArguments [] ms
    unbound_all [] = tt
    unbound_all (m ∷ ms) = ((λ v e. absurd (cc e)), unbound_all ms)

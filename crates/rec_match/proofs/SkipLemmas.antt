-- A matcher that is made of the left-hand sides of a specification's rules.
use Rattle.std.proofs.Common.{refl, sym, ap, subst, arith, ◌∙◌, inl, inr, length, length-append, drop}
use Rattle.std.specs.Prelude.{ℕ, zero, suc, ◌≡◌, ◌≢◌, ◌<◌, ◌≤◌, ◌+◌, ◌-◌, ◌⊎◌, Bool, true, false, ◌&&◌}
use Rattle.std.specs.Prelude.{not, List, [], ◌∷◌, ◌++◌, Option, Some, None, get_or, nat_eq, bytes_eq}
use Rattle.std.specs.Bool.{beq}
use Rattle.std.proofs.lemmas.Bool.{cases_eq}
use Rattle.std.proofs.lemmas.List.{get_or-map}
use Rattle.rx_term.specs.Name.{plain_name}
use Rattle.rx_term.specs.Tree.{Tree, Trees, none, trees_eq, count_of}
use Rattle.rx_term.specs.declared.Symbol as bank
use Rattle.rec_syntax.specs.Syntax.{Spec, Rule, Apply, head}
use Rattle.rec_syntax.specs.Syntax as X
use Rattle.rec_sorts.specs.Lookup.{symbols, count, is_variable}
use Rattle.rec_sorts.specs.SpecRules.{fault}
use Rattle.rec_sorts.specs.Binding.{Substitution, application, binds, first_match}
use Rattle.rec_sorts.specs.Numbering.{name_of, arity_of}
use Rattle.rec_sorts.specs.declared.letters.Meaning.TheVariants.{Symbol}
use Rattle.rec_sorts.proofs.KeptLemmas.{bytes_eq-eq}
use Rattle.rec_match.specs.Inner.Walking.{walk_all}
use Rattle.rec_match.specs.Bound.{opened, bound, goes_on}
use Rattle.rec_match.specs.Inner.Chains.{IsNext, AreChainsFrom}
use Rattle.rec_match.specs.Inner.Built.{IsHead, AreHeads, IsLeftSide, AreSides}
use Rattle.rec_match.specs.Matching.{IsMatcher, IsSide, Skips, HeadAt, symbol_at, count_at, next_at, variables_at, numbers_of}
use Rattle.rec_match.specs.Forests.{IsForest}
use Rattle.rec_match.specs.declared.matcher.Matcher.{Matcher}
use Rattle.rec_match.specs.declared.matcher.LeftSide.{LeftSide}
use Rattle.rec_match.proofs.FactLemmas.{facts}
use Rattle.rec_match.proofs.WalkLemmas.{walk_binds}
use Rattle.rec_match.proofs.FindLemmas.{first-passed}
use Rattle.std.proofs.lemmas.List.{get_or_default}
use Rattle.rec_match.proofs.ItemLemmas.{get-front, get-last}

opened-other : (a b : List ℕ) (c : ℕ) (vs : Trees) → bytes_eq a b ≡ false → opened a c (application b vs) ≡ None
opened-other a b c vs e = ap at e
  where
    at : Bool → Option Trees
    at t = elim ((t && beq (not (plain_name a)) (not (plain_name b)) && trees_eq vs vs && trees_eq none none) && nat_eq (count_of vs) c)
        [ true ↦ Some vs | false ↦ None ]

-- a left-hand side matches no application of another symbol
pub other-head : (y : Spec) → fault y ≡ None → (l : X.Term) (j k : ℕ) → j < length (symbols y) → k < length (symbols y)
    → (head l).bytes ≡ name_of y (Symbol j) → j ≢ k → (vs : Trees) → binds y l (application (name_of y (Symbol k)) vs) ≡ None
other-head y kept (Apply w ts) j k ltj ltk e apart vs =
    sym (walk_binds y (Apply w ts) u) ∙ ap at (ap (is_variable y) e ∙ (facts y kept).symbol_is_none j ltj)
    ∙ ap (λ o. goes_on o (λ us. walk_all y ts us [])) (ap (λ n. opened n (count ts) u) e
    ∙ opened-other (name_of y (Symbol j)) (name_of y (Symbol k)) (count ts) vs differ)
  where
    u : Tree
    u = application (name_of y (Symbol k)) vs

    differ : bytes_eq (name_of y (Symbol j)) (name_of y (Symbol k)) ≡ false
    differ = by_test (bytes_eq (name_of y (Symbol j)) (name_of y (Symbol k))) refl
      where
        by_test : (b : Bool) → bytes_eq (name_of y (Symbol j)) (name_of y (Symbol k)) ≡ b → b ≡ false
        by_test false q = refl
        by_test true q = absurd (apart ((facts y kept).symbols_differ j k ltj ltk (bytes_eq-eq (name_of y (Symbol j)) (name_of y (Symbol k)) q)))

    at : Bool → Option Substitution
    at b = elim b [ true ↦ bound [] w.bytes u | false ↦ goes_on (opened w.bytes (count ts) u) (λ us. walk_all y ts us []) ]

pub no_rule : Rule
no_rule = record { left = Apply (record { at = 0; bytes = [] }) X.none; right = Apply (record { at = 0; bytes = [] }) X.none; conditions = [] }

-- between rules of a symbol none of the rules matches an application of it
skipped : (y : Spec) → fault y ≡ None → (fs : List ℕ) → AreHeads y fs → (k from at n : ℕ) → k < length (symbols y) → at ≡ from + n
    → at ≤ length y.rules → ((j : ℕ) → from ≤ j → j < at → get_or fs j 0 ≢ k) → Skips y (name_of y (Symbol k)) from at
skipped y kept fs heads k from at zero lt e le others vs = ap (λ j. first_match y j (drop j y.rules) (application (name_of y (Symbol k)) vs))
    (let q : from ≡ at = omega (arith, e) in q)
skipped y kept fs heads k from at (suc n) lt e le others vs =
    let within : from < length y.rules = omega (arith, e, le) in
    let h = heads.each from no_rule within in
    first-passed y from (application (name_of y (Symbol k)) vs) no_rule within
    (other-head y kept (get_or y.rules from no_rule).left (get_or fs from 0) k h.declared lt h.head (others from (omega arith) (omega (arith, e))) vs)
    ∙ skipped y kept fs heads k (suc from) at n lt (omega (arith, e)) le (λ j l q. others j (omega (arith, l)) q) vs

pub skips-next : (y : Spec) → fault y ≡ None → (fs : List ℕ) → AreHeads y fs → (k from at : ℕ) → k < length (symbols y) → IsNext fs k from at
    → Skips y (name_of y (Symbol k)) from at
skips-next y kept fs heads k from at lt next =
    let a = next.after in
    let w = next.within in
    let c = heads.counted in
    skipped y kept fs heads k from at (at - from) lt (omega (arith, a)) (omega (arith, w, c)) next.none

some-at : {A : Type 0} (xs : List A) (i : ℕ) → i < length xs → A
some-at [] i lt = absurd (let bad : ⊥ = omega (arith, lt) in bad)
some-at (x ∷ xs) i lt = x

-- a left-hand side has one symbol
pub one-head : (y : Spec) → fault y ≡ None → (r : Rule) (j k : ℕ) → IsHead y r j → IsHead y r k → j ≡ k
one-head y kept r j k a b = (facts y kept).symbols_differ j k a.declared b.declared (sym a.head ∙ b.head)

-- the first sides make the matcher
pub matcher-built : (y : Spec) → fault y ≡ None → (ss : List bank.Symbol) (fs nexts : List ℕ) (m : Matcher) (n : ℕ) → m.links ≡ ss → AreHeads y fs
    → AreChainsFrom fs (length (symbols y)) 0 m.heads.items nexts → AreSides y fs nexts m.sides.items n → n ≡ length y.rules
    → IsForest y (numbers_of ss) m.forest → IsMatcher y ss m
matcher-built y kept ss fs nexts m n links heads chains made en forest = record {
  kept = kept;
  linked = links;
  ruled = made.long ∙ en;
  sides = λ i r lt. side i r lt;
  symbols = chains.counted;
  heads = λ k d lt. (let l = chains.counted in let ltk : k < length (symbols y) = omega (arith, lt, l) in let next = chains.heads_next k ltk in
      subst (λ at. Skips y (name_of y (Symbol k)) 0 at × HeadAt m at k) (get_or_default m.heads.items k 0 d lt)
      (skips-next y kept fs heads k 0 (get_or m.heads.items k 0) ltk next, head-at k 0 (get_or m.heads.items k 0) next));
  forest = forest;
}
  where
    symbol-is : (i : ℕ) → i < n → symbol_at m i ≡ get_or fs i 0
    symbol-is i lt =
        let l = made.long in
        let s = some-at m.sides.items i (omega (arith, lt, l)) in
        get_or-map (λ (s : LeftSide). s.symbol) m.sides.items i s 0 (omega (arith, lt, l)) ∙ made.symbols_of i s lt

    head-at : (k from at : ℕ) → IsNext fs k from at → HeadAt m at k
    head-at k from at next lt = let l = made.long in let c = heads.counted in symbol-is at (omega (arith, lt, l)) ∙ next.is (omega (arith, lt, l, en, c))

    side : (i : ℕ) (r : Rule) → i < length y.rules → IsSide y ss m i (get_or y.rules i r)
    side i r lt =
        let long = made.long in
        let c = heads.counted in
        let below : i < n = omega (arith, lt, en) in
        let within : i < length m.sides.items = omega (arith, lt, en, long) in
        let d = some-at m.sides.items i within in
        let s = get_or m.sides.items i d in
        let is = made.each i r d below in
        let es : symbol_at m i ≡ s.symbol = get_or-map (λ (s : LeftSide). s.symbol) m.sides.items i d 0 within in
        let ec : count_at m i ≡ s.count = get_or-map (λ (s : LeftSide). s.count) m.sides.items i d 0 within in
        let ev : variables_at m i ≡ s.variables.items = get_or-map (λ (s : LeftSide). s.variables.items) m.sides.items i d [] within in
        let ex : next_at m i ≡ get_or nexts i 0 = get_or-map (λ (s : LeftSide). s.next) m.sides.items i d 0 within ∙ made.nexts_of i d below in
        let ef : symbol_at m i ≡ get_or fs i 0 = symbol-is i below in
        let declared : symbol_at m i < length (symbols y) = subst (λ k. k < length (symbols y)) (sym es) is.is_head.declared in
        let next : IsNext fs (symbol_at m i) (suc i) (next_at m i) =
        subst (λ k. IsNext fs k (suc i) (next_at m i)) (sym ef) (subst (IsNext fs (get_or fs i 0) (suc i)) (sym ex)
        (chains.nexts_next i (omega arith) (omega (arith, lt, c)))) in
        let after = next.after in
        record {
          declared = declared;
          head = is.is_head.head ∙ ap (λ k. name_of y (Symbol k)) (sym es);
          counted = is.counted ∙ sym ec;
          filled = ec ∙ is.filled ∙ ap (arity_of y) (sym es);
          letters = is.letters;
          meant = is.meant;
          named = is.named;
          filled_letters = is.filled_letters;
          variables = ev ∙ is.variables;
          later = omega (arith, after);
          skips = skips-next y kept fs heads (symbol_at m i) (suc i) (next_at m i) declared next;
          next = head-at (symbol_at m i) (suc i) (next_at m i) next;
        }

-- one side more
pub sides-next : (y : Spec) (fs nexts : List ℕ) (sides sides' : List LeftSide) (n : ℕ) (s : LeftSide) → AreSides y fs nexts sides n
    → sides' ≡ sides ++ s ∷ [] → ((r : Rule) → IsLeftSide y (get_or y.rules n r) s) → s.symbol ≡ get_or fs n 0 → s.next ≡ get_or nexts n 0
    → AreSides y fs nexts sides' (n + 1)
sides-next y fs nexts sides sides' n s made e own symbol next = record {
  long = (let l = ap length e ∙ length-append sides (s ∷ []) in let g = made.long in omega (arith, l, g));
  each = λ i r d lt. (let p : At i d = place i d lt in elim p [
    | inl q ↦ subst (λ j. IsLeftSide y (get_or y.rules j r) (get_or sides' j d)) (sym q.0) (subst (IsLeftSide y (get_or y.rules n r)) (sym (last d)) (own r))
    | inr q ↦ subst (IsLeftSide y (get_or y.rules i r)) (sym q.1) (made.each i r d q.0)
  ]);
  symbols_of = λ i d lt. (let p : At i d = place i d lt in elim p [
    | inl q ↦ ap (λ j. (get_or sides' j d).symbol) q.0 ∙ ap (λ (x : LeftSide). x.symbol) (last d) ∙ symbol ∙ ap (λ j. get_or fs j 0) (sym q.0)
    | inr q ↦ ap (λ (x : LeftSide). x.symbol) q.1 ∙ made.symbols_of i d q.0
  ]);
  nexts_of = λ i d lt. (let p : At i d = place i d lt in elim p [
    | inl q ↦ ap (λ j. (get_or sides' j d).next) q.0 ∙ ap (λ (x : LeftSide). x.next) (last d) ∙ next ∙ ap (λ j. get_or nexts j 0) (sym q.0)
    | inr q ↦ ap (λ (x : LeftSide). x.next) q.1 ∙ made.nexts_of i d q.0
  ]);
}
  where
    At : ℕ → LeftSide → Type 0
    At i d = ((i ≡ n) × Unit {0}) ⊎ ((i < n) × (get_or sides' i d ≡ get_or sides i d))

    last : (d : LeftSide) → get_or sides' n d ≡ s
    last d = ap (λ xs. get_or xs n d) e ∙ get-last sides s n d (sym made.long)

    place : (i : ℕ) (d : LeftSide) → i < n + 1 → At i d
    place i d lt = by (cases_eq i n)
      where
        by : (i ≡ n) ⊎ (i ≢ n) → At i d
        by (inl q) = inl (q, tt)
        by (inr ne) = let below : i < n = omega (arith, lt, ne) in inr (
          below,
          ap (λ xs. get_or xs i d) e ∙ get-front sides s i d (let l = made.long in omega (arith, l, below)),
        )

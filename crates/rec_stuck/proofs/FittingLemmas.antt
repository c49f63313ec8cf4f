-- The rules that match a call, found one after the other.
use Rattle.std.proofs.Common.{◌++◌, append_assoc, append-nil, drop-cons, inl, inr, refl, sym, ap, subst, ◌∙◌, arith, drop, get_or, length, cond}
use Rattle.std.proofs.lemmas.List.{get_or-map, length-map}
use Rattle.std.specs.Prelude.{ℕ, zero, suc, ◌≡◌, ◌+◌, ◌-◌, ◌<◌, ◌≤◌, ◌⊎◌, List, [], ◌∷◌, Option, Some, None, is_some, map, unwrap_or}
use Rattle.rx_term.specs.Tree.{Tree, Trees, count_of, from_list, items_of, list_of, none, to_list}
use Rattle.rx_term.specs.Store.{Store, args_of, part_at, tree_at}
use Rattle.rx_term.specs.Walks.{held_tree, held_trees}
use Rattle.rx_term.specs.declared.Term.{Term}
use Rattle.rx_term.proofs.TreeLemmas.{from_to_list, length-to_list}
use Rattle.rec_syntax.specs.Syntax.{Spec, Rule, Apply}
use Rattle.rec_syntax.specs.Syntax as X
use Rattle.rec_sorts.specs.Lookup.{symbols}
use Rattle.rec_sorts.specs.Binding.{NumberedMatch, Substitution, application, binds, first_match}
use Rattle.rec_sorts.specs.Numbering.{arity_of, name_of}
use Rattle.rec_sorts.specs.declared.letters.Meaning.TheVariants.{Symbol}
use Rattle.rec_match.specs.Matching.{CanFind, Finds, FindsFor, HasFound, HeadAt, Skips, count_at, next_at, symbol_at}
use Rattle.rec_match.specs.Next.{IsReady}
use Rattle.rec_match.specs.declared.matcher.LeftSide.{LeftSide}
use Rattle.rec_match.specs.declared.matcher.Matcher.{Matcher}
use Rattle.rec_match.proofs.FindLemmas.{first-matched, first-passed, side-is}
use Rattle.rec_match.proofs.NextLemmas.{nothing, which}
use Rattle.rec_trace.specs.declared.lines.Spot.{Spot}
use Rattle.rec_stuck.specs.Inner.Calls.{AreSpots, IsCalled, fitting_among}
use Rattle.rec_stuck.specs.Stuck.{bare_of, fitting, fitting_spots}
use Rattle.rec_trace.specs.Lines.{rule_spot}
use Rattle.rec_stuck.specs.declared.fitting.Call.{Call}

pub no_rule : Rule
no_rule = record { left = Apply (record { at = 0; bytes = [] }) X.none; right = Apply (record { at = 0; bytes = [] }) X.none; conditions = [] }

-- ---- the rules from a number on

none-fits : (y : Spec) (n : ℕ) (rs : List Rule) (u : Tree) → first_match y n rs u ≡ None → fitting_among y u rs ≡ []
none-fits y n [] u e = refl
none-fits y n (r ∷ rs) u e = by (binds y r.left u) refl (none-fits y (suc n) rs u)
  where
    at : Option Substitution → Option NumberedMatch
    at o = elim o [ Some s ↦ Some (record { number = n; values = s }) | None ↦ first_match y (suc n) rs u ]

    by : (o : Option Substitution) → binds y r.left u ≡ o → (first_match y (suc n) rs u ≡ None → fitting_among y u rs ≡ []) → fitting_among y u (r ∷ rs) ≡ []
    by (Some s) q later = absurd (cc (sym (ap at q) ∙ e))
    by None q later = rw q (later (sym (ap at q) ∙ e))

-- the rule that is found is the first of them
record First (y : Spec) (u : Tree) (n i : ℕ) : Type 0 where
  pub low : i < length y.rules
  pub after : n ≤ i
  pub fits : fitting_among y u (drop n y.rules) ≡ get_or y.rules i no_rule ∷ fitting_among y u (drop (suc i) y.rules)

first-fits : (y : Spec) (u : Tree) (n k : ℕ) → n + k ≡ length y.rules → (m : NumberedMatch) → first_match y n (drop n y.rules) u ≡ Some m → First y u n m.number
first-fits y u n zero e m f = absurd (cc (sym (nothing y n u (omega (arith, e))) ∙ f))
first-fits y u n (suc k) e m f = by (binds y (get_or y.rules n no_rule).left u) refl (λ q. first-fits y u (suc n) k (omega (arith, e)) m q)
  where
    lt : n < length y.rules
    lt = omega (arith, e)

    number_or : Option NumberedMatch → ℕ
    number_or (Some x) = x.number
    number_or None = 0

    here : (o : Option Substitution) → binds y (get_or y.rules n no_rule).left u ≡ o
        → fitting_among y u (drop n y.rules) ≡ cond (is_some o) (get_or y.rules n no_rule ∷ fitting_among y u (drop (suc n) y.rules))
        (fitting_among y u (drop (suc n) y.rules))
    here o q = ap (fitting_among y u) (drop-cons y.rules n no_rule lt)
        ∙ ap (λ z. cond (is_some z) (get_or y.rules n no_rule ∷ fitting_among y u (drop (suc n) y.rules)) (fitting_among y u (drop (suc n) y.rules))) q

    by : (o : Option Substitution) → binds y (get_or y.rules n no_rule).left u ≡ o
        → (first_match y (suc n) (drop (suc n) y.rules) u ≡ Some m → First y u (suc n) m.number) → First y u n m.number
    by (Some s) q later =
        let whole = sym (first-matched y n u no_rule s lt q) ∙ f in
        let en : n ≡ m.number = ap number_or whole in
        subst (First y u n) en (record { low = lt; after = omega arith; fits = here (Some s) q })
    by None q later =
        let r = later (sym (first-passed y n u no_rule lt q) ∙ f) in
        let a = r.after in
        record { low = r.low; after = omega (arith, a); fits = here None q ∙ r.fits }

first-of : (y : Spec) (u : Tree) (n : ℕ) (m : NumberedMatch) → first_match y n (drop n y.rules) u ≡ Some m → First y u n m.number
first-of y u n m f = by (which (length y.rules) n)
  where
    by : (length y.rules ≤ n) ⊎ (n < length y.rules) → First y u n m.number
    by (inl le) = absurd (cc (sym (nothing y n u le) ∙ f))
    by (inr lt) = first-fits y u n (length y.rules - n) (omega (arith, lt)) m f

-- from two numbers on the same rules match, where the same one is found first
same-fits : (y : Spec) (u : Tree) (n m : ℕ) → first_match y n (drop n y.rules) u ≡ first_match y m (drop m y.rules) u
    → fitting_among y u (drop n y.rules) ≡ fitting_among y u (drop m y.rules)
same-fits y u n m e = by (first_match y m (drop m y.rules) u) refl
  where
    by : (o : Option NumberedMatch) → first_match y m (drop m y.rules) u ≡ o → fitting_among y u (drop n y.rules) ≡ fitting_among y u (drop m y.rules)
    by None q = none-fits y n (drop n y.rules) u (e ∙ q) ∙ sym (none-fits y m (drop m y.rules) u q)
    by (Some x) q = (first-of y u n x (e ∙ q)).fits ∙ sym (first-of y u m x q).fits

-- ---- a call's rules, by a matcher

module _ (y : Spec) (w : Store) (m : Matcher) (ready : IsReady y w m) (k : ℕ) (ltk : k < length (symbols y)) (work : List Term) (args : Trees)
    (are : held_trees w work ≡ to_list args) (counted : count_of args ≡ arity_of y k) where
  abbrev pub name : List ℕ
  name = name_of y (Symbol k)

  long : length work ≡ arity_of y k
  long = sym (length-map work (held_tree w)) ∙ ap length are ∙ length-to_list args ∙ counted

  pub can-find : (at : ℕ) → HeadAt m at k → CanFind w m k (length work) at work
  can-find at head = record {
    spec = y;
    symbols = m.links;
    linked = ready.linked;
    matcher = ready.matcher;
    declared = ltk;
    head = head;
    counted = long;
    long = omega arith;
  }

  work-counted : (at : ℕ) → HeadAt m at k → at < length m.sides.items → count_at m at ≡ length work
  work-counted at head lt =
      let ruled = ready.matcher.ruled in
      let side = ready.matcher.sides at no_rule (omega (arith, lt, ruled)) in
      side.filled ∙ ap (arity_of y) (head lt) ∙ sym long

  tree-is : application name (from_list (held_trees w work)) ≡ application name args
  tree-is = ap (λ ts. application name (from_list ts)) are ∙ ap (application name) (from_to_list args)

  finds : (at : ℕ) (bind : List Term) (found : Option ℕ) → HeadAt m at k → FindsFor w m at work bind found → Finds y w m name at work bind found
  finds at bind found head h = h y m.links [] work k ready.linked ready.matcher ltk head refl (work-counted at head)

  -- none is left
  pub no-more : (at : ℕ) (bind : List Term) → HeadAt m at k → FindsFor w m at work bind None → fitting_among y (application name args) (drop at y.rules) ≡ []
  no-more at bind head h = none-fits y at (drop at y.rules) (application name args)
      (ap (first_match y at (drop at y.rules)) (sym tree-is) ∙ finds at bind None head h)

  found-first : (at i : ℕ) (bind : List Term) → HeadAt m at k → FindsFor w m at work bind (Some i) → First y (application name args) at i
  found-first at i bind head h =
      let f : HasFound y w m name at work bind i = finds at bind (Some i) head h in
      first-of y (application name args) at (record { number = i; values = f.values }) (ap (first_match y at (drop at y.rules)) (sym tree-is) ∙ f.first)

  pub found-low : (at i : ℕ) (bind : List Term) → HeadAt m at k → FindsFor w m at work bind (Some i) → i < length y.rules
  found-low at i bind head h = (found-first at i bind head h).low

  -- the next one
  module _ (at i : ℕ) (bind : List Term) (head : HeadAt m at k) (h : FindsFor w m at work bind (Some i)) (s : LeftSide)
      (is : s ≡ get_or m.sides.items i s) where
    within : i < length m.sides.items
    within = let low = found-low at i bind head h in let ruled = ready.matcher.ruled in omega (arith, low, ruled)

    next-is : s.next ≡ next_at m i
    next-is = side-is (λ (x : LeftSide). x.next) m i s 0 within is

    own : symbol_at m i ≡ k
    own =
        let f : HasFound y w m name at work bind i = finds at bind (Some i) head h in
        let first = found-first at i bind head h in
        let low = first.low in
        let after = first.after in
        let ruled = ready.matcher.ruled in
        f.head ∙ head (omega (arith, low, after, ruled))

    pub next-head : HeadAt m s.next k
    next-head = subst (λ a. HeadAt m a k) (sym next-is) (λ lt. (ready.matcher.sides i no_rule (found-low at i bind head h)).next lt ∙ own)

    pub next-later : at < s.next
    next-later =
        let side = ready.matcher.sides i no_rule (found-low at i bind head h) in
        let l = side.later in
        let a = (found-first at i bind head h).after in
        omega (arith, l, a, next-is)

    pub next-fits : fitting_among y (application name args) (drop at y.rules) ≡ get_or y.rules i no_rule ∷ fitting_among y (application name args)
        (drop s.next y.rules)
    next-fits =
        let side = ready.matcher.sides i no_rule (found-low at i bind head h) in
        let skips : Skips y name (suc i) (next_at m i) = subst (λ j. Skips y (name_of y (Symbol j)) (suc i) (next_at m i)) own side.skips in
        (found-first at i bind head h).fits
        ∙ ap (λ rs. get_or y.rules i no_rule ∷ rs) (same-fits y (application name args) (suc i) (next_at m i) (skips args)
        ∙ ap (λ a. fitting_among y (application name args) (drop a y.rules)) (sym next-is))

  -- the first of the symbol's rules
  module _ (at : ℕ) (is : at ≡ get_or m.heads.items k at) where
    begin : Skips y name 0 at × HeadAt m at k
    begin =
        let heads = ready.matcher.symbols in
        subst (λ a. Skips y name 0 a × HeadAt m a k) (sym is) (ready.matcher.heads k at (omega (arith, ltk, heads)))

    pub first-head : HeadAt m at k
    first-head = begin.1

    pub first-all : fitting y (application name args) ≡ fitting_among y (application name args) (drop at y.rules)
    first-all = same-fits y (application name args) 0 at (begin.0 args)

-- ---- by what is called

pub arguments-are : (y : Spec) (w : Store) (call : Call) (called : IsCalled y w call) (list : Term) (old new : List Term)
    → tree_at w list ≡ part_at args_of w call.term → old ≡ [] → held_trees w new ≡ held_trees w old ++ to_list (items_of (held_tree w list))
    → held_trees w new ≡ to_list called.args
arguments-are y w call called list old new e empty h =
    let there : tree_at w list ≡ Some (list_of called.args) = e ∙ called.listed in
    h ∙ ap (λ rs. held_trees w rs ++ to_list (items_of (held_tree w list))) empty ∙ ap (λ o. to_list (items_of (unwrap_or o (list_of none)))) there

module _ (y : Spec) (w : Store) (m : Matcher) (ready : IsReady y w m) (call : Call) (called : IsCalled y w call) (work : List Term)
    (are : held_trees w work ≡ to_list called.args) where
  pub call-size : length work ≡ call.count
  call-size = sym (length-map work (held_tree w)) ∙ ap length are ∙ length-to_list called.args ∙ called.count

  pub call-can : (at : ℕ) → HeadAt m at call.symbol → CanFind w m call.symbol call.count at work
  call-can at head = subst (λ n. CanFind w m call.symbol n at work) call-size
      (can-find y w m ready call.symbol called.declared work called.args are called.counted at head)

  pub call-low : (at i : ℕ) (bind : List Term) → HeadAt m at call.symbol → FindsFor w m at work bind (Some i) → i < length y.rules
  call-low = found-low y w m ready call.symbol called.declared work called.args are called.counted

  pub call-after : (at i : ℕ) (bind : List Term) → HeadAt m at call.symbol → FindsFor w m at work bind (Some i) → at ≤ i
  call-after at i bind head h = (found-first y w m ready call.symbol called.declared work called.args are called.counted at i bind head h).after

  pub call-head : (at i : ℕ) (bind : List Term) → HeadAt m at call.symbol → FindsFor w m at work bind (Some i) → (s : LeftSide)
      → s ≡ get_or m.sides.items i s → HeadAt m s.next call.symbol
  call-head at i bind head h s is = next-head y w m ready call.symbol called.declared work called.args are called.counted at i bind head h s is

  pub call-later : (at i : ℕ) (bind : List Term) → HeadAt m at call.symbol → FindsFor w m at work bind (Some i) → (s : LeftSide)
      → s ≡ get_or m.sides.items i s → at < s.next
  call-later at i bind head h s is = next-later y w m ready call.symbol called.declared work called.args are called.counted at i bind head h s is

  -- one place more
  pub call-more : (source : List ℕ) (at i : ℕ) (bind : List Term) (head : HeadAt m at call.symbol) (h : FindsFor w m at work bind (Some i))
      (s : LeftSide) (is : s ≡ get_or m.sides.items i s) (spots found more : List Spot) (d : Spot) → AreSpots source y spots
      → more ≡ found ++ get_or spots i d ∷ []
      → found ++ map (rule_spot source) (fitting_among y (bare_of (held_tree w call.term)) (drop at y.rules)) ≡ fitting_spots source y
      (bare_of (held_tree w call.term))
      → more ++ map (rule_spot source) (fitting_among y (bare_of (held_tree w call.term)) (drop s.next y.rules)) ≡ fitting_spots source y
      (bare_of (held_tree w call.term))
  call-more source at i bind head h s is spots found more d are-spots pushed so-far =
      let u = bare_of (held_tree w call.term) in
      let low = call-low at i bind head h in
      let at-rule : get_or spots i d ≡ rule_spot source (get_or y.rules i no_rule) =
      ap (λ ps. get_or ps i d) are-spots ∙ get_or-map (rule_spot source) y.rules i no_rule d low in
      let next : fitting_among y u (drop at y.rules) ≡ get_or y.rules i no_rule ∷ fitting_among y u (drop s.next y.rules) =
      subst (λ t. fitting_among y t (drop at y.rules) ≡ get_or y.rules i no_rule ∷ fitting_among y t (drop s.next y.rules)) (sym called.bare)
      (next-fits y w m ready call.symbol called.declared work called.args are called.counted at i bind head h s is) in
      ap (λ ps. ps ++ map (rule_spot source) (fitting_among y u (drop s.next y.rules))) pushed
      ∙ append_assoc found (get_or spots i d ∷ []) (map (rule_spot source) (fitting_among y u (drop s.next y.rules)))
      ∙ ap (λ p. found ++ p ∷ map (rule_spot source) (fitting_among y u (drop s.next y.rules))) at-rule
      ∙ ap (λ rs. found ++ map (rule_spot source) rs) (sym next) ∙ so-far

  -- all places
  pub call-all : (source : List ℕ) (at : ℕ) (bind : List Term) → HeadAt m at call.symbol → FindsFor w m at work bind None → (found : List Spot)
      → found ++ map (rule_spot source) (fitting_among y (bare_of (held_tree w call.term)) (drop at y.rules)) ≡ fitting_spots source y
      (bare_of (held_tree w call.term))
      → found ≡ fitting_spots source y (bare_of (held_tree w call.term))
  call-all source at bind head h found so-far =
      let u = bare_of (held_tree w call.term) in
      let rest : fitting_among y u (drop at y.rules) ≡ [] = ap (λ t. fitting_among y t (drop at y.rules)) called.bare
      ∙ no-more y w m ready call.symbol called.declared work called.args are called.counted at bind head h in
      sym (append-nil found) ∙ ap (λ rs. found ++ map (rule_spot source) rs) (sym rest) ∙ so-far

  -- the first rule
  module _ (at : ℕ) (is : at ≡ get_or m.heads.items call.symbol at) where
    pub begin-head : HeadAt m at call.symbol
    begin-head = first-head y w m ready call.symbol called.declared work called.args are called.counted at is

    pub begin-all : (source : List ℕ) (found : List Spot) → found ≡ []
        → found ++ map (rule_spot source) (fitting_among y (bare_of (held_tree w call.term)) (drop at y.rules)) ≡ fitting_spots source y
        (bare_of (held_tree w call.term))
    begin-all source found empty =
        let u = bare_of (held_tree w call.term) in
        let e : fitting y u ≡ fitting_among y u (drop at y.rules) = subst (λ t. fitting y t ≡ fitting_among y t (drop at y.rules)) (sym called.bare)
        (first-all y w m ready call.symbol called.declared work called.args are called.counted at is) in
        ap (λ ps. ps ++ map (rule_spot source) (fitting_among y u (drop at y.rules))) empty ∙ ap (map (rule_spot source)) (sym e)

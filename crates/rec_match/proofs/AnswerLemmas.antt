-- What a matcher answers for a term of a store.
use Rattle.std.proofs.Common.{refl, sym, ap, subst, arith, ◌∙◌, inl, inr, drop, length, is_some}
use Rattle.std.specs.Option.{option_and_then}
use Rattle.std.specs.Prelude.{ℕ, ℤ, zero, suc, ◌≡◌, ◌<◌, ◌≤◌, ◌+◌, ◌-◌, Bool, true, false, not, List, [], Option, Some, None, IsSome, get_or}
use Rattle.std.proofs.lemmas.List.{length-map}
use Rattle.rx_term.specs.Name.{Signature, plain_name}
use Rattle.rx_term.specs.Tree.{Tree, Trees, Appl, Items, none, more, count_of, to_list, from_list}
use Rattle.rx_term.specs.Store.{Store, tree_at, signature_of, arity_at, part_at, anns_of}
use Rattle.rx_term.specs.Steps.{IsSound}
use Rattle.rx_term.proofs.TreeLemmas.{from_to_list, length-to_list}
use Rattle.rx_term.specs.Kinds.{HasInt, HasNil, HasCons, HasHole, HasAppl, HasAnns, HasKind}
use Rattle.rx_term.specs.declared.Kind.{Kind}
use Rattle.rx_term.specs.declared.Kind.TheVariants as kind
use Rattle.rx_term.specs.declared.Term.{Term}
use Rattle.rx_term.specs.declared.Symbol as bank
use Rattle.rx_term.specs.Walks.{AllHeld, held_tree, held_trees}
use Rattle.rec_syntax.specs.Syntax.{Spec, Rule, Apply}
use Rattle.rec_syntax.specs.Syntax as X
use Rattle.rec_sorts.specs.Lookup.{symbols, count, is_variable}
use Rattle.rec_sorts.specs.SpecRules.{fault}
use Rattle.rec_sorts.specs.Binding.{Substitution, NumberedMatch, application, binds, first_match, next_match}
use Rattle.rec_sorts.specs.Linked.{signature, NumberOf}
use Rattle.rec_sorts.specs.Numbering.{name_of, arity_of}
use Rattle.rec_sorts.specs.declared.letters.Meaning.TheVariants.{Symbol}
use Rattle.rec_match.specs.Inner.Held.{or_empty}
use Rattle.rec_match.specs.Matching.{HasFound, Finds, FindsFor, CanFind, symbol_at, count_at}
use Rattle.rec_match.specs.Next.{IsReady, AreReady, AreLater, Reaches, Matched}
use Rattle.rec_match.specs.Inner.Walking.{walk_all}
use Rattle.rec_match.specs.Bound.{opened, goes_on, bound}
use Rattle.rec_match.specs.declared.matcher.Matcher.{Matcher}
use Rattle.rec_match.proofs.FactLemmas.{facts}
use Rattle.rec_match.proofs.FindLemmas.{first-matched, first-passed}
use Rattle.rec_match.proofs.WalkLemmas.{walk_binds}
use Rattle.rec_match.proofs.BoundLemmas.{opened_is}
use Rattle.rec_match.proofs.NextLemmas.{which, nothing, later-side}

abbrev pub no_rule : Rule
no_rule = record { left = Apply (record { at = 0; bytes = [] }) X.none; right = Apply (record { at = 0; bytes = [] }) X.none; conditions = [] }

-- there are no annotations
pub bare-of : (w : Store) (u : Term) (o : Option Term) → HasAnns w u o → is_some o ≡ false → part_at anns_of w u ≡ None
bare-of w u None h e = h
bare-of w u (Some a) h e = absurd (cc e)

-- a tree that is no application of a name to so many is not opened
cannot-open : (name : List ℕ) (k : ℕ) (u : Tree) → ((us : Trees) → application name us ≡ u → count_of us ≡ k → ⊥) → opened name k u ≡ None
cannot-open name k u other = by (opened name k u) refl
  where
    by : (o : Option Trees) → opened name k u ≡ o → o ≡ None
    by None e = refl
    by (Some us) e = let h = opened_is name k u us e in absurd (other us h.0 h.1)

-- a left-hand side matches no tree that is not opened
unopened : (y : Spec) → fault y ≡ None → (l : X.Term) (j : ℕ) → j < length (symbols y) → (X.head l).bytes ≡ name_of y (Symbol j) → (u : Tree)
    → opened (name_of y (Symbol j)) (count (X.arguments l)) u ≡ None → binds y l u ≡ None
unopened y kept (Apply x ts) j lt e u closed =
    sym (walk_binds y (Apply x ts) u) ∙ ap at (ap (is_variable y) e ∙ (facts y kept).symbol_is_none j lt)
    ∙ ap (λ o. goes_on o (λ us. walk_all y ts us [])) (ap (λ n. opened n (count ts) u) e ∙ closed)
  where
    at : Bool → Option Substitution
    at b = elim b [ true ↦ bound [] x.bytes u | false ↦ goes_on (opened x.bytes (count ts) u) (λ us. walk_all y ts us []) ]

-- a tree that is no application of any symbol
abbrev pub OpensNothing : Spec → Tree → Type 0
OpensNothing y u = (j : ℕ) → j < length (symbols y) → (us : Trees) → application (name_of y (Symbol j)) us ≡ u → count_of us ≡ arity_of y j → ⊥

-- no rule matches it
pub none-matches : (y : Spec) (w : Store) (m : Matcher) → IsReady y w m → (u : Tree) → OpensNothing y u → (n k : ℕ) → n + k ≡ length y.rules
    → first_match y n (drop n y.rules) u ≡ None
none-matches y w m ready u other n zero e = nothing y n u (omega (arith, e))
none-matches y w m ready u other n (suc k) e =
    let lt : n < length y.rules = omega (arith, e) in
    let side = ready.matcher.sides n no_rule lt in
    first-passed y n u no_rule lt
    (unopened y ready.matcher.kept (get_or y.rules n no_rule).left (symbol_at m n) side.declared side.head u
    (cannot-open (name_of y (Symbol (symbol_at m n))) (count (X.arguments (get_or y.rules n no_rule).left)) u (λ us q c.
    other (symbol_at m n) side.declared us q (c ∙ side.counted ∙ side.filled))))
    ∙ none-matches y w m ready u other (suc n) k (omega (arith, e))

pub none-next : (y : Spec) (w : Store) (m : Matcher) → IsReady y w m → (u : Tree) → OpensNothing y u → (from : ℕ) → next_match y from u ≡ None
none-next y w m ready u other from = elim (which (length y.rules) from) [
  | inl le ↦ nothing y from u le
  | inr lt ↦ none-matches y w m ready u other from (length y.rules - from) (omega (arith, lt))
]

-- trees without a symbol
no-int : (y : Spec) (w : Store) (t : Term) (z : ℤ) → HasInt w t z → OpensNothing y (held_tree w t)
no-int y w t z h j lt us e c = absurd (cc (e ∙ ap or_empty h.here))

no-nil : (y : Spec) (w : Store) (t : Term) → HasNil w t → OpensNothing y (held_tree w t)
no-nil y w t h j lt us e c = absurd (cc (e ∙ ap or_empty h.here))

no-cons : (y : Spec) (w : Store) (t : Term) → HasCons w t → OpensNothing y (held_tree w t)
no-cons y w t h j lt us e c = absurd (cc (e ∙ ap or_empty h.here))

no-hole : (y : Spec) (w : Store) (t : Term) → HasHole w t → OpensNothing y (held_tree w t)
no-hole y w t h j lt us e c = absurd (cc (e ∙ ap or_empty h.here))

pub no-symbol : (y : Spec) (w : Store) (t : Term) (k : Kind) → HasKind w t k → ((s : bank.Symbol) → k ≡ kind.Appl s → ⊥) → OpensNothing y (held_tree w t)
no-symbol y w t (kind.Int z) h not_appl = no-int y w t z h
no-symbol y w t kind.Nil h not_appl = no-nil y w t h
no-symbol y w t kind.Cons h not_appl = no-cons y w t h
no-symbol y w t (kind.Appl s) h not_appl = absurd (not_appl s refl)
no-symbol y w t kind.Hole h not_appl = no-hole y w t h

anns-none : (name : List ℕ) (quoted : Bool) (args anns : Trees) (b : List ℕ) (us : Trees) → application b us ≡ Appl name quoted args anns
    → (name ≡ b) × (quoted ≡ not (plain_name b)) × (args ≡ us) × (anns ≡ none)
anns-none name quoted args anns b us e = (cc e, cc e, cc e, cc e)

-- an annotated tree
pub no-annotated : (y : Spec) (w : Store) (t a : Term) (s : bank.Symbol) → HasAppl w t s → HasAnns w t (Some a) → OpensNothing y (held_tree w t)
no-annotated y w t a s h anns j lt us e c =
    let q = anns-none h.name h.quoted h.args h.anns (name_of y (Symbol j)) us (e ∙ ap or_empty h.here) in
    let here : tree_at w t ≡ Some (Appl h.name h.quoted h.args none) = h.here ∙ ap (λ x. Some (Appl h.name h.quoted h.args x)) q.3 in
    absurd (by (part_at anns_of w t) (rw here refl) anns.0)
  where
    by : (o : Option Tree) → o ≡ None → IsSome o → ⊥
    by None e h = absurd (cc h)
    by (Some t) e h = cc e

-- an application of another symbol
pub no-number : (y : Spec) (w : Store) → IsSound w → (m : Matcher) → IsReady y w m → (t : Term) (s : bank.Symbol) → HasAppl w t s
    → NumberOf m.links s None → OpensNothing y (held_tree w t)
no-number y w sound m ready t s h number j lt us e c =
    let q = anns-none h.name h.quoted h.args h.anns (name_of y (Symbol j)) us (e ∙ ap or_empty h.here) in
    let own : signature_of w s ≡ Some (signature y j) = h.symbol
    ∙ ap (λ g. let o : Option Signature = Some g in o) (is h.name h.quoted h.args us q.0 q.1 q.2 c) in
    let same : get_or m.links j s ≡ s = sound.symbols_one_to_one (get_or m.links j s) s (signature y j) (ready.linked.linked j s lt) own in
    let long = ready.linked.counted in
    absurd (cc (number.each j (omega (arith, lt, long)) same))
  where
    is : (name : List ℕ) (quoted : Bool) (args us : Trees) → name ≡ name_of y (Symbol j) → quoted ≡ not (plain_name (name_of y (Symbol j)))
        → args ≡ us → count_of us ≡ arity_of y j
        → (let g : Signature = record { name = name; quoted = quoted; arity = count_of args } in g) ≡ signature y j
    is name quoted args us en eq ea ec =
        ap (λ x. let g : Signature = record { name = x; quoted = quoted; arity = count_of args } in g) en
        ∙ ap (λ x. let g : Signature = record { name = name_of y (Symbol j); quoted = x; arity = count_of args } in g) eq
        ∙ ap (λ x. let g : Signature = record { name = name_of y (Symbol j); quoted = not (plain_name (name_of y (Symbol j))); arity = x } in g)
        (ap count_of ea ∙ ec)

plain-anns : (w : Store) (t : Term) (name : List ℕ) (quoted : Bool) (args anns : Trees) → tree_at w t ≡ Some (Appl name quoted args anns)
    → part_at anns_of w t ≡ None → anns ≡ none
plain-anns w t name quoted args none e h = refl
plain-anns w t name quoted args (more a as') e h = absurd (let x : Some (Items (more a as') none) ≡ None = sym (rw e refl) ∙ h in cc x)

-- an application of a symbol of the specification
pub record IsCall (y : Spec) (w : Store) (t : Term) (k : ℕ) (args : Trees) : Type 0 where
  pub declared : k < length (symbols y)
  pub is : held_tree w t ≡ application (name_of y (Symbol k)) args
  pub counted : count_of args ≡ arity_of y k

pub is-call : (y : Spec) (w : Store) (m : Matcher) → IsReady y w m → (t : Term) (s : bank.Symbol) (k : ℕ) → (h : HasAppl w t s)
    → NumberOf m.links s (Some k) → part_at anns_of w t ≡ None → IsCall y w t k h.args
is-call y w m ready t s k h number bare =
    let f = number.found k refl in
    let below = f.0 in
    let long = ready.linked.counted in
    let lt : k < length (symbols y) = omega (arith, below, long) in
    let own : signature_of w s ≡ Some (signature y k) = ap (signature_of w) (sym f.1) ∙ ready.linked.linked k s lt in
    let same = some-is (let g : Signature = record { name = h.name; quoted = h.quoted; arity = count_of h.args } in g) (signature y k) (sym h.symbol ∙ own) in
    let plain = plain-anns w t h.name h.quoted h.args h.anns h.here bare in
    record {
      declared = lt;
      is = ap or_empty h.here ∙ ap (λ x. Appl x h.quoted h.args h.anns) (ap (λ (g : Signature). g.name) same)
          ∙ ap (λ x. Appl (name_of y (Symbol k)) x h.args h.anns) (ap (λ (g : Signature). g.quoted) same)
          ∙ ap (λ x. Appl (name_of y (Symbol k)) (not (plain_name (name_of y (Symbol k)))) h.args x) plain;
      counted = ap (λ (g : Signature). g.arity) same;
    }
  where
    some-is : {A : Type 0} (a b : A) → Some a ≡ Some b → a ≡ b
    some-is a b e = cc

-- the rule that is found, and what it binds
pub found-binds : (y : Spec) (u : Tree) (n k : ℕ) → n + k ≡ length y.rules → (m : NumberedMatch) → first_match y n (drop n y.rules) u ≡ Some m
    → (m.number < length y.rules) × (binds y (get_or y.rules m.number no_rule).left u ≡ Some m.values)
found-binds y u n zero e m f = absurd (cc (sym (nothing y n u (omega (arith, e))) ∙ f))
found-binds y u n (suc k) e m f = by (binds y (get_or y.rules n no_rule).left u) refl (λ q. found-binds y u (suc n) k (omega (arith, e)) m q)
  where
    lt : n < length y.rules
    lt = omega (arith, e)

    number_or : Option NumberedMatch → ℕ
    number_or (Some x) = x.number
    number_or None = 0

    values_or : Option NumberedMatch → Substitution
    values_or (Some x) = x.values
    values_or None = []

    by : (o : Option Substitution) → binds y (get_or y.rules n no_rule).left u ≡ o
        → (first_match y (suc n) (drop (suc n) y.rules) u ≡ Some m → (m.number < length y.rules)
        × (binds y (get_or y.rules m.number no_rule).left u ≡ Some m.values))
        → (m.number < length y.rules) × (binds y (get_or y.rules m.number no_rule).left u ≡ Some m.values)
    by (Some s) q later =
        let whole = sym (first-matched y n u no_rule s lt q) ∙ f in
        let en : n ≡ m.number = ap number_or whole in
        let es : s ≡ m.values = ap values_or whole in
        subst (λ j. (j < length y.rules) × (binds y (get_or y.rules j no_rule).left u ≡ Some m.values)) en (
          lt,
          q ∙ ap (λ x. let o : Option Substitution = Some x in o) es,
        )
    by None q later = later (sym (first-passed y n u no_rule lt q) ∙ f)

pub has-annotations : (y : Spec) (w : Store) (t : Term) (s : bank.Symbol) (o : Option Term) → HasAppl w t s → HasAnns w t o → is_some o ≡ true
    → OpensNothing y (held_tree w t)
has-annotations y w t s None h anns e = absurd (cc e)
has-annotations y w t s (Some a) h anns e = no-annotated y w t a s h anns

pub declared-number : (w : Store) (m : Matcher) (s : bank.Symbol) (k : ℕ) → (ready : AreReady w m) → NumberOf m.links s (Some k) → k < length m.heads.items
declared-number w m s k ready number =
    let f = number.found k refl in
    let below = f.0 in
    let long = ready.ready.linked.counted in
    let heads = ready.ready.matcher.symbols in
    omega (arith, below, long, heads)

pub all-later : (w : Store) (m : Matcher) → AreReady w m → AreLater m
all-later w m ready i s lt e = later-side m 0 0 i s lt e ready.spec w ready.ready

-- how many arguments an application has
pub arity-is : (w : Store) (t : Term) (s : bank.Symbol) (h : HasAppl w t s) (n : ℕ) → arity_at w s ≡ Some n → count_of h.args ≡ n
arity-is w t s h n e = let r : Some (count_of h.args) ≡ Some n = sym (ap (option_and_then (λ (g : Signature). Some g.arity)) h.symbol) ∙ e in cc r

module _ (y : Spec) (w : Store) (m : Matcher) (ready : IsReady y w m) (u : Term) (k from at : ℕ) (args : Trees) (call : IsCall y w u k args)
    (reached : Reaches m k from at) (work : List Term) (are : held_trees w work ≡ to_list args) where
  work-counted : at < length m.sides.items → count_at m at ≡ length work
  work-counted lt =
      let ruled = ready.matcher.ruled in
      let side = ready.matcher.sides at no_rule (omega (arith, lt, ruled)) in
      side.filled ∙ ap (arity_of y) ((reached y w ready call.declared).1 lt) ∙ sym call.counted ∙ sym (length-to_list args) ∙ ap length (sym are)
      ∙ length-map work (held_tree w)

  tree-is : application (name_of y (Symbol k)) (from_list (held_trees w work)) ≡ held_tree w u
  tree-is = ap (λ ts. application (name_of y (Symbol k)) (from_list ts)) are ∙ ap (application (name_of y (Symbol k))) (from_to_list args) ∙ sym call.is

  finds-for : (bind : List Term) (found : Option ℕ) → FindsFor w m at work bind found → Finds y w m (name_of y (Symbol k)) at work bind found
  finds-for bind found h = h y m.links [] work k ready.linked ready.matcher call.declared (reached y w ready call.declared).1 refl work-counted

  skipped-to : next_match y from (held_tree w u) ≡ first_match y at (drop at y.rules) (application (name_of y (Symbol k)) (from_list (held_trees w work)))
  skipped-to = ap (λ t. first_match y from (drop from y.rules) t) (sym tree-is) ∙ (reached y w ready call.declared).0 (from_list (held_trees w work))

  pub answer-none : (bind : List Term) → FindsFor w m at work bind None → next_match y from (held_tree w u) ≡ None
  answer-none bind h = skipped-to ∙ finds-for bind None h

  pub answer-some : (bind found : List Term) (i : ℕ) → FindsFor w m at work found (Some i) → bind ≡ found → Matched y w u from i bind
  answer-some bind found i h e =
      let f : HasFound y w m (name_of y (Symbol k)) at work found i = finds-for found (Some i) h in
      record { values = f.values; first = skipped-to ∙ f.first; bound = ap (held_trees w) e ∙ f.bound; held = subst (AllHeld w) (sym e) f.held }

-- no rule is left
pub answer-past : (y : Spec) (w : Store) (m : Matcher) → IsReady y w m → (u : Term) (k from at : ℕ) (args : Trees) → IsCall y w u k args
    → Reaches m k from at → length m.sides.items ≤ at → next_match y from (held_tree w u) ≡ None
answer-past y w m ready u k from at args call reached past =
    let tree : application (name_of y (Symbol k)) args ≡ held_tree w u = sym call.is in
    let ruled = ready.matcher.ruled in
    ap (λ t. first_match y from (drop from y.rules) t) (sym tree) ∙ (reached y w ready call.declared).0 args
    ∙ nothing y at (application (name_of y (Symbol k)) args) (omega (arith, ruled, past))

-- a call's arguments are as many as it has
pub arguments-long : (w : Store) (args : Trees) (n : ℕ) (work : List Term) → count_of args ≡ n → held_trees w work ≡ to_list args → n ≡ length work
arguments-long w args n work en are = sym en ∙ sym (length-to_list args) ∙ ap length (sym are) ∙ length-map work (held_tree w)

pub can-find-there : (w : Store) (m : Matcher) (ready : AreReady w m) (u : Term) (k n from at : ℕ) (args : Trees) → IsCall ready.spec w u k args
    → count_of args ≡ n → Reaches m k from at → (work : List Term) → held_trees w work ≡ to_list args → CanFind w m k n at work
can-find-there w m ready u k n from at args call en reached work are = record {
  spec = ready.spec;
  symbols = m.links;
  linked = ready.ready.linked;
  matcher = ready.ready.matcher;
  declared = call.declared;
  head = (reached ready.spec w ready.ready call.declared).1;
  counted = sym en ∙ call.counted;
  long =
      let c = arguments-long w args n work en are in
      omega (arith, c);
}

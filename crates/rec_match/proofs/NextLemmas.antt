-- The rules of a symbol from a number on, and terms that no left-hand side matches.
use Rattle.std.proofs.Common.{refl, sym, ap, subst, arith, ◌∙◌, inl, inr, drop, length}
use Rattle.std.proofs.Math.ListN.{drop_of_length-le}
use Rattle.std.specs.Prelude.{ℕ, zero, suc, ◌≡◌, ◌<◌, ◌≤◌, ◌+◌, ◌-◌, ◌⊎◌, List, [], ◌∷◌, Option, Some, None, get_or}
use Rattle.rx_term.specs.Tree.{Tree}
use Rattle.rx_term.specs.Store.{Store}
use Rattle.rec_syntax.specs.Syntax.{Spec, Rule, Apply}
use Rattle.rec_syntax.specs.Syntax as X
use Rattle.rec_sorts.specs.Lookup.{symbols}
use Rattle.rec_sorts.specs.Binding.{Substitution, NumberedMatch, application, binds, first_match}
use Rattle.rec_sorts.specs.Numbering.{name_of}
use Rattle.rec_sorts.specs.declared.letters.Meaning.TheVariants.{Symbol}
use Rattle.rec_match.specs.Matching.{Skips, HeadAt, symbol_at, next_at}
use Rattle.rec_match.specs.Next.{IsReady, Reaches}
use Rattle.rec_match.specs.declared.matcher.LeftSide.{LeftSide}
use Rattle.rec_match.specs.declared.matcher.Matcher.{Matcher}
use Rattle.rec_match.proofs.FindLemmas.{first-matched, first-passed, side-is}

no_rule : Rule
no_rule = record { left = Apply (record { at = 0; bytes = [] }) X.none; right = Apply (record { at = 0; bytes = [] }) X.none; conditions = [] }

-- what is found is at or after the first number
found-after : (y : Spec) (rs : List Rule) (n : ℕ) (u : Tree) (m : NumberedMatch) → first_match y n rs u ≡ Some m → n ≤ m.number
found-after y [] n u m e = absurd (cc e)
found-after y (r ∷ rs) n u m e = by (binds y r.left u) e (λ f. found-after y rs (suc n) u m f)
  where
    by : (o : Option Substitution) → ◌≡◌ {A = Option NumberedMatch}
        (elim o [ Some s ↦ Some (record { number = n; values = s }) | None ↦ first_match y (suc n) rs u ]) (Some m)
        → (first_match y (suc n) rs u ≡ Some m → suc n ≤ m.number) → n ≤ m.number
    by (Some s) e later = let q : n ≡ m.number = ap number_or e in omega (arith, q)
      where
        number_or : Option NumberedMatch → ℕ
        number_or (Some x) = x.number
        number_or None = 0
    by None e later = let q = later e in omega (arith, q)

pub which : (a b : ℕ) → (a ≤ b) ⊎ (b < a)
which zero b = inl (omega arith)
which (suc a) zero = inr (omega arith)
which (suc a) (suc b) = elim (which a b) [ inl h ↦ inl (omega (arith, h)) | inr h ↦ inr (omega (arith, h)) ]

-- after the last rule none matches
pub nothing : (y : Spec) (j : ℕ) (u : Tree) → length y.rules ≤ j → first_match y j (drop j y.rules) u ≡ None
nothing y j u le = ap (λ rs. first_match y j rs u) (drop_of_length-le y.rules le)

-- the rules from one number on find what those from a later one on find, or a rule before it
found-before : (y : Spec) (n k : ℕ) (u : Tree) → (first_match y n (drop n y.rules) u ≡ first_match y (n + k) (drop (n + k) y.rules) u)
    ⊎ ((m : NumberedMatch) × (first_match y n (drop n y.rules) u ≡ Some m) × (m.number < n + k))
found-before y n zero u = inl (ap (λ j. first_match y j (drop j y.rules) u) (let q : n ≡ n + 0 = omega arith in q))
found-before y n (suc k) u = by_length (which (length y.rules) n) (found-before y (suc n) k u)
  where
    Goal : Type 0
    Goal = (first_match y n (drop n y.rules) u ≡ first_match y (n + suc k) (drop (n + suc k) y.rules) u)
        ⊎ ((m : NumberedMatch) × (first_match y n (drop n y.rules) u ≡ Some m) × (m.number < n + suc k))

    Later : Type 0
    Later = (first_match y (suc n) (drop (suc n) y.rules) u ≡ first_match y (suc n + k) (drop (suc n + k) y.rules) u)
        ⊎ ((m : NumberedMatch) × (first_match y (suc n) (drop (suc n) y.rules) u ≡ Some m) × (m.number < suc n + k))

    by_rule : n < length y.rules → Later → (o : Option Substitution) → binds y (get_or y.rules n no_rule).left u ≡ o → Goal
    by_rule lt later (Some s) e = inr ((record { number = n; values = s }), first-matched y n u no_rule s lt e, omega arith)
    by_rule lt later None e = elim later [
      | inl q ↦ inl (first-passed y n u no_rule lt e ∙ q ∙ ap (λ j. first_match y j (drop j y.rules) u) (let z : suc n + k ≡ n + suc k = omega arith in z))
      | inr q ↦ inr (q.0, first-passed y n u no_rule lt e ∙ q.1, (let z = q.2 in omega (arith, z)))
    ]

    by_length : (length y.rules ≤ n) ⊎ (n < length y.rules) → Later → Goal
    by_length (inr lt) later = by_rule lt later (binds y (get_or y.rules n no_rule).left u) refl
    by_length (inl le) later = inl (nothing y n u le ∙ sym (nothing y (n + suc k) u (omega (arith, le))))

-- if none from one rule to another matches, none between does
skips-between : (y : Spec) (name : List ℕ) (first from at : ℕ) → first ≤ from → from ≤ at → Skips y name first at → Skips y name from at
skips-between y name first from at le le' skips vs =
    let e : first + (from - first) ≡ from = omega (arith, le) in
    elim (found-before y first (from - first) (application name vs)) [
      | inl q ↦ sym (q ∙ ap (λ j. first_match y j (drop j y.rules) (application name vs)) e) ∙ skips vs
      | inr q ↦
          let after = found-after y (drop at y.rules) at (application name vs) q.0 (sym (skips vs) ∙ q.1) in
          let before = q.2 in
          absurd (let no : ⊥ = omega (arith, after, before, e, le') in no)
    ]

-- no rule of a symbol matches from a number up to one that comes after it
abbrev pub Nearing : Matcher → ℕ → ℕ → ℕ → Type 0
Nearing m k from at = (y : Spec) (w : Store) → IsReady y w m → k < length (symbols y) → (from ≤ at → Skips y (name_of y (Symbol k)) from at) × HeadAt m at k

pub nearing-first : (m : Matcher) (k from at : ℕ) (d : ℕ) → at ≡ get_or m.heads.items k d → Nearing m k from at
nearing-first m k from at d e y w ready lt =
    let l = ready.matcher.symbols in
    subst (λ a. (from ≤ a → Skips y (name_of y (Symbol k)) from a) × HeadAt m a k) (sym e)
    (let h = ready.matcher.heads k d (omega (arith, lt, l)) in
    ((λ le. skips-between y (name_of y (Symbol k)) 0 from (get_or m.heads.items k d) (omega arith) le h.0), h.1))

pub nearing-next : (m : Matcher) (k from at : ℕ) (s : LeftSide) → at < from → at < length m.sides.items → s ≡ get_or m.sides.items at s
    → Nearing m k from at → Nearing m k from s.next
nearing-next m k from at s before lt e near y w ready ltk =
    let n = near y w ready ltk in
    let ruled = ready.matcher.ruled in
    let side = ready.matcher.sides at no_rule (omega (arith, lt, ruled)) in
    let is : s.next ≡ next_at m at = side-is (λ (x : LeftSide). x.next) m at s 0 lt e in
    let own : symbol_at m at ≡ k = n.1 lt in
    subst (λ a. (from ≤ a → Skips y (name_of y (Symbol k)) from a) × HeadAt m a k) (sym is) (
      (λ le. skips-between y (name_of y (Symbol k)) (suc at) from (next_at m at) (omega (arith, before)) le
          (subst (λ j. Skips y (name_of y (Symbol j)) (suc at) (next_at m at)) own side.skips)),
      (λ q. side.next q ∙ own),
    )

pub later-side : (m : Matcher) (k from at : ℕ) (s : LeftSide) → at < length m.sides.items → s ≡ get_or m.sides.items at s → (y : Spec) (w : Store)
    → IsReady y w m → at < s.next
later-side m k from at s lt e y w ready =
    let ruled = ready.matcher.ruled in
    let side = ready.matcher.sides at no_rule (omega (arith, lt, ruled)) in
    let is : s.next ≡ next_at m at = side-is (λ (x : LeftSide). x.next) m at s 0 lt e in
    let l = side.later in
    omega (arith, is, l)

pub reaches : (m : Matcher) (k from at : ℕ) → (from ≤ at) ⊎ (length m.sides.items ≤ at) → Nearing m k from at → Reaches m k from at
reaches m k from at (inl le) near y w ready lt = let n = near y w ready lt in (n.0 le, n.1)
reaches m k from at (inr le) near y w ready lt =
    let n = near y w ready lt in
    let ruled = ready.matcher.ruled in (
      (λ vs. elim (which from at) [
        | inl h ↦ n.0 h vs
        | inr h ↦ nothing y from (application (name_of y (Symbol k)) vs) (omega (arith, ruled, le, h))
            ∙ sym (nothing y at (application (name_of y (Symbol k)) vs) (omega (arith, ruled, le)))
      ]),
      n.1,
    )

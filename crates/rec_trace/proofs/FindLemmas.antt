-- The rules that are tried for a tree, one after another.
use Rattle.std.proofs.Common.{◌+◌, ◌-◌, ◌<◌, ◌≤◌, ℕ, arith, refl, sym, ap, ◌∙◌, length, drop}
use Rattle.std.specs.Prelude.{zero, suc, ◌≡◌, get_or, Bool, true, false, List, [], ◌∷◌, Option, Some, None, slice_get}
use Rattle.std.proofs.lemmas.List.{drop-drop}
use Rattle.rx_term.specs.Tree.{Tree}
use Rattle.rec_syntax.specs.Syntax.{Rule, Spec}
use Rattle.rec_sorts.specs.Binding.{NumberedMatch, Substitution, binds, first_match, next_match}
use Rattle.rec_sorts.specs.Evaluation.{Outcome, Done, Over, Match, ◌then◌, Eval, Holds, first_rule, holds, spend}
use Rattle.rx_term.specs.Store.{Store}
use Rattle.rec_sorts.specs.Binding.{application}
use Rattle.rec_sorts.specs.Numbering.{name_of}
use Rattle.rec_sorts.specs.declared.letters.Meaning.TheVariants.{Symbol}
use Rattle.rx_term.specs.Tree.{Trees}
use Rattle.rec_match.specs.Next.{IsReady}
use Rattle.rec_match.specs.declared.matcher.Matcher.{Matcher}
use Rattle.rec_match.proofs.NextLemmas.{nothing}
use Rattle.rec_trace.specs.declared.tracer.Found.TheVariants as found
use Rattle.rec_trace.proofs.ConditionLemmas.{same-first}
use Rattle.rec_trace.specs.Inner.Sides.{IsMatch}
use Rattle.rec_trace.specs.Rows.{moves_in, stack_in}
use Rattle.rec_trace.specs.Tracing.{AreAnswered, IsFound, IsInOrder, IsSame, on_top, stack_at}
use Rattle.rec_trace.specs.declared.row.Row.{Row}
use Rattle.rec_trace.specs.declared.tracer.Tracer.{Tracer}
use Rattle.rec_trace.specs.Inner.Turns.{number_of}
use Rattle.rec_trace.proofs.SideLemmas.{some-same}

-- what a rule that matches comes to, by its conditions
abbrev pub tried : Spec → Rule → Substitution → List Rule → Tree → Outcome Bool → Outcome (Option Match)
tried y r s rs u o = o then λ yes rest. elim yes [
  | true ↦ Done (Some (record { rule = r; values = s })) rest
  | false ↦ first_rule y (Eval y) rs rest u
]

-- the first rule that matches is tried first
record FirstAt (y : Spec) (rs : List Rule) (u : Tree) (from : ℕ) (m : NumberedMatch) : Type 0 where
  place : ℕ
  rule : Rule
  others : List Rule
  is : m.number ≡ from + place
  split : drop place rs ≡ rule ∷ others
  binding : binds y rule.left u ≡ Some m.values
  tries : (n : ℕ) → first_rule y (Eval y) rs n u ≡ spend n (λ left. tried y rule m.values others u (Holds y left m.values rule.conditions))

abbrev by_match : Spec → Rule → List Rule → ℕ → Tree → Option Substitution → Outcome (Option Match)
by_match y r rs n u o = elim o [
  | None ↦ first_rule y (Eval y) rs n u
  | Some s ↦ spend n (λ left. holds (Eval y) left s r.conditions then λ yes rest.
      elim yes [
        | true ↦ Done (Some (record { rule = r; values = s })) rest
        | false ↦ first_rule y (Eval y) rs rest u
      ])
]

passed : (y : Spec) (r : Rule) (rs : List Rule) (n : ℕ) (u : Tree) → binds y r.left u ≡ None → first_rule y (Eval y) (r ∷ rs) n u ≡ first_rule y (Eval y) rs n u
passed y r rs n u e = ap (by_match y r rs n u) e

matched : (y : Spec) (r : Rule) (rs : List Rule) (n : ℕ) (u : Tree) (s : Substitution) → binds y r.left u ≡ Some s
    → first_rule y (Eval y) (r ∷ rs) n u ≡ spend n (λ left. tried y r s rs u (Holds y left s r.conditions))
unfolding Holds
matched y r rs n u s e = ap (by_match y r rs n u) e

first-at : (y : Spec) (rs : List Rule) (u : Tree) (from : ℕ) (m : NumberedMatch) → first_match y from rs u ≡ Some m → FirstAt y rs u from m
first-at y [] u from m e = absurd (cc e)
first-at y (r ∷ rs) u from m e = by (binds y r.left u) refl e (λ f. first-at y rs u (suc from) m f)
  where
    by : (o : Option Substitution) → binds y r.left u ≡ o → ◌≡◌ {A = Option NumberedMatch}
        (elim o [ Some s ↦ Some (record { number = from; values = s }) | None ↦ first_match y (suc from) rs u ]) (Some m)
        → (first_match y (suc from) rs u ≡ Some m → FirstAt y rs u (suc from) m) → FirstAt y (r ∷ rs) u from m
    by (Some t) h f later =
        let same = some-same (let a : NumberedMatch = record { number = from; values = t } in a) m f in
        let number : from ≡ m.number = ap (λ k. k.number) same in
        let values : t ≡ m.values = ap (λ k. k.values) same in
        let binding : binds y r.left u ≡ Some m.values = h ∙ ap (λ x. let o : Option Substitution = Some x in o) values in
        record {
          place = 0;
          rule = r;
          others = rs;
          is = omega (arith, number);
          split = refl;
          binding = binding;
          tries = λ n.
              matched y r rs n u m.values binding;
        }
    by None h f later =
        let k : FirstAt y rs u (suc from) m = later f in
        record {
          place = suc k.place;
          rule = k.rule;
          others = k.others;
          is = let a = k.is in omega (arith, a);
          split = k.split;
          binding = k.binding;
          tries = λ n. passed y r rs n u h ∙ k.tries n;
        }

none-match : (y : Spec) (rs : List Rule) (u : Tree) (from : ℕ) → first_match y from rs u ≡ None → (n : ℕ) → first_rule y (Eval y) rs n u ≡ Done None n
none-match y [] u from e n = refl
none-match y (r ∷ rs) u from e n = by (binds y r.left u) refl e (λ f. none-match y rs u (suc from) f n)
  where
    by : (o : Option Substitution) → binds y r.left u ≡ o → ◌≡◌ {A = Option NumberedMatch}
        (elim o [ Some s ↦ Some (record { number = from; values = s }) | None ↦ first_match y (suc from) rs u ]) None
        → (first_match y (suc from) rs u ≡ None → first_rule y (Eval y) rs n u ≡ Done None n) → first_rule y (Eval y) (r ∷ rs) n u ≡ Done None n
    by (Some t) h f later = absurd (cc f)
    by None h f later = passed y r rs n u h ∙ later f

-- the rule that is found among those from a number on
pub record NextRule (y : Spec) (u : Tree) (from i : ℕ) : Type 0 where
  pub rule : Rule
  pub values : Substitution
  pub later : from ≤ i
  pub within : i < length y.rules
  pub match : IsMatch y i u rule values
  pub tries : (n : ℕ) → first_rule y (Eval y) (drop from y.rules) n u ≡ spend n (λ left.
      tried y rule values (drop (suc i) y.rules) u (Holds y left values rule.conditions))

-- where a list begins
at-front : {A : Type 0} (xs : List A) (k : ℕ) (x : A) (rest : List A) → drop k xs ≡ x ∷ rest
    → (k < length xs) × (slice_get xs k ≡ Some x) × (rest ≡ drop (suc k) xs)
at-front [] zero x rest e = absurd (cc e)
at-front [] (suc k) x rest e = absurd (cc e)
at-front (z ∷ xs) zero x rest e = (omega arith, (let same : z ≡ x = cc e in ap (λ a. Some a) same), (let same : xs ≡ rest = cc e in sym same))
at-front (z ∷ xs) (suc k) x rest e = let h = at-front xs k x rest e in ((let l = h.0 in omega (arith, l)), h.1, h.2)

-- what is found is a match
pub matched-at : (y : Spec) (u : Tree) (from : ℕ) (m : NumberedMatch) → next_match y from u ≡ Some m → (r : Rule) × IsMatch y m.number u r m.values
matched-at y u from m h =
    let k = first-at y (drop from y.rules) u from m h in
    let front = at-front y.rules m.number k.rule k.others (ap (λ j. drop j y.rules) k.is ∙ sym (drop-drop k.place from y.rules) ∙ k.split) in
    (k.rule, record { rule = front.1; binds = k.binding })

pub next-rule : (y : Spec) (u : Tree) (from i : ℕ) → number_of (next_match y from u) ≡ Some i → NextRule y u from i
next-rule y u from i e = by (next_match y from u) refl e
  where
    by : (o : Option NumberedMatch) → next_match y from u ≡ o → number_of o ≡ Some i → NextRule y u from i
    by None h f = absurd (cc f)
    by (Some m) h f =
        let k = first-at y (drop from y.rules) u from m h in
        let same : m.number ≡ i = some-same m.number i f in
        let is = k.is in
        let at : i ≡ from + k.place = omega (arith, same, is) in
        let front = at-front y.rules i k.rule k.others (ap (λ j. drop j y.rules) at ∙ sym (drop-drop k.place from y.rules) ∙ k.split) in
        record {
          rule = k.rule;
          values = m.values;
          later = omega (arith, at);
          within = front.0;
          match = record { rule = front.1; binds = k.binding };
          tries = λ n. k.tries n ∙ ap (λ rs. spend n (λ left. tried y k.rule m.values rs u (Holds y left m.values k.rule.conditions))) front.2;
        }

-- the rule was looked for in the same state
pub found-here : (x y : Spec) (st st' : List Tree) (from : ℕ) (o : Option ℕ) → x ≡ y → st' ≡ st → number_of (next_match x from (on_top st')) ≡ o
    → number_of (next_match y from (on_top st)) ≡ o
found-here x y st st' from o spec stack e = cc

pub no-rule : (y : Spec) (u : Tree) (from : ℕ) → number_of (next_match y from u) ≡ None → (n : ℕ) → first_rule y (Eval y) (drop from y.rules) n u ≡ Done None n
no-rule y u from e n = by (next_match y from u) refl e
  where
    by : (o : Option NumberedMatch) → next_match y from u ≡ o → number_of o ≡ None → first_rule y (Eval y) (drop from y.rules) n u ≡ Done None n
    by None h f = none-match y (drop from y.rules) u from h n
    by (Some m) h f = absurd (cc f)

-- a step is spent where one is left
pub spent : {A : Type 0} (n : ℕ) (f : ℕ → Outcome A) → 0 < n → spend n f ≡ f (n - 1)
spent zero f lt = let no : ⊥ = omega (arith, lt) in absurd no
spent (suc n) f lt = ap f (let e : n ≡ suc n - 1 = omega arith in e)

-- a rule was tried for the tree on top: it fires, or the next ones are tried, or the limit is passed
abbrev pub Tried : Spec → Store → Store → Tracer → Tracer → Tree → ℕ → Option Bool → Type 0
Tried y w w' a d u i (Some true) = (m : Match) × (first_rule y (Eval y) y.rules a.left u ≡ Done (Some m) d.left) × IsMatch y i u m.rule m.values
    × IsSame y w w' a d
Tried y w w' a d u i (Some false) = (first_rule y (Eval y) (drop (i + 1) y.rules) d.left u ≡ first_rule y (Eval y) y.rules a.left u) × IsSame y w w' a d
Tried y w w' a d u i None = first_rule y (Eval y) y.rules a.left u ≡ Over

pub tried-rule : (y : Spec) (w w1 w2 : Store) (a b b' d : Tracer) (u : Tree) (from i : ℕ) (o : Option Bool) (n : NextRule y u from i)
    → IsSame y w w1 a b → first_rule y (Eval y) (drop from y.rules) b.left u ≡ first_rule y (Eval y) y.rules a.left u → 0 < b.left
    → b'.left ≡ b.left - 1 → b'.row ≡ b.row
    → AreAnswered y w1 w2 b' d (Holds y b'.left n.values n.rule.conditions) o → Tried y w w2 a d u i o
tried-rule y w w1 w2 a b b' d u from i o n state comes some less row h = by o h
  where
    step : first_rule y (Eval y) y.rules a.left u ≡ tried y n.rule n.values (drop (suc i) y.rules) u (Holds y b'.left n.values n.rule.conditions)
    step =
        sym comes ∙ n.tries b.left ∙ spent b.left (λ left. tried y n.rule n.values (drop (suc i) y.rules) u (Holds y left n.values n.rule.conditions)) some
        ∙ ap (λ k. tried y n.rule n.values (drop (suc i) y.rules) u (Holds y k n.values n.rule.conditions)) (sym less)

    both : IsSame y w1 w2 b' d → IsSame y w w2 a d
    both q = record {
      order = q.order;
      moves = q.moves ∙ ap (moves_in y w1) row ∙ state.moves;
      stack = q.stack ∙ ap (stack_in w1) row ∙ state.stack;
      steps = q.steps ∙ ap (λ (z : Row). z.steps.items) row ∙ state.steps;
      long = q.long ∙ ap (λ (z : Row). length z.values.items) row ∙ state.long;
    }

    by : (o : Option Bool) → AreAnswered y w1 w2 b' d (Holds y b'.left n.values n.rule.conditions) o → Tried y w w2 a d u i o
    by (Some true) q = (
      record { rule = n.rule; values = n.values },
      step ∙ ap (tried y n.rule n.values (drop (suc i) y.rules) u) q.0,
      n.match,
      both q.1,
    )
    by (Some false) q = (
      ap (λ k. first_rule y (Eval y) (drop k y.rules) d.left u) (let e : i + 1 ≡ suc i = omega arith in e)
          ∙ sym (step ∙ ap (tried y n.rule n.values (drop (suc i) y.rules) u) q.0),
      both q.1,
    )
    by None q = step ∙ ap (tried y n.rule n.values (drop (suc i) y.rules) u) q

-- no step is left for a rule that matches
pub nothing-left : (y : Spec) (u : Tree) (from i n : ℕ) (F : Outcome (Option Match)) → NextRule y u from i → n ≡ 0
    → first_rule y (Eval y) (drop from y.rules) n u ≡ F → F ≡ Over
nothing-left y u from i n F next e comes = sym comes ∙ next.tries n
    ∙ ap (λ k. spend k (λ left. tried y next.rule next.values (drop (suc i) y.rules) u (Holds y left next.values next.rule.conditions))) e

pub none-of : (o : Option ℕ) → ((x : ℕ) → o ≡ Some x → ⊥) → o ≡ None
none-of None h = refl
none-of (Some x) h = absurd (h x refl)

-- a symbol whose first rule is behind all has none
pub no-rules : (y : Spec) (w : Store) (m : Matcher) → IsReady y w m → (k d : ℕ) → k < length m.heads.items → length m.sides.items ≤ get_or m.heads.items k d
    → (args : Trees) → next_match y 0 (application (name_of y (Symbol k)) args) ≡ None
no-rules y w m ready k d lt past args =
    let ruled = ready.matcher.ruled in
    (ready.matcher.heads k d lt).0 args
    ∙ nothing y (get_or m.heads.items k d) (application (name_of y (Symbol k)) args) (omega (arith, ruled, past))

-- so nothing is found for it
pub found-none : (y : Spec) (w : Store) (t : Tracer) (u : Tree) → IsInOrder y w t → on_top (stack_at w t) ≡ u → next_match y 0 u ≡ None
    → IsFound y w w t t (first_rule y (Eval y) y.rules t.left (on_top (stack_at w t))) found.Nothing
found-none y w t u order top none =
    (no-rule y (on_top (stack_at w t)) 0 (ap (λ v. number_of (next_match y 0 v)) top ∙ ap number_of none) t.left, same-first y w t order)

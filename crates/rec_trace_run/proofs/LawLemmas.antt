-- The lines of traces that are none of evaluation's.
use Rattle.std.proofs.Common.{refl, sym, ap, ap₂, ◌∙◌, arith, append-nil, take_all}
use Rattle.std.proofs.lemmas.Bool.{eqb-true}
use Rattle.std.proofs.lemmas.List.{drop_all}
use Rattle.std.proofs.lemmas.List.Elements.{filter-append}
use Rattle.std.specs.List.{list_all}
use Rattle.std.specs.Prelude.{ℕ, zero, suc, ◌≡◌, ◌-◌, ◌<◌, ◌^◌, ◌&&◌, ◌||◌, Bool, true, false, not, cond, List, [], ◌∷◌, ◌++◌}
use Rattle.std.specs.Prelude.{Option, Some, None, codes, decimal, drop, filter, flat_map, length, map, nat_eq, take}
use Rattle.std.specs.Fmt.{digits}
use Rattle.rx_term.specs.Name.{plain_name, starts_name, continues_name}
use Rattle.rx_term.specs.Tree.{Tree, Trees, Appl, Int, Items, Hole, annotated}
use Rattle.rx_text.specs.Canon.{canon, canon_all, enclosed, name_text, no_arguments}
use Rattle.rec_syntax.specs.Syntax.{Spec, Term}
use Rattle.rec_sorts.specs.Binding.{application, tree_of}
use Rattle.rec_sorts.specs.Evaluation.{Outcome, Done, Over, Eval}
use Rattle.rec_sorts.specs.SpecRules.{fault}
use Rattle.rec_engine.proofs.ValueTreeLemmas.{IsApplied, value_is_applied}
use Rattle.rx_run.specs.Due.{steps_text}
use Rattle.rec_run.specs.Output.{Task, bare, chosen, limit_text, line}
use Rattle.rec_run.specs.declared.options.LimitLines.TheVariants.{Bare}
use Rattle.rec_trace.specs.Lines.{begins_with_digit, cut, firing_line, place_text, spent_text, value_line, whole_line, whole_text}
use Rattle.rec_trace.specs.Trace.{Firing, Trace}
use Rattle.rec_trace.proofs.LineLemmas.{firing_line_law, value_line_law}
use Rattle.rec_trace.proofs.TraceLemmas.{trace_law}
use Rattle.rec_trace_run.specs.Picks.{Picks, by_threes, front_lines, is_picked, last_lines, left_out_count, more_line, rest_lines, shown_lines}
use Rattle.rec_trace_run.specs.Traces.{DigitsLaw, Shown, ValuesLaw, WholeTraceLaw, begins_with_dot, first_lines, picked_lines, step_line, task_lines}
use Rattle.rec_trace_run.proofs.PickLemmas.{bounded}

-- ---- lines that a filter leaves out

-- a test that is false leaves a line out, and one that is true keeps it
leaves : (keep : List ℕ → Bool) (l : List ℕ) (ls : List (List ℕ)) → keep l ≡ false → filter keep (l ∷ ls) ≡ filter keep ls
leaves keep l ls e = by (keep l) e
  where
    by : (b : Bool) → b ≡ false → cond b (l ∷ filter keep ls) (filter keep ls) ≡ filter keep ls
    by true h = absurd (cc h)
    by false h = refl

keeps : (keep : List ℕ → Bool) (l : List ℕ) (ls : List (List ℕ)) → keep l ≡ true → filter keep (l ∷ ls) ≡ l ∷ filter keep ls
keeps keep l ls e = by (keep l) e
  where
    by : (b : Bool) → b ≡ true → cond b (l ∷ filter keep ls) (filter keep ls) ≡ l ∷ filter keep ls
    by true h = refl
    by false h = absurd (cc h)

-- none of these is kept
abbrev AreLeft : (List ℕ → Bool) → List (List ℕ) → Type 0
AreLeft keep [] = Unit {0}
AreLeft keep (l ∷ ls) = (keep l ≡ false) × AreLeft keep ls

left-none : (keep : List ℕ → Bool) (ls : List (List ℕ)) → AreLeft keep ls → filter keep ls ≡ []
left-none keep [] h = refl
left-none keep (l ∷ ls) h = leaves keep l ls h.0 ∙ left-none keep ls h.1

left-append : (keep : List ℕ → Bool) (xs ys : List (List ℕ)) → AreLeft keep xs → AreLeft keep ys → AreLeft keep (xs ++ ys)
left-append keep [] ys h k = k
left-append keep (x ∷ xs) ys h k = (h.0, left-append keep xs ys h.1 k)

left-take : (keep : List ℕ → Bool) (n : ℕ) (ls : List (List ℕ)) → AreLeft keep ls → AreLeft keep (take n ls)
left-take keep zero [] h = tt
left-take keep zero (l ∷ ls) h = tt
left-take keep (suc n) [] h = tt
left-take keep (suc n) (l ∷ ls) h = (h.0, left-take keep n ls h.1)

left-drop : (keep : List ℕ → Bool) (n : ℕ) (ls : List (List ℕ)) → AreLeft keep ls → AreLeft keep (drop n ls)
left-drop keep zero [] h = tt
left-drop keep zero (l ∷ ls) h = h
left-drop keep (suc n) [] h = tt
left-drop keep (suc n) (l ∷ ls) h = left-drop keep n ls h.1

left-map : (keep : List ℕ → Bool) (f : Firing → List ℕ) (fs : List Firing) → ((x : Firing) → keep (f x) ≡ false) → AreLeft keep (map f fs)
left-map keep f [] h = tt
left-map keep f (x ∷ fs) h = (h x, left-map keep f fs h)

left-shown : (keep : List ℕ → Bool) (p : Picks) (ls : List (List ℕ)) → AreLeft keep ls → AreLeft keep (more_line (left_out_count p ls))
    → AreLeft keep (shown_lines p ls)
left-shown keep p ls h k =
    left-append keep (front_lines p ls) (last_lines p ls) (left-take keep _ ls h)
    (left-append keep (more_line (left_out_count p ls)) (drop (left_out_count p ls) (rest_lines p ls)) k
    (left-drop keep (left_out_count p ls) (rest_lines p ls) (left-drop keep _ ls h)))

-- the value's line is that of evaluation
spent-same : (counted : Bool) (k : ℕ) → spent_text counted k ≡ steps_text counted k
spent-same true k = refl
spent-same false k = refl

is-application : (v : Tree) → IsApplied v → (name : List ℕ) × (ts : Trees) × (v ≡ application name ts)
is-application (Appl name quoted args anns) h = (name, args, ap₂ (λ q a. Appl name q args a) h.0 h.1)
is-application (Int z anns) h = absurd h
is-application (Items ts anns) h = absurd h
is-application (Hole t anns) h = absurd h

value-other : (y : Spec) (counted : Bool) (n : ℕ) (t : Term) (notes : Trees) (o : Outcome Tree) → Eval y n [] t ≡ o
    → begins_with_digit (value_line counted n notes o) ≡ false
value-other y counted n t notes (Done v left) e =
    let a = is-application v (value_is_applied y n t v left e) in
    ap (λ (u : Tree). begins_with_digit (value_line counted n notes (Done u left))) a.2 ∙ (value_line_law counted n left a.0 a.1 notes).0
value-other y counted n t notes Over e = refl

abbrev shown_line : Bool → ℕ → Trees → Outcome Tree → List ℕ
shown_line counted n notes o = elim o [
  | Done v left ↦ canon (annotated v notes) ++ steps_text counted (n - left) ++ codes "\n"
  | Over ↦ limit_text Bare n notes ++ codes "\n"
]

value-same : (counted : Bool) (n : ℕ) (notes : Trees) (o : Outcome Tree) → value_line counted n notes o ≡ shown_line counted n notes o
value-same counted n notes (Done v left) = ap (λ z. canon (annotated v notes) ++ z ++ codes "\n") (spent-same counted (n - left))
value-same counted n notes Over = refl

-- the line of the term itself goes too
digit-front : (xs ys : List ℕ) → begins_with_digit xs ≡ true → begins_with_digit (xs ++ ys) ≡ true
digit-front [] ys h = absurd (cc h)
digit-front (x ∷ xs) ys h = h

zero-text : decimal 0 ≡ 48 ∷ []
unfolding digits
zero-text = refl

first-digit : (width : Option ℕ) (u : Tree) → begins_with_digit (whole_text 0 0 false width 0 u) ≡ true
first-digit width u =
    let line : List ℕ = decimal 0 in
    let zero : begins_with_digit line ≡ true = ap begins_with_digit zero-text in
    let place : begins_with_digit (place_text 0 0) ≡ true = digit-front ((line ++ codes ":") ++ decimal 0) (codes ": ")
    (digit-front (line ++ codes ":") (decimal 0) (digit-front line (codes ":") zero)) in
    digit-front ((place_text 0 0 ++ cut width (canon u)) ++ spent_text false 0) (codes "\n")
    (digit-front (place_text 0 0 ++ cut width (canon u)) (spent_text false 0) (digit-front (place_text 0 0) (cut width (canon u)) place))

-- ---- lines of traces

-- a line of a firing begins with a digit
step-digit : (source : List ℕ) (shown : Shown) (n : ℕ) → length source < 2 ^ 63 → (f : Firing) → begins_with_digit (step_line source shown n f) ≡ true
step-digit source shown n short f = by shown.whole
  where
    by : (whole : Bool) → begins_with_digit (elim whole [
      | true ↦ whole_line source shown.counted shown.width n f
      | false ↦ firing_line source shown.counted shown.width n f
    ]) ≡ true
    by true = (firing_line_law source shown.counted shown.width n f short).1
    by false = (firing_line_law source shown.counted shown.width n f short).0

-- so does that of the term itself
first-digits : (keep : List ℕ → Bool) (shown : Shown) (u : Tree) → ((l : List ℕ) → begins_with_digit l ≡ true → keep l ≡ false)
    → AreLeft keep (first_lines shown u)
first-digits keep shown u h = by shown.whole
  where
    by : (whole : Bool) → AreLeft keep (elim whole [ true ↦ whole_text 0 0 false shown.width 0 u ∷ [] | false ↦ [] ])
    by true = (h (whole_text 0 0 false shown.width 0 u) (first-digit shown.width u), tt)
    by false = tt

-- of one term, by a test that no digit passes and no line on others, but each line of a value
module _ (source : List ℕ) (y : Spec) (shown : Shown) (n : ℕ) (good : fault y ≡ None) (short : length source < 2 ^ 63) (keep : List ℕ → Bool)
    (digits_go : (l : List ℕ) → begins_with_digit l ≡ true → keep l ≡ false)
    (mores_go : (ls : List (List ℕ)) → AreLeft keep (more_line (left_out_count shown.picked ls)))
    (values_stay : (task : Task) → keep (value_line shown.counted n task.notes (Trace y n task.term).outcome) ≡ true) where
  values-of : (task : Task) → filter keep (task_lines source y shown n task) ≡ line y (bare shown.counted) n task ∷ []
  values-of task =
      let r = Trace y n task.term in
      let first = first_lines shown (tree_of task.term) in
      let ls = picked_lines source shown n r.firings in
      let last : List ℕ = value_line shown.counted n task.notes r.outcome in
      let outcome : r.outcome ≡ Eval y n [] task.term = (trace_law y good n task.term).0 in
      let firings = left-map keep (step_line source shown n) (filter (is_picked source shown.picked) r.firings) (λ f.
      digits_go (step_line source shown n f) (step-digit source shown n short f)) in
      let gone : AreLeft keep (first ++ shown_lines shown.picked ls) =
      left-append keep first (shown_lines shown.picked ls) (first-digits keep shown (tree_of task.term) digits_go)
      (left-shown keep shown.picked ls firings (mores_go ls)) in
      filter-append keep (first ++ shown_lines shown.picked ls) (last ∷ [])
      ∙ ap₂ (λ (a b : List (List ℕ)). a ++ b) (left-none keep (first ++ shown_lines shown.picked ls) gone) (keeps keep last [] (values_stay task))
      ∙ ap (λ l. l ∷ []) (value-same shown.counted n task.notes r.outcome ∙ ap (shown_line shown.counted n task.notes) outcome)

  values-all : (ts : List Task) → filter keep (flat_map (task_lines source y shown n) ts) ≡ map (line y (bare shown.counted) n) ts
  values-all [] = refl
  values-all (t ∷ ts) =
      filter-append keep (task_lines source y shown n t) (flat_map (task_lines source y shown n) ts)
      ∙ ap₂ (λ (a b : List (List ℕ)). a ++ b) (values-of t) (values-all ts)

-- ---- neither a digit nor a dot

abbrev other : List ℕ → Bool
other l = not (begins_with_digit l || begins_with_dot l)

-- where a line on others is left out
or-true : (a b : Bool) → a ≡ true → not (a || b) ≡ false
or-true true b e = refl
or-true false b e = absurd (cc e)

or-false : (a b : Bool) → a ≡ false → b ≡ false → not (a || b) ≡ true
or-false true b e f = absurd (cc e)
or-false false true e f = absurd (cc f)
or-false false false e f = refl

mores-dotted : (k : ℕ) → AreLeft other (more_line k)
mores-dotted zero = tt
mores-dotted (suc k) = (
  dot-front (codes "... " ++ by_threes (decimal (suc k))) (codes " more\n")
      (dot-front (codes "... ") (by_threes (decimal (suc k))) refl),
  tt,
)
  where
    dot-front : (xs ys : List ℕ) → other xs ≡ false → other (xs ++ ys) ≡ false
    dot-front [] ys h = absurd (cc h)
    dot-front (x ∷ xs) ys h = h

-- the line of a value begins with a letter, `_` or `"`
abbrev BeginsUndotted : List ℕ → Type 0
BeginsUndotted [] = ⊥
BeginsUndotted (b ∷ bs) = nat_eq b 46 ≡ false

undotted-front : (xs ys : List ℕ) → BeginsUndotted xs → BeginsUndotted (xs ++ ys)
undotted-front [] ys h = absurd h
undotted-front (x ∷ xs) ys h = h

undotted-false : (xs : List ℕ) → BeginsUndotted xs → begins_with_dot xs ≡ false
undotted-false [] h = absurd h
undotted-false (x ∷ xs) h = h

and-first : (a b : Bool) → a && b ≡ true → a ≡ true
and-first true b e = refl
and-first false b e = absurd (cc e)

starts-undotted : (b : ℕ) → starts_name b ≡ true → nat_eq b 46 ≡ false
starts-undotted b e = by (nat_eq b 46) refl
  where
    by : (c : Bool) → nat_eq b 46 ≡ c → c ≡ false
    by false f = refl
    by true f = let at : b ≡ 46 = eqb-true b 46 f in absurd (cc (ap starts_name at, e))

name-undotted : (name : List ℕ) (p : Bool) → plain_name name ≡ p → BeginsUndotted (name_text name (not p))
name-undotted name false e = refl
name-undotted [] true e = absurd (cc e)
name-undotted (b ∷ bs) true e = starts-undotted b (and-first (starts_name b) (list_all continues_name bs) e)

value-undotted : (y : Spec) (counted : Bool) (n : ℕ) (t : Term) (notes : Trees) (o : Outcome Tree) → Eval y n [] t ≡ o
    → begins_with_dot (value_line counted n notes o) ≡ false
value-undotted y counted n t notes (Done v left) e =
    let a = is-application v (value_is_applied y n t v left e) in
    let name = a.0 in
    let quoted : Bool = not (plain_name name) in
    let own : List ℕ = name_text name quoted in
    let args : List ℕ = enclosed 40 a.1 (canon_all a.1) 41 (no_arguments name quoted) in
    let anns : List ℕ = enclosed 123 notes (canon_all notes) 125 [] in
    let spent : List ℕ = spent_text counted (n - left) in
    ap (λ (u : Tree). begins_with_dot (value_line counted n notes (Done u left))) a.2
    ∙ undotted-false ((((own ++ args) ++ anns) ++ spent) ++ codes "\n")
    (undotted-front (((own ++ args) ++ anns) ++ spent) (codes "\n")
    (undotted-front ((own ++ args) ++ anns) spent (undotted-front (own ++ args) anns
    (undotted-front own args (name-undotted name (plain_name name) refl)))))
value-undotted y counted n t notes Over e = refl

pub values_law_for : ValuesLaw
values_law_for source y given shown n good short =
    values-all source y shown n good short other
    (λ l h. or-true (begins_with_digit l) (begins_with_dot l) h)
    (λ ls. mores-dotted (left_out_count shown.picked ls))
    (λ task.
    let r = Trace y n task.term in
    let e = sym (trace_law y good n task.term).0 in
    or-false (begins_with_digit (value_line shown.counted n task.notes r.outcome)) (begins_with_dot (value_line shown.counted n task.notes r.outcome))
    (value-other y shown.counted n task.term task.notes r.outcome e) (value-undotted y shown.counted n task.term task.notes r.outcome e))
    (chosen shown.terms y given)

-- ---- no digit, where neither the first lines nor the last are asked for

-- then none is left out
none-left : (p : Picks) (ls : List (List ℕ)) → p.first ≡ None → p.last ≡ None → (rest_lines p ls ≡ []) × (front_lines p ls ≡ ls)
none-left p ls e f = by p.first p.last e f
  where
    by : (first last : Option ℕ) → first ≡ None → last ≡ None → (rest_lines (bounded p first last) ls ≡ []) × (front_lines (bounded p first last) ls ≡ ls)
    by (Some n) last e f = absurd (cc e)
    by None (Some n) e f = absurd (cc f)
    by None None e f = (drop_all (length ls) ls (omega arith), take_all (length ls) ls (omega arith))

none-left-out : (p : Picks) (ls : List (List ℕ)) → rest_lines p ls ≡ [] → left_out_count p ls ≡ 0
none-left-out p ls e = let none = ap (λ (xs : List (List ℕ)). length xs) e in omega (arith, none)

no-digit-line : (l : List ℕ) → begins_with_digit l ≡ true → not (begins_with_digit l) ≡ false
no-digit-line l h = ap not h

pub digits_law_for : DigitsLaw
digits_law_for source y given shown n first last good short =
    values-all source y shown n good short (λ l. not (begins_with_digit l)) no-digit-line
    (λ ls. mores (left_out_count shown.picked ls) (none-left-out shown.picked ls (none-left shown.picked ls first last).0))
    (λ task. ap not (value-other y shown.counted n task.term task.notes (Trace y n task.term).outcome (sym (trace_law y good n task.term).0)))
    (chosen shown.terms y given)
  where
    mores : (k : ℕ) → k ≡ 0 → AreLeft (λ l. not (begins_with_digit l)) (more_line k)
    mores zero e = tt
    mores (suc k) e = absurd (omega (arith, e))

-- ---- where nothing is picked

all-shown : (p : Picks) (ls : List (List ℕ)) → p.first ≡ None → p.last ≡ None → shown_lines p ls ≡ ls
all-shown p ls e f =
    let at = none-left p ls e f in
    let out = none-left-out p ls at.0 in
    ap₂ (λ (a b : List (List ℕ)). a ++ b) at.1 (ap₂ (λ (k : ℕ) (rest : List (List ℕ)). more_line k ++ drop k rest) out at.0) ∙ append-nil ls

filter-all : {X : Type 0} (keep : X → Bool) (xs : List X) → ((x : X) → keep x ≡ true) → filter keep xs ≡ xs
filter-all keep [] h = refl
filter-all keep (x ∷ xs) h = by (keep x) (h x) ∙ ap (λ z. x ∷ z) (filter-all keep xs h)
  where
    by : (b : Bool) → b ≡ true → cond b (x ∷ filter keep xs) (filter keep xs) ≡ x ∷ filter keep xs
    by true e = refl
    by false e = absurd (cc e)

pub whole_trace_law_for : WholeTraceLaw
whole_trace_law_for source y shown n task e =
    let r = Trace y n task.term in
    let last : List ℕ = value_line shown.counted n task.notes r.outcome in
    ap (λ ls. (first_lines shown (tree_of task.term) ++ ls) ++ last ∷ [])
    (all-shown shown.picked (picked_lines source shown n r.firings) (ap (λ (p : Picks). p.first) e) (ap (λ (p : Picks). p.last) e)
    ∙ ap (map (step_line source shown n)) (filter-all (is_picked source shown.picked) r.firings (λ f. ap (λ p. is_picked source p f) e)))
    ∙ ap (λ ls. ls ++ last ∷ []) (by shown.whole r.firings)
  where
    by : (whole : Bool) (fs : List Firing)
        → (elim whole [ true ↦ whole_text 0 0 false shown.width 0 (tree_of task.term) ∷ [] | false ↦ [] ]) ++ map (λ f. elim whole [
          | true ↦ whole_line source shown.counted shown.width n f
          | false ↦ firing_line source shown.counted shown.width n f
        ]) fs ≡ elim whole [
          | true ↦ whole_text 0 0 false shown.width 0 (tree_of task.term) ∷ map (whole_line source shown.counted shown.width n) fs
          | false ↦ map (firing_line source shown.counted shown.width n) fs
        ]
    by true fs = refl
    by false fs = refl

-- What holds of answers, and of what is due for requests.
use Rattle.std.proofs.Common.{◌≡◌, ◌≢◌, ℕ, ◌-◌, ◌<◌, ◌^◌, Bool, true, false, List, [], ◌∷◌, ◌++◌, Option, Some}
use Rattle.std.proofs.Common.{None, cond, inl, inr, refl, sym, ap, ap₂, subst, ◌∙◌, append_assoc, get_or, length, arith}
use Rattle.std.specs.Prelude.{◌⊎◌, IsTrue, Result, Ok, Err, codes, decimal, map, nat_le, nat_lt, not}
use Rattle.std.specs.List.{list_all}
use Rattle.std.proofs.lemmas.Bool.{and_parts}
use Rattle.rx_term.specs.Name.{plain_name, starts_name, continues_name}
use Rattle.rx_term.specs.Tree.{Tree, Trees, Int, Appl, Items, Hole, annotated, annotations, from_list, is_tree, list_of}
use Rattle.rx_text.specs.Canon.{canon}
use Rattle.rx_table.specs.Table.{entry, shared, written}
use Rattle.rx_text.specs.Verdict.{Verdict, TooLong, Outside, Spelt, IsVerdict}
use Rattle.rx_text.proofs.VerdictLemmas.{one_verdict}
use Rattle.rx_text.proofs.ValidLemmas.{spelt_valid}
use Rattle.rec_syntax.specs.Syntax.{Spec}
use Rattle.rec_sorts.specs.Evaluation.{Outcome, Done, Over, Eval, term_of}
use Rattle.rec_sorts.specs.Numbering.{Pairwise}
use Rattle.rec_sorts.specs.TermRules.{broken_by_elements}
use Rattle.rec_engine.proofs.ValueTreeLemmas.{IsApplied, value_is_applied}
use Rattle.rx_run.specs.Bytes.{newlines}
use Rattle.rec_run.specs.GivenTerms.{given_text}
use Rattle.rec_run.specs.Output.{Whole, Longer, line, printed, value_line, value_text}
use Rattle.rec_run.specs.declared.options.LimitLines.TheVariants.{Bare}
use Rattle.rec_run.specs.declared.options.ValueForm.TheVariants.{Plain, Within, Table}
use Rattle.rx_run.specs.Due.{steps_text}
use Rattle.rec_run.specs.Reading.{evaluation_text}
use Rattle.rec_run.proofs.GivenLemmas.{annotations_trees}
use Rattle.rx_run.proofs.NewlineLemmas.{no_ends}
use Rattle.rec_run.proofs.LineEndLemmas.{decimal-newlines, trees-in_line}
use Rattle.rec_run.proofs.SpecLineLemmas.{given_text-newlines}
use Rattle.rec_serve.specs.Conversation.{IsAnswer, IsDue, answer_after, answer_by, answer_to, joined, refusal_line, requests, shown_for, taken}
use Rattle.rec_serve.specs.Laws.{NoWant, OneAnswer, OneLine, SplitLaw}
use Rattle.rec_serve.specs.Replies.{IsWant}
use Rattle.rec_serve.proofs.RequestLemmas.{requests-divided}
use Rattle.rec_run.specs.declared.options.ValueForm.{ValueForm}
use Rattle.rec_serve.specs.declared.ending.Refusal.{Refusal}
use Rattle.rec_serve.specs.declared.ending.Refusal.TheVariants as refusal
use Rattle.rec_serve.specs.declared.settings.ServeSettings.{ServeSettings}
use Rattle.rec_serve.proofs.TakenLemmas.{taken_valid}

-- ---- one answer

same_answer : (y : Spec) (s : ServeSettings) (r a b : List ℕ) → IsAnswer y s r a → IsAnswer y s r b → a ≡ b
same_answer y s r a b (v, h, e) (w, k, f) =
    let one = one_verdict r in
    e ∙ ap (answer_after y s) (one.2 v h ∙ sym (one.2 w k)) ∙ sym f

pub one_answer : OneAnswer
one_answer y s r =
    let one = one_verdict r in
    let a = answer_after y s one.0 in
    (a, (one.0, one.1, refl), λ b h. same_answer y s r b a h (one.0, one.1, refl))

-- ---- one line

-- the line of a given term is its text and a line end
pub line-text : (y : Spec) (s : ServeSettings) (u : Tree)
    → line y (shown_for s) s.options.steps (record { term = term_of u; notes = annotations u })
    ≡ given_text y (shown_for s) s.options.steps u ++ codes "\n"
line-text y s u = by (Eval y s.options.steps [] (term_of u))
  where
    by : (o : Outcome Tree) → ◌≡◌ {A = List ℕ} (elim o [
      | Done v left ↦ value_line (shown_for s) (annotations u) (s.options.steps - left) (annotated v (annotations u)) ++ codes "\n"
      | Over ↦ codes "!limit " ++ decimal s.options.steps ++ codes "\n"
    ]) (evaluation_text (annotations u) (shown_for s) s.options.steps o ++ codes "\n")
    by (Done v left) = refl
    by Over = refl

record InLine (a : List ℕ) : Type 0 where
  text : List ℕ
  is : a ≡ text ++ codes "\n"
  none : newlines text ≡ 0

tree_line : (y : Spec) (s : ServeSettings) (t : Tree) → is_tree t ≡ true → (o : Option ℕ) → InLine (answer_by y s t o)
tree_line y s t valid (Some m) =
    record { text = codes "!term T" ++ decimal m; is = refl; none = no_ends (codes "!term T") (decimal m) refl (decimal-newlines m) }
tree_line y s t valid None =
    let few : s.options.steps < 2 ^ 64 = omega (arith, s.options.steps_in_range) in
    record {
      text = given_text y (shown_for s) s.options.steps t;
      is = line-text y s t;
      none = given_text-newlines y (shown_for s) s.options.steps few t (trees-in_line (annotations t) (annotations_trees t valid));
    }

refusal_in_line : (f : Refusal) → InLine (refusal_line f)
refusal_in_line refusal.Long = record { text = codes "!term L1"; is = refl; none = refl }
refusal_in_line (refusal.Outside at) = record { text = codes "!term A"; is = refl; none = refl }
refusal_in_line refusal.NotTable = record { text = codes "!term R1"; is = refl; none = refl }
refusal_in_line (refusal.Element number) = record { text = codes "!term R2"; is = refl; none = refl }
refusal_in_line (refusal.Rule m) =
    record { text = codes "!term T" ++ decimal m; is = refl; none = no_ends (codes "!term T") (decimal m) refl (decimal-newlines m) }

taken_line : (y : Spec) (s : ServeSettings) (t : Tree) → is_tree t ≡ true → (r : Result Tree Refusal) → taken s.input t ≡ r → InLine (answer_to y s r)
taken_line y s t valid (Ok u) e = tree_line y s u (taken_valid s.input t u valid e) (broken_by_elements y (u ∷ []))
taken_line y s t valid (Err f) e = refusal_in_line f

after_line : (y : Spec) (s : ServeSettings) (r : List ℕ) → IsTrue (list_all (λ b. nat_lt b 256) r) → (v : Verdict) → IsVerdict r v
    → InLine (answer_after y s v)
after_line y s r low TooLong h = refusal_in_line refusal.Long
after_line y s r low (Outside at) h = refusal_in_line (refusal.Outside at)
after_line y s r low (Spelt t) h = taken_line y s t (spelt_valid r t low h.1) (taken s.input t) refl

pub one_line : OneLine
one_line y s r a low (v, h, e) =
    let k = after_line y s r low v h in
    (k.text, e ∙ k.is, k.none)

-- ---- no want

-- a want's first bytes are `!m`, `!c` or `!d`
record BeginsWant (a : List ℕ) : Type 0 where
  first : get_or a 0 0 ≡ 33
  least : 98 < get_or a 1 0
  second : (get_or a 1 0 < 101) ⊎ (get_or a 1 0 ≡ 109)

begins_want : (depth : Option ℕ) (a : List ℕ) → IsWant depth a → BeginsWant a
begins_want depth a (inl e) = let k : get_or a 1 0 ≡ 109 = ap (λ z. get_or z 1 0) e in
    record { first = ap (λ z. get_or z 0 0) e; least = omega (arith, k); second = inr k }
begins_want depth a (inr (inl e)) = let k : get_or a 1 0 ≡ 99 = ap (λ z. get_or z 1 0) e in
    record { first = ap (λ z. get_or z 0 0) e; least = omega (arith, k); second = inl (omega (arith, k)) }
begins_want None a (inr (inr e)) = absurd e
begins_want (Some d) a (inr (inr e)) = let k : get_or a 1 0 ≡ 100 = ap (λ z. get_or z 1 0) e in
    record { first = ap (λ z. get_or z 0 0) e; least = omega (arith, k); second = inl (omega (arith, k)) }

-- another second byte
other_second : (depth : Option ℕ) (a : List ℕ) → (get_or a 1 0 ≡ 116) ⊎ (get_or a 1 0 ≡ 108) → IsWant depth a → ⊥
other_second depth a (inl e) w = elim (begins_want depth a w).second [ inl k ↦ absurd (omega (arith, e, k)) | inr k ↦ absurd (omega (arith, e, k)) ]
other_second depth a (inr e) w = elim (begins_want depth a w).second [ inl k ↦ absurd (omega (arith, e, k)) | inr k ↦ absurd (omega (arith, e, k)) ]

lower_second : (depth : Option ℕ) (a : List ℕ) → get_or a 1 0 ≡ 98 → IsWant depth a → ⊥
lower_second depth a e w = let k = (begins_want depth a w).least in absurd (omega (arith, e, k))

other_first : (depth : Option ℕ) (a : List ℕ) → get_or a 0 0 ≢ 33 → IsWant depth a → ⊥
other_first depth a h w = h (begins_want depth a w).first

-- a letter is no `!`
letter_other : (b : ℕ) → starts_name b ≡ true → b ≢ 33
letter_other b h e = let k : starts_name 33 ≡ true = ap starts_name (sym e) ∙ h in absurd (cc k)

value_first : (v : Tree) (notes : Trees) (rest : List ℕ) → IsApplied v → get_or (canon (annotated v notes) ++ rest) 0 0 ≢ 33
value_first (Appl name true args anns) notes rest h e = absurd (omega (arith, e))
value_first (Appl [] false args anns) notes rest h e = absurd (cc (h.0))
value_first (Appl (b ∷ bs) false args anns) notes rest h e = letter_other b (by (plain_name (b ∷ bs)) refl h.0) e
  where
    by : (p : Bool) → plain_name (b ∷ bs) ≡ p → false ≡ not p → starts_name b ≡ true
    by true k q = (and_parts (starts_name b) (list_all continues_name bs) k).0
    by false k q = absurd (cc q)
value_first (Int z anns) notes rest h e = absurd h
value_first (Items ts anns) notes rest h e = absurd h
value_first (Hole t anns) notes rest h e = absurd h

-- the line of a value, in each form
whole_wants : (depth : Option ℕ) (v : Tree) (notes : Trees) (steps : List ℕ) → IsApplied v
    → IsWant depth ((canon (annotated v notes) ++ steps) ++ codes "\n") → ⊥
whole_wants depth v notes steps a w =
    other_first depth _ (λ k. value_first v notes (steps ++ codes "\n") a
    (ap (λ z. get_or z 0 0) (sym (append_assoc (canon (annotated v notes)) steps (codes "\n"))) ∙ k)) w

-- a list begins with a bracket
list_wants : (depth : Option ℕ) (items : Trees) (steps : List ℕ) → IsWant depth ((canon (list_of items) ++ steps) ++ codes "\n") → ⊥
list_wants depth items steps w = other_first depth _ (λ k. let e : 91 ≡ 33 = k in absurd (omega (arith, e))) w

value_wants : (depth : Option ℕ) (v : Tree) (notes : Trees) (steps : List ℕ) (form : ValueForm) → IsApplied v
    → IsWant depth (value_text Bare notes steps (printed form (annotated v notes)) ++ codes "\n") → ⊥
value_wants depth v notes steps Plain a w = whole_wants depth v notes steps a w
value_wants depth v notes steps Table a w =
    let u = annotated v notes in
    let ps = shared u in
    list_wants depth (from_list (map (entry ps) ps ++ written ps u ∷ [])) steps w
value_wants depth v notes steps (Within most) a w = by (nat_le (length (canon (annotated v notes))) most) w
  where
    by : (b : Bool) → IsWant depth (value_text Bare notes steps (cond b (Whole (canon (annotated v notes))) (Longer most)) ++ codes "\n") → ⊥
    by true w = whole_wants depth v notes steps a w
    by false w = lower_second depth _ refl w

module _ (depth : Option ℕ) (y : Spec) (s : ServeSettings) where
  line_wants : (u : Tree) (o : Outcome Tree) → Eval y s.options.steps [] (term_of u) ≡ o
      → IsWant depth (evaluation_text (annotations u) (shown_for s) s.options.steps o ++ codes "\n") → ⊥
  line_wants u (Done v left) e w =
      value_wants depth v (annotations u) (steps_text s.options.count (s.options.steps - left)) s.form
      (value_is_applied y s.options.steps (term_of u) v left e) w
  line_wants u Over e w = other_second depth _ (inr refl) w

  tree_wants : (t : Tree) (o : Option ℕ) → IsWant depth (answer_by y s t o) → ⊥
  tree_wants t (Some m) w = other_second depth _ (inl refl) w
  tree_wants t None w = line_wants t (Eval y s.options.steps [] (term_of t)) refl (subst (IsWant depth) (line-text y s t) w)

  refusal_wants : (f : Refusal) → IsWant depth (refusal_line f) → ⊥
  refusal_wants refusal.Long w = other_second depth _ (inl refl) w
  refusal_wants (refusal.Outside at) w = other_second depth _ (inl refl) w
  refusal_wants refusal.NotTable w = other_second depth _ (inl refl) w
  refusal_wants (refusal.Element number) w = other_second depth _ (inl refl) w
  refusal_wants (refusal.Rule m) w = other_second depth _ (inl refl) w

  taken_wants : (r : Result Tree Refusal) → IsWant depth (answer_to y s r) → ⊥
  taken_wants (Ok t) w = tree_wants t (broken_by_elements y (t ∷ [])) w
  taken_wants (Err f) w = refusal_wants f w

  after_wants : (v : Verdict) → IsWant depth (answer_after y s v) → ⊥
  after_wants TooLong w = refusal_wants refusal.Long w
  after_wants (Outside at) w = refusal_wants (refusal.Outside at) w
  after_wants (Spelt t) w = taken_wants (taken s.input t) w

pub no_want : NoWant
no_want y s r a (v, h, e) w = after_wants s.depth y s v (subst (IsWant s.depth) e w)

-- ---- what is due

-- of two lists one behind the other
pub pairwise_both : {X Y : Type 0} (P : X → Y → Type 0) (xs us : List X) (ys vs : List Y) → Pairwise P xs ys → Pairwise P us vs
    → Pairwise P (xs ++ us) (ys ++ vs)
pairwise_both P [] us [] vs h k = k
pairwise_both P [] us (y ∷ ys) vs h k = absurd h
pairwise_both P (x ∷ xs) us [] vs h k = absurd h
pairwise_both P (x ∷ xs) us (y ∷ ys) vs h k = (h.0, pairwise_both P xs us ys vs h.1 k)

pub joined-append : (xs ys : List (List ℕ)) → joined (xs ++ ys) ≡ joined xs ++ joined ys
joined-append [] ys = refl
joined-append (x ∷ xs) ys = ap (λ z. x ++ z) (joined-append xs ys) ∙ sym (append_assoc x (joined xs) (joined ys))

due_both : (y : Spec) (s : ServeSettings) (rs ss : List (List ℕ)) (a b : List ℕ) → IsDue y s rs a → IsDue y s ss b
    → IsDue y s (rs ++ ss) (a ++ b)
due_both y s rs ss a b h k = record {
  answers = h.answers ++ k.answers;
  each = pairwise_both (IsAnswer y s) rs ss h.answers k.answers h.each k.each;
  all = ap₂ (λ x z. x ++ z) h.all k.all ∙ sym (joined-append h.answers k.answers);
}

same_answers : (y : Spec) (s : ServeSettings) (rs xs ys : List (List ℕ)) → Pairwise (IsAnswer y s) rs xs
    → Pairwise (IsAnswer y s) rs ys → xs ≡ ys
same_answers y s [] [] [] h k = refl
same_answers y s [] [] (b ∷ ys) h k = absurd k
same_answers y s [] (a ∷ xs) ys h k = absurd h
same_answers y s (r ∷ rs) [] ys h k = absurd h
same_answers y s (r ∷ rs) (a ∷ xs) [] h k = absurd k
same_answers y s (r ∷ rs) (a ∷ xs) (b ∷ ys) h k = ap₂ (λ z zs. z ∷ zs) (same_answer y s r a b h.0 k.0)
    (same_answers y s rs xs ys h.1 k.1)

one_due : (y : Spec) (s : ServeSettings) (rs : List (List ℕ)) (a b : List ℕ) → IsDue y s rs a → IsDue y s rs b → a ≡ b
one_due y s rs a b h k = h.all ∙ ap joined (same_answers y s rs h.answers k.answers h.each k.each) ∙ sym k.all

pub split_law_lem : SplitLaw
split_law_lem = record {
  streams = λ front rest. ap requests (append_assoc front (10 ∷ []) rest) ∙ requests-divided front rest;
  due = due_both;
  one = one_due;
}

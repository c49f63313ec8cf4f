-- Which rules rewrite a term, by the symbols with which their left sides begin.
use Rattle.std.proofs.Common.{refl, sym, ap, subst, arith, ◌∙◌, append_assoc, length-append, take, drop, inl, inr}
use Rattle.std.proofs.lemmas.List.{append-nil, length-map, reverse-append, take_all, take_more}
use Rattle.std.proofs.lemmas.List.Concat.{flat_map-append}
use Rattle.std.proofs.lemmas.Bool.{cases_lt}
use Rattle.std.specs.Prelude.{ℕ, zero, suc, ◌≡◌, ◌≤◌, ◌<◌, ◌+◌, ◌-◌, ◌⊎◌, Bool, true, false, All, Contains, List, [], ◌∷◌}
use Rattle.std.specs.Prelude.{◌++◌, Option, Some, None, cond, flat_map, get_or, is_some, length, map, reverse, slice_get}
use Rattle.rx_term.specs.Tree.{Trees}
use Rattle.rec_syntax.specs.Tokens.{Word}
use Rattle.rec_syntax.specs.Syntax.{Term, Terms, Apply, none, more, Condition, Rule, Spec, head, arguments, subterms, subterms_all}
use Rattle.rec_syntax.specs.Nodes.{Node, flat, flat_all, term_count}
use Rattle.rec_sorts.specs.Lookup.{count, is_variable, symbols, variable_words}
use Rattle.rec_sorts.specs.Binding.{Substitution, binds, tree_of}
use Rattle.rec_sorts.specs.Numbering.{AreLetters, IsMeaning, Named, name_of, named, named_all, named_by}
use Rattle.rec_sorts.specs.SpecRules.{fault}
use Rattle.rec_sorts.specs.declared.letters.Letter.{Letter}
use Rattle.rec_sorts.specs.declared.letters.Meaning.TheVariants.{Symbol, Variable}
use Rattle.rec_match.specs.Inner.Asking.{stack_on}
use Rattle.rec_match.specs.Bound.{bound, goes_on, opened}
use Rattle.rec_match.specs.Inner.Built.{AreHeads, IsHead}
use Rattle.rec_match.specs.Inner.Chains.{IsNext}
use Rattle.rec_match.proofs.BoundLemmas.{opened_is}
use Rattle.rec_match.proofs.FactLemmas.{facts, variable_is_one}
use Rattle.rec_match.proofs.LetterLemmas.{every-at}
use Rattle.rec_check.specs.Findings.{Found, HasSame, found_by, found_on, never_matching, never_matching_in, never_tried}
use Rattle.rec_check.specs.Inner.Inside.{never_matching_inside}
use Rattle.rec_check.specs.Rewriting.{IsFirstWord, postorder, postorder_all, rewrites, rewritten_by}
use Rattle.rec_check.specs.Inner.Trials.{asked}
use Rattle.rec_check.specs.declared.finding.Kind.{Kind}
use Rattle.rec_check.specs.declared.finding.Kind.TheVariants.{NeverMatches, NeverTried}
use Rattle.rec_check.proofs.BackLemmas.{asked_binds}
use Rattle.rec_check.proofs.CountLemmas.{same-append, same-of, same-trans, same-swap}
use Rattle.rec_check.proofs.TrialLemmas.{All-last, AreMeant, left_bare, some_last, some_names, tree_name}
use Rattle.rec_check.specs.Findings.{as_diagnostic, as_diagnostics}
use Rattle.rec_check.specs.Inner.Rewriters.{IsRewriter}
use Rattle.rec_check.specs.declared.rewriting.Rewriter.{Rewriter}
use Rattle.rec_syntax.specs.Parts.{rule_of, term_of}
use Rattle.rec_syntax.specs.declared.parts.Rule as parts
use Rattle.std.proofs.Common.{Err, Global, Ok, Result, Vec}
use Rattle.std.specs.Prelude.{IfOk}
use Rattle.std.proofs.lemmas.List.{get_or_default}
use Rattle.rec_check.specs.Named.{as_node, as_nodes, as_word, as_words, node_words}
use Rattle.rec_check.specs.declared.located.Counted.{Counted}
use Rattle.std.proofs.lemmas.List.{take-map}
use Rattle.rec_check.specs.Spots.{spot_of, spot_shown}
use Rattle.rec_check.specs.declared.finding.Diagnostic.{Diagnostic}
use Rattle.rec_check.specs.declared.located.Word as seen
use Rattle.rec_sorts.proofs.KeptLemmas.{left_sides_apply}
use Rattle.rec_check.specs.declared.spots.Spot.{Spot}
use Rattle.rec_match.proofs.LetterLemmas.{pair-long}
use Rattle.rec_sorts.specs.Numbering.{IsLetterCondition, IsLetterRule, Pairwise}
use Rattle.rec_sorts.specs.declared.letters.LetterCondition.{LetterCondition}
use Rattle.rec_sorts.specs.declared.letters.LetterRule.{LetterRule}
use Rattle.std.proofs.lemmas.List.{drop-map, map-append}
use Rattle.std.proofs.lemmas.List.Elements.{All-drop}
use Rattle.std.proofs.Math.Seq.{drop-append_seam}

-- ---- rules of other symbols

-- a left side that begins with a symbol matches no term that begins with another word
pub apart_binds : (y : Spec) → fault y ≡ None → (r : Rule) → Contains y.rules r → (k : ℕ) → k < length (symbols y)
    → (head r.left).bytes ≡ name_of y (Symbol k) → (t : Term) → ((head r.left).bytes ≡ (head t).bytes → ⊥) → is_some (binds y r.left (tree_of t)) ≡ false
apart_binds y kept r there k lt is t apart = sym (asked_binds y r.left (tree_of t) (left_bare y kept r there)) ∙ ap is_some (by_left r.left t is apart)
  where
    by_left : (l t : Term) → (head l).bytes ≡ name_of y (Symbol k) → ((head l).bytes ≡ (head t).bytes → ⊥)
        → asked y (reverse (named l)) (tree_of t ∷ []) [] ≡ None
    by_left (Apply w ts) (Apply v us) is apart =
        ap (λ ns. asked y ns (tree_of (Apply v us) ∷ []) []) (reverse-append (named_all ts) (own ∷ []))
        ∙ ap at (ap (is_variable y) is ∙ (facts y kept).symbol_is_none k lt)
        ∙ none_opens (opened w.bytes (count ts) (tree_of (Apply v us))) refl
      where
        own : Named
        own = record { name = w.bytes; arguments = count ts }

        later : Trees → Option Substitution
        later vs = asked y (reverse (named_all ts)) (stack_on vs []) []

        at : Bool → Option Substitution
        at b = elim b [
          | true ↦ goes_on (bound [] w.bytes (tree_of (Apply v us))) (λ r. asked y (reverse (named_all ts)) [] r)
          | false ↦ goes_on (opened w.bytes (count ts) (tree_of (Apply v us))) later
        ]

        none_opens : (o : Option Trees) → opened w.bytes (count ts) (tree_of (Apply v us)) ≡ o → goes_on o later ≡ None
        none_opens None e = refl
        none_opens (Some vs) e = absurd (apart (ap tree_name (opened_is w.bytes (count ts) (tree_of (Apply v us)) vs e).0))

no_conditions : (y : Spec) (r : Rule) (t : Term) → is_some (binds y r.left (tree_of t)) ≡ false → rewrites y r t ≡ false
no_conditions y r t e = by r.conditions
  where
    by : (cs : List Condition) → (elim cs as (λ _. Bool) [ [] ↦ is_some (binds y r.left (tree_of t)) | c ∷ cs ↦ false ]) ≡ false
    by [] = e
    by (c ∷ cs) = refl

-- the rule of a number
pub rule_there : {A : Type 0} (xs : List A) (i : ℕ) (d : A) → i < length xs → Contains xs (get_or xs i d)
rule_there xs i d lt = (i, lt, slot xs i d lt)
  where
    slot : {A : Type 0} (xs : List A) (i : ℕ) (d : A) → i < length xs → get_or xs i (get_or xs i d) ≡ get_or xs i d
    slot [] i d lt = absurd (let nothing : ⊥ = omega (arith, lt) in nothing)
    slot (x ∷ xs) zero d lt = refl
    slot (x ∷ xs) (suc i) d lt = slot xs i d (omega (arith, lt))

apart_rewrites : (y : Spec) → fault y ≡ None → (fs : List ℕ) → AreHeads y fs → (i : ℕ) (d : Rule) → i < length y.rules → (t : Term)
    → (name_of y (Symbol (get_or fs i 0)) ≡ (head t).bytes → ⊥) → rewrites y (get_or y.rules i d) t ≡ false
apart_rewrites y kept fs heads i d lt t apart =
    let h = heads.each i d lt in
    no_conditions y (get_or y.rules i d) t (apart_binds y kept (get_or y.rules i d) (rule_there y.rules i d lt) (get_or fs i 0) h.declared h.head t
    (λ e. apart (sym h.head ∙ e)))

-- ---- the first rule that rewrites

-- no rule before a place does
abbrev pub NoneBefore : Spec → Term → ℕ → Type 0
NoneBefore y t n = (i : ℕ) (d : Rule) → i < n → i < length y.rules → rewrites y (get_or y.rules i d) t ≡ false

none_first : (y : Spec) (t : Term) (rs : List Rule) → ((i : ℕ) (d : Rule) → i < length rs → rewrites y (get_or rs i d) t ≡ false) → rewritten_by y rs t ≡ None
none_first y t [] h = refl
none_first y t (r ∷ rs) h = ap at (h zero r (omega arith)) ∙ none_first y t rs (λ i d lt. h (suc i) d (omega (arith, lt)))
  where
    at : Bool → Option Word
    at b = cond b (Some (head r.left)) (rewritten_by y rs t)

one_first : (y : Spec) (t : Term) (rs : List Rule) (n : ℕ) → n < length rs → ((i : ℕ) (d : Rule) → i < n → rewrites y (get_or rs i d) t ≡ false)
    → (d : Rule) → rewrites y (get_or rs n d) t ≡ true → rewritten_by y rs t ≡ Some (head (get_or rs n d).left)
one_first y t [] n lt h d e = absurd (let nothing : ⊥ = omega (arith, lt) in nothing)
one_first y t (r ∷ rs) zero lt h d e = ap (λ (b : Bool). cond b (Some (head r.left)) (rewritten_by y rs t)) e
one_first y t (r ∷ rs) (suc n) lt h d e =
    ap (λ (b : Bool). cond b (Some (head r.left)) (rewritten_by y rs t)) (h zero r (omega arith))
    ∙ one_first y t rs n (omega (arith, lt)) (λ i d l. h (suc i) d (omega (arith, l))) d e

get_or-take : {A : Type 0} (xs : List A) (n i : ℕ) (d : A) → i < n → get_or (take n xs) i d ≡ get_or xs i d
get_or-take [] zero i d lt = refl
get_or-take [] (suc n) i d lt = refl
get_or-take (x ∷ xs) zero i d lt = absurd (let nothing : ⊥ = omega (arith, lt) in nothing)
get_or-take (x ∷ xs) (suc n) zero d lt = refl
get_or-take (x ∷ xs) (suc n) (suc i) d lt = get_or-take xs n i d (omega (arith, lt))

length-take-of : {A : Type 0} (xs : List A) (n : ℕ) → n ≤ length xs → length (take n xs) ≡ n
length-take-of xs zero le = refl
length-take-of [] (suc n) le = absurd (let nothing : ⊥ = omega (arith, le) in nothing)
length-take-of (x ∷ xs) (suc n) le = ap suc (length-take-of xs n (omega (arith, le)))

pub no_rule : (y : Spec) (t : Term) (at before : ℕ) → before ≤ length y.rules → before ≤ at → NoneBefore y t at → rewritten_by y (take before y.rules) t ≡ None
no_rule y t at before within le h = none_first y t (take before y.rules) (λ i d lt.
    let long = length-take-of y.rules before within in
    subst (λ r. rewrites y r t ≡ false) (sym (get_or-take y.rules before i d (omega (arith, lt, long))))
    (h i d (omega (arith, lt, long, le)) (omega (arith, lt, long, within))))

pub this_rule : (y : Spec) (t : Term) (at before : ℕ) (d : Rule) → before ≤ length y.rules → at < before → NoneBefore y t at
    → rewrites y (get_or y.rules at d) t ≡ true → IsFirstWord y (Some at) (rewritten_by y (take before y.rules) t)
this_rule y t at before d within lt h e =
    let long = length-take-of y.rules before within in
    let same : get_or (take before y.rules) at d ≡ get_or y.rules at d = get_or-take y.rules before at d lt in (
      get_or y.rules at d,
      there y.rules at d (omega (arith, lt, within)),
      one_first y t (take before y.rules) at (omega (arith, lt, long)) (λ i c l.
          subst (λ r. rewrites y r t ≡ false) (sym (get_or-take y.rules before i c (omega (arith, l, lt)))) (h i c l (omega (arith, l, lt, within))))
          d (subst (λ r. rewrites y r t ≡ true) (sym same) e)
          ∙ ap (λ (r : Rule). Some (head r.left)) same,
    )
  where
    there : {A : Type 0} (xs : List A) (i : ℕ) (d : A) → i < length xs → slice_get xs i ≡ Some (get_or xs i d)
    there [] i d lt = absurd (let nothing : ⊥ = omega (arith, lt) in nothing)
    there (x ∷ xs) zero d lt = refl
    there (x ∷ xs) (suc i) d lt = there xs i d (omega (arith, lt))

-- ---- along a symbol's chain

module _ (y : Spec) (kept : fault y ≡ None) (fs : List ℕ) (heads : AreHeads y fs) where
  -- a rule of another symbol does not
  other_symbol : (k : ℕ) → k < length (symbols y) → (t : Term) → (head t).bytes ≡ name_of y (Symbol k) → (i : ℕ) (d : Rule) → i < length y.rules
      → (get_or fs i 0 ≡ k → ⊥) → rewrites y (get_or y.rules i d) t ≡ false
  other_symbol k lt t is i d below apart =
      let h = heads.each i d below in
      apart_rewrites y kept fs heads i d below t (λ e. apart ((facts y kept).symbols_differ (get_or fs i 0) k h.declared lt (e ∙ is)))

  -- no rule before the first of a symbol does
  pub none_start : (k from at : ℕ) → k < length (symbols y) → (t : Term) → (head t).bytes ≡ name_of y (Symbol k) → IsNext fs k from at
      → NoneBefore y t from → NoneBefore y t at
  none_start k from at lt t is next before i d below there = by (cases_lt i from)
    where
      by : (i < from) ⊎ (from ≤ i) → rewrites y (get_or y.rules i d) t ≡ false
      by (inl early) = before i d early there
      by (inr late) = other_symbol k lt t is i d there (λ e. next.none i late below e)

  pub none_next : (k at after : ℕ) → k < length (symbols y) → (t : Term) → (head t).bytes ≡ name_of y (Symbol k) → IsNext fs k (suc at) after
      → ((d : Rule) → at < length y.rules → rewrites y (get_or y.rules at d) t ≡ false) → NoneBefore y t at → NoneBefore y t after
  none_next k at after lt t is next own before = none_start k (suc at) after lt t is next up_to
    where
      up_to : NoneBefore y t (suc at)
      up_to i d below there = by (cases_lt i at)
        where
          by : (i < at) ⊎ (at ≤ i) → rewrites y (get_or y.rules i d) t ≡ false
          by (inl early) = before i d early there
          by (inr late) = let same : at ≡ i = omega (arith, late, below) in
              subst (λ j. rewrites y (get_or y.rules j d) t ≡ false) same (own d (omega (arith, same, there)))

  -- no rule rewrites a variable
  pub none_variable : (x : ℕ) → x < length (variable_words y.variables) → (t : Term) → (head t).bytes ≡ name_of y (Variable x) → (n : ℕ)
      → n ≤ length y.rules → rewritten_by y (take n y.rules) t ≡ None
  none_variable x lt t is n within = no_rule y t n n within (omega arith) (λ i d below there.
      let h = heads.each i d there in
      apart_rewrites y kept fs heads i d there t (λ e. cc (sym ((facts y kept).symbol_is_none (get_or fs i 0) h.declared)
      ∙ ap (is_variable y) (e ∙ is) ∙ variable_is_one y x lt)))

-- ---- terms inside a term

-- the last name of a term is its head's
pub last_name : (ms : List Named) (t : Term) → ms ++ named t ≡ (ms ++ named_all (arguments t)) ++ record {
  name = (head t).bytes;
  arguments =
      count (arguments t);
} ∷ []
last_name ms (Apply w ts) = sym (append_assoc ms (named_all ts) (record { name = w.bytes; arguments = count ts } ∷ []))

abbrev pub EndsIn : List Named → Term → Type 0
EndsIn ms t = (ns : List Named) × (ms ≡ ns ++ named t)

take-left : {A : Type 0} (n : ℕ) (xs ys : List A) → n ≤ length xs → take n (xs ++ ys) ≡ take n xs
take-left zero xs ys le = refl
take-left (suc n) [] ys le = absurd (let nothing : ⊥ = omega (arith, le) in nothing)
take-left (suc n) (x ∷ xs) ys le = ap (λ zs. x ∷ zs) (take-left n xs ys (omega (arith, le)))

take-right : {A : Type 0} (n : ℕ) (xs ys : List A) → length xs ≤ n → take n (xs ++ ys) ≡ xs ++ take (n - length xs) ys
take-right n [] ys le = ap (λ (k : ℕ). take k ys) (omega arith)
take-right zero (x ∷ xs) ys le = absurd (let nothing : ⊥ = omega (arith, le) in nothing)
take-right (suc n) (x ∷ xs) ys le = ap (λ zs. x ∷ zs) (take-right n xs ys (omega (arith, le)) ∙ ap (λ (k : ℕ). xs ++ take k ys) (omega (arith, le)))

get-left : {A : Type 0} (xs ys : List A) (i : ℕ) (d : A) → i < length xs → get_or (xs ++ ys) i d ≡ get_or xs i d
get-left [] ys i d lt = absurd (let nothing : ⊥ = omega (arith, lt) in nothing)
get-left (x ∷ xs) ys zero d lt = refl
get-left (x ∷ xs) ys (suc i) d lt = get-left xs ys i d (omega (arith, lt))

get-right : {A : Type 0} (xs ys : List A) (i : ℕ) (d : A) → length xs ≤ i → get_or (xs ++ ys) i d ≡ get_or ys (i - length xs) d
get-right [] ys i d le = ap (λ (k : ℕ). get_or ys k d) (omega arith)
get-right (x ∷ xs) ys zero d le = absurd (let nothing : ⊥ = omega (arith, le) in nothing)
get-right (x ∷ xs) ys (suc i) d le = get-right xs ys i d (omega (arith, le)) ∙ ap (λ (k : ℕ). get_or ys k d) (omega (arith, le))

mutual
  pub length-postorder : (t : Term) → length (postorder t) ≡ length (named t)
  length-postorder (Apply w ts) =
      let e = length-postorder_all ts in
      let a = length-append (postorder_all ts) (Apply w ts ∷ []) in
      let b = length-append (named_all ts) (record { name = w.bytes; arguments = count ts } ∷ []) in
      omega (arith, e, a, b)

  pub length-postorder_all : (ts : Terms) → length (postorder_all ts) ≡ length (named_all ts)
  length-postorder_all none = refl
  length-postorder_all (more t ts) =
      let e = length-postorder t in
      let f = length-postorder_all ts in
      let a = length-append (postorder t) (postorder_all ts) in
      let b = length-append (named t) (named_all ts) in
      omega (arith, e, f, a, b)

end_of : (w : Word) (ts : Terms) (i : ℕ) (d : Term) → i < length (named (Apply w ts)) → (i < length (named_all ts)) ⊎ (length (named_all ts) ≤ i)
    → (i < length (named_all ts) → EndsIn (take (i + 1) (named_all ts)) (get_or (postorder_all ts) i d))
    → EndsIn (take (i + 1) (named (Apply w ts))) (get_or (postorder (Apply w ts)) i d)
end_of w ts i d lt (inl inside) inner =
    let last : Named = record { name = w.bytes; arguments = count ts } in
    let e = inner inside in
    let l = length-postorder_all ts in (
      e.0,
      take-left (i + 1) (named_all ts) (last ∷ []) (omega (arith, inside)) ∙ e.1
          ∙ ap (λ t. e.0 ++ named t) (sym (get-left (postorder_all ts) (Apply w ts ∷ []) i d (omega (arith, inside, l)))),
    )
end_of w ts i d lt (inr end) inner =
    let last : Named = record { name = w.bytes; arguments = count ts } in
    let long = length-append (named_all ts) (last ∷ []) in
    let is : i ≡ length (named_all ts) = omega (arith, end, lt, long) in
    let l = length-postorder_all ts in
    let here : get_or (postorder (Apply w ts)) i d ≡ Apply w ts =
    get-right (postorder_all ts) (Apply w ts ∷ []) i d (omega (arith, l, is))
    ∙ ap (λ (k : ℕ). get_or (Apply w ts ∷ []) k d) (let z : i - length (postorder_all ts) ≡ 0 = omega (arith, l, is) in z) in (
      [],
      take_all (i + 1) (named (Apply w ts)) (omega (arith, is, long)) ∙ ap named (sym here),
    )

end_of_all : (t : Term) (ts : Terms) (i : ℕ) (d : Term) → i < length (named_all (more t ts)) → (i < length (named t)) ⊎ (length (named t) ≤ i)
    → (i < length (named t) → EndsIn (take (i + 1) (named t)) (get_or (postorder t) i d))
    → (i - length (named t) < length (named_all ts) → EndsIn (take ((i - length (named t)) + 1) (named_all ts))
    (get_or (postorder_all ts) (i - length (named t)) d)) → EndsIn (take (i + 1) (named_all (more t ts))) (get_or (postorder_all (more t ts)) i d)
end_of_all t ts i d lt (inl first) inner others =
    let e = inner first in
    let l = length-postorder t in (
      e.0,
      take-left (i + 1) (named t) (named_all ts) (omega (arith, first)) ∙ e.1
          ∙ ap (λ u. e.0 ++ named u) (sym (get-left (postorder t) (postorder_all ts) i d (omega (arith, first, l)))),
    )
end_of_all t ts i d lt (inr later) inner others =
    let long = length-append (named t) (named_all ts) in
    let e = others (omega (arith, later, lt, long)) in
    let l = length-postorder t in (
      named t ++ e.0,
      take-right (i + 1) (named t) (named_all ts) (omega (arith, later))
          ∙ ap (λ (k : ℕ). named t ++ take k (named_all ts)) (let z : (i + 1) - length (named t) ≡ (i - length (named t)) + 1 = omega (arith, later) in z)
          ∙ ap (λ ns. named t ++ ns) e.1
          ∙ sym (append_assoc (named t) e.0 (named (get_or (postorder_all ts) (i - length (named t)) d)))
          ∙ ap (λ u. (named t ++ e.0) ++ named u) (sym (get-right (postorder t) (postorder_all ts) i d (omega (arith, later, l))
          ∙ ap (λ (k : ℕ). get_or (postorder_all ts) k d) (let z : i - length (postorder t) ≡ i - length (named t) = omega (arith, l) in z))),
    )

mutual
  -- the names up to a place end in those of the term that ends there
  pub ends_in : (t : Term) (i : ℕ) (d : Term) → i < length (named t) → EndsIn (take (i + 1) (named t)) (get_or (postorder t) i d)
  ends_in (Apply w ts) i d lt = end_of w ts i d lt (cases_lt i (length (named_all ts))) (λ inside. ends_in_all ts i d inside)

  pub ends_in_all : (ts : Terms) (i : ℕ) (d : Term) → i < length (named_all ts) → EndsIn (take (i + 1) (named_all ts)) (get_or (postorder_all ts) i d)
  ends_in_all none i d lt = absurd (let nothing : ⊥ = omega (arith, lt) in nothing)
  ends_in_all (more t ts) i d lt = end_of_all t ts i d lt (cases_lt i (length (named t))) (λ first. ends_in t i d first) (λ later.
      ends_in_all ts (i - length (named t)) d later)

-- the words of nodes are the first ones of terms
mutual
  pub flat_heads : (t : Term) → map (λ (n : Node). n.word) (flat t) ≡ map head (postorder t)
  flat_heads (Apply w ts) = map-append (λ (n : Node). n.word) (flat_all ts) (record { word = w; count = term_count ts } ∷ [])
      ∙ ap (λ ws. ws ++ w ∷ []) (flat_heads_all ts) ∙ sym (map-append head (postorder_all ts) (Apply w ts ∷ []))

  pub flat_heads_all : (ts : Terms) → map (λ (n : Node). n.word) (flat_all ts) ≡ map head (postorder_all ts)
  flat_heads_all none = refl
  flat_heads_all (more t ts) = map-append (λ (n : Node). n.word) (flat t) (flat_all ts)
      ∙ ap (λ ws. ws ++ map (λ (n : Node). n.word) (flat_all ts)) (flat_heads t) ∙ ap (λ ws. map head (postorder t) ++ ws) (flat_heads_all ts)
      ∙ sym (map-append head (postorder t) (postorder_all ts))

-- what terms inside give, in the one order and in the other
module _ {X : Type 0} (f : Term → List X) where
  mutual
    same_inside : (t : Term) → HasSame (flat_map f (subterms t)) (flat_map f (postorder t))
    same_inside (Apply w ts) =
        let own : List X = f (Apply w ts) in
        let before : List X = flat_map f (subterms_all ts) in
        let behind : List X = flat_map f (postorder_all ts) in
        let joined : flat_map f (postorder_all ts ++ Apply w ts ∷ []) ≡ behind ++ own =
        flat_map-append f (postorder_all ts) (Apply w ts ∷ []) ∙ ap (λ xs. behind ++ xs) (append-nil own) in
        same-trans (own ++ before) (before ++ own) (flat_map f (postorder_all ts ++ Apply w ts ∷ [])) (same-swap own before)
        (same-trans (before ++ own) (behind ++ own) (flat_map f (postorder_all ts ++ Apply w ts ∷ []))
        (same-append before own behind own (same_inside_all ts) (same-of own own refl))
        (same-of (behind ++ own) (flat_map f (postorder_all ts ++ Apply w ts ∷ [])) (sym joined)))

    pub same_inside_all : (ts : Terms) → HasSame (flat_map f (subterms_all ts)) (flat_map f (postorder_all ts))
    same_inside_all none = same-of [] [] refl
    same_inside_all (more t ts) =
        same-trans (flat_map f (subterms t ++ subterms_all ts)) (flat_map f (subterms t) ++ flat_map f (subterms_all ts))
        (flat_map f (postorder t ++ postorder_all ts))
        (same-of (flat_map f (subterms t ++ subterms_all ts)) (flat_map f (subterms t) ++ flat_map f (subterms_all ts))
        (flat_map-append f (subterms t) (subterms_all ts)))
        (same-trans (flat_map f (subterms t) ++ flat_map f (subterms_all ts)) (flat_map f (postorder t) ++ flat_map f (postorder_all ts))
        (flat_map f (postorder t ++ postorder_all ts))
        (same-append (flat_map f (subterms t)) (flat_map f (subterms_all ts)) (flat_map f (postorder t)) (flat_map f (postorder_all ts))
        (same_inside t) (same_inside_all ts))
        (same-of (flat_map f (postorder t) ++ flat_map f (postorder_all ts)) (flat_map f (postorder t ++ postorder_all ts))
        (sym (flat_map-append f (postorder t) (postorder_all ts)))))

-- ---- letters of a term among letters

-- the letters of the last one of some terms
pub last_letters : (y : Spec) (ms : List Named) (t : Term) (letters : List Letter) (n : ℕ) → All (λ l. IsMeaning y l.meaning) letters
    → map (named_by y) letters ≡ ms ++ named t → n ≡ length ms → AreLetters y (drop n letters) t
last_letters y ms t letters n meant e is = (
  All-drop (λ (l : Letter). IsMeaning y l.meaning) n letters meant,
  sym (drop-map (named_by y) n letters) ∙ ap (λ ns. drop n ns) e ∙ ap (λ (i : ℕ). drop i (ms ++ named t)) is ∙ drop-append_seam ms (named t),
)

-- the last letter is the head's
pub last_is : (y : Spec) (ms : List Named) (t : Term) (front letters : List Letter) (l : Letter) → letters ≡ front ++ l ∷ []
    → map (named_by y) letters ≡ ms ++ named t → (head t).bytes ≡ name_of y l.meaning
last_is y ms t front letters l split e =
    let k = some_last (map (named_by y) front) (ms ++ named_all (arguments t)) (named_by y l)
    (record { name = (head t).bytes; arguments = count (arguments t) })
    (sym (map-append (named_by y) front (l ∷ [])) ∙ ap (map (named_by y)) (sym split) ∙ e ∙ last_name ms t) in
    ap (λ (m : Named). m.name) (sym k.1)

pub no_last : (y : Spec) (ms : List Named) (t : Term) (letters : List Letter) → length letters ≡ 0 → map (named_by y) letters ≡ ms ++ named t → ⊥
no_last y ms t letters empty e =
    let long = some_names t in
    let both = length-append ms (named t) in
    let nothing : length (ms ++ named t) ≡ 0 = ap length (sym e) ∙ length-map letters (named_by y) ∙ empty in
    omega (arith, long, both, nothing)

-- ---- conditions

conditions_long : (y : Spec) (xs : List LetterCondition) (cs : List Condition) → Pairwise (IsLetterCondition y) xs cs → length xs ≡ length cs
conditions_long y xs cs h = pair-long (IsLetterCondition y) xs cs h

pub rewrites_bare : (y : Spec) (x : LetterRule) (r : Rule) (t : Term) (b : Bool) → IsLetterRule y x r → length x.conditions.items ≡ 0
    → b ≡ is_some (binds y r.left (tree_of t)) → b ≡ rewrites y r t
rewrites_bare y x r t b h empty e = by r.conditions (sym (conditions_long y x.conditions.items r.conditions h.2) ∙ empty)
  where
    by : (cs : List Condition) → length cs ≡ 0 → b ≡ (elim cs as (λ _. Bool) [ [] ↦ is_some (binds y r.left (tree_of t)) | c ∷ cs ↦ false ])
    by [] l = e
    by (c ∷ cs) l = absurd (let nothing : ⊥ = omega (arith, l) in nothing)

pub rewrites_never : (y : Spec) (x : LetterRule) (r : Rule) (t : Term) → IsLetterRule y x r → 0 < length x.conditions.items → false ≡ rewrites y r t
rewrites_never y x r t h some = by r.conditions (conditions_long y x.conditions.items r.conditions h.2)
  where
    by : (cs : List Condition) → length x.conditions.items ≡ length cs
        → false ≡ (elim cs as (λ _. Bool) [ [] ↦ is_some (binds y r.left (tree_of t)) | c ∷ cs ↦ false ])
    by [] l = absurd (let nothing : ⊥ = omega (arith, l, some) in nothing)
    by (c ∷ cs) l = refl

-- ---- what is found

pub spot_at : (f : Rule → Spot) (rs : List Rule) (spots : List Spot) (i : ℕ) (d : Spot) (r : Rule) → spots ≡ map f rs → i < length rs
    → slice_get rs i ≡ Some r → get_or spots i d ≡ f r
spot_at f rs spots i d r e lt is = ap (λ xs. get_or xs i d) e ∙ by rs i lt is
  where
    by : (rs : List Rule) (i : ℕ) → i < length rs → slice_get rs i ≡ Some r → get_or (map f rs) i d ≡ f r
    by [] i lt is = absurd (let nothing : ⊥ = omega (arith, lt) in nothing)
    by (q ∷ rs) zero lt is = let same : q ≡ r = cc is in ap f same
    by (q ∷ rs) (suc i) lt is = by rs i (omega (arith, lt)) is

module _ (text : List ℕ) (y : Spec) where
  -- one rule more
  pub tried_more : (before rs : List Rule) (r : Rule) → never_tried text y before (rs ++ r ∷ []) ≡ never_tried text y before rs ++ found_by NeverTried
      text (head r.left) (rewritten_by y (before ++ rs) r.left)
  tried_more before [] r = append-nil (found_by NeverTried text (head r.left) (rewritten_by y before r.left))
      ∙ ap (λ bs. found_by NeverTried text (head r.left) (rewritten_by y bs r.left)) (sym (append-nil before))
  tried_more before (q ∷ rs) r =
      let own : List Found = found_by NeverTried text (head q.left) (rewritten_by y before q.left) in
      ap (λ fs. own ++ fs) (tried_more (before ++ q ∷ []) rs r)
      ∙ sym (append_assoc own (never_tried text y (before ++ q ∷ []) rs)
      (found_by NeverTried text (head r.left) (rewritten_by y ((before ++ q ∷ []) ++ rs) r.left)))
      ∙ ap (λ bs. (own ++ never_tried text y (before ++ q ∷ []) rs) ++ found_by NeverTried text (head r.left) (rewritten_by y bs r.left))
      (append_assoc before (q ∷ []) rs)

  pub tried_turn : (i : ℕ) (d : Rule) (w : Word) (o : Option Word) (old now new : List Found) → i < length y.rules
      → w ≡ head (get_or y.rules i d).left → o ≡ rewritten_by y (take i y.rules) (get_or y.rules i d).left
      → now ≡ old ++ never_tried text y [] (take i y.rules) → new ≡ now ++ found_by NeverTried text w o
      → new ≡ old ++ never_tried text y [] (take (i + 1) y.rules)
  tried_turn i d w o old now new lt is found before pushed =
      let r : Rule = get_or y.rules i d in
      pushed
      ∙ ap (λ v. now ++ found_by NeverTried text v o) is
      ∙ ap (λ p. now ++ found_by NeverTried text (head r.left) p) found
      ∙ ap (λ fs. fs ++ found_by NeverTried text (head r.left) (rewritten_by y (take i y.rules) r.left)) before
      ∙ append_assoc old (never_tried text y [] (take i y.rules)) (found_by NeverTried text (head r.left) (rewritten_by y (take i y.rules) r.left))
      ∙ ap (λ fs. old ++ fs) (sym (tried_more [] (take i y.rules) r))
      ∙ ap (λ rs. old ++ never_tried text y [] rs) (sym (take_more y.rules i d lt))

  -- one argument more
  pub inner_turn : (ts : List Term) (i : ℕ) (d : Term) (w : Word) (o : Option Word) (old now new : List Found) → i < length ts
      → w ≡ head (get_or ts i d) → o ≡ rewritten_by y y.rules (get_or ts i d)
      → now ≡ old ++ never_matching_in text y (take i ts) → new ≡ now ++ found_by NeverMatches text w o
      → new ≡ old ++ never_matching_in text y (take (i + 1) ts)
  inner_turn ts i d w o old now new lt is found before pushed =
      let t : Term = get_or ts i d in
      let f : Term → List Found = λ t. found_by NeverMatches text (head t) (rewritten_by y y.rules t) in
      pushed
      ∙ ap (λ v. now ++ found_by NeverMatches text v o) is
      ∙ ap (λ p. now ++ found_by NeverMatches text (head t) p) found
      ∙ ap (λ fs. fs ++ f t) before
      ∙ append_assoc old (never_matching_in text y (take i ts)) (f t)
      ∙ ap (λ fs. old ++ (never_matching_in text y (take i ts) ++ fs)) (sym (append-nil (f t)))
      ∙ ap (λ fs. old ++ fs) (sym (flat_map-append f (take i ts) (t ∷ [])))
      ∙ ap (λ us. old ++ never_matching_in text y us) (sym (take_more ts i d lt))

  -- those of one rule more
  pub matching_turn : (i : ℕ) (d : Rule) (old now new : List Found) → i < length y.rules
      → now ≡ old ++ flat_map (λ r. never_matching_in text y (postorder_all (arguments r.left))) (take i y.rules)
      → new ≡ now ++ never_matching_in text y (postorder_all (arguments (get_or y.rules i d).left))
      → new ≡ old ++ flat_map (λ r. never_matching_in text y (postorder_all (arguments r.left))) (take (i + 1) y.rules)
  matching_turn i d old now new lt before pushed =
      let g : Rule → List Found = λ r. never_matching_in text y (postorder_all (arguments r.left)) in
      let r : Rule = get_or y.rules i d in
      pushed
      ∙ ap (λ fs. fs ++ g r) before
      ∙ append_assoc old (flat_map g (take i y.rules)) (g r)
      ∙ ap (λ fs. old ++ (flat_map g (take i y.rules) ++ fs)) (sym (append-nil (g r)))
      ∙ ap (λ fs. old ++ fs) (sym (flat_map-append g (take i y.rules) (r ∷ [])))
      ∙ ap (λ rs. old ++ flat_map g rs) (sym (take_more y.rules i d lt))

  -- rule by rule, and all together
  pub same_matching : HasSame (never_matching text y) (never_matching_inside text y)
  same_matching = by y.rules
    where
      f : Term → List Found
      f t = found_by NeverMatches text (head t) (rewritten_by y y.rules t)

      by : (rs : List Rule) → HasSame (flat_map f (flat_map (λ r. subterms_all (arguments r.left)) rs))
          (flat_map (λ r. flat_map f (postorder_all (arguments r.left))) rs)
      by [] = same-of [] [] refl
      by (r ∷ rs) =
          let ts : List Term = subterms_all (arguments r.left) in
          let us : List Term = flat_map (λ r. subterms_all (arguments r.left)) rs in
          same-trans (flat_map f (ts ++ us)) (flat_map f ts ++ flat_map f us)
          (flat_map f (postorder_all (arguments r.left)) ++ flat_map (λ r. flat_map f (postorder_all (arguments r.left))) rs)
          (same-of (flat_map f (ts ++ us)) (flat_map f ts ++ flat_map f us) (flat_map-append f ts us))
          (same-append (flat_map f ts) (flat_map f us) (flat_map f (postorder_all (arguments r.left)))
          (flat_map (λ r. flat_map f (postorder_all (arguments r.left))) rs) (same_inside_all f (arguments r.left)) (by rs))

-- ---- the letters of rules

-- what holds in pairs holds at a place
pub pair_get : {A B : Type 0} (P : A → B → Type 0) (xs : List A) (ys : List B) → Pairwise P xs ys → (i : ℕ) (x : A) (d : B) → slice_get xs i ≡ Some x
    → P x (get_or ys i d)
pair_get P [] [] h i x d e = absurd (cc e)
pair_get P [] (y ∷ ys) h i x d e = absurd h
pair_get P (z ∷ xs) [] h i x d e = absurd h
pair_get P (z ∷ xs) (y ∷ ys) h zero x d e = let same : z ≡ x = cc e in subst (λ v. P v y) same h.0
pair_get P (z ∷ xs) (y ∷ ys) h (suc i) x d e = pair_get P xs ys h.1 i x d e

pub get_some : {A : Type 0} (xs : List A) (i : ℕ) → i < length xs → slice_get xs i ≡ None → ⊥
get_some [] i lt e = omega (arith, lt)
get_some (x ∷ xs) zero lt e = cc e
get_some (x ∷ xs) (suc i) lt e = get_some xs i (omega (arith, lt)) e

-- a left side begins with a symbol
module _ (y : Spec) (kept : fault y ≡ None) (r : Rule) (there : Contains y.rules r) (letters others : List Letter) (l : Letter)
    (are : AreLetters y letters r.left) (split : letters ≡ others ++ l ∷ []) where
  head_name : (head r.left).bytes ≡ name_of y l.meaning
  head_name = last_is y [] r.left others letters l split are.1

  pub is_head : (k : ℕ) → l.meaning ≡ Symbol k → IsHead y r k
  is_head k e = record {
    declared = subst (IsMeaning y) e (All-last y others l (subst (AreMeant y) split are.0));
    head = head_name ∙ ap (name_of y) e;
  }

  pub no_variable : (x : ℕ) → l.meaning ≡ Variable x → ⊥
  no_variable x e =
      let lt : x < length (variable_words y.variables) = subst (IsMeaning y) e (All-last y others l (subst (AreMeant y) split are.0)) in
      cc (sym (own_head there) ∙ ap (is_variable y) (head_name ∙ ap (name_of y) e) ∙ variable_is_one y x lt)
    where
      own_head : Contains y.rules r → is_variable y (head r.left).bytes ≡ false
      own_head (i, below, is) = subst (λ (q : Rule). is_variable y (head q.left).bytes ≡ false) is
          (every-at (λ (q : Rule). is_variable y (head q.left).bytes ≡ false) y.rules (left_sides_apply y kept) i r below)

-- ---- what is pushed

-- a finding is pushed where a rule was found
pub pushed_found : (text : List ℕ) (y : Spec) (k : Kind) (w : seen.Word) (rule : Option ℕ) (i : ℕ) (spots : List Spot) (spot : Spot) (o : Option Word)
    (end : ℕ) (shown : Vec ℕ Global) (old new : List Diagnostic) → rule ≡ Some i → i < length y.rules
    → spots ≡ map (λ q. spot_of text (head q.left).at) y.rules → spot ≡ get_or spots i spot → IsFirstWord y rule o
    → end ≡ w.at + length w.bytes.now → shown.items ≡ spot_shown spot
    → new ≡ old ++ record { at = w.at; end = end; kind = k; shown = shown } ∷ [] → as_diagnostics new ≡ as_diagnostics old ++ found_by k text (as_word w) o
pushed_found text y k w rule i spots spot o end shown old new is lt all at first ends shows pushed =
    let f : IsFirstWord y (Some i) o = subst (λ x. IsFirstWord y x o) is first in
    let seen : spot ≡ spot_of text (head f.0.left).at = at ∙ spot_at (λ q. spot_of text (head q.left).at) y.rules spots i spot f.0 all lt f.1 in
    ap as_diagnostics pushed
    ∙ map-append as_diagnostic old (record { at = w.at; end = end; kind = k; shown = shown } ∷ [])
    ∙ ap (λ (n : ℕ). as_diagnostics old ++ (let x : Found = record { at = w.at; end = n; shown = shown.items; kind = k } in x) ∷ []) ends
    ∙ ap (λ bytes. as_diagnostics old ++ found_on k (as_word w) bytes ∷ []) (shows ∙ ap spot_shown seen)
    ∙ ap (λ v. as_diagnostics old ++ found_by k text (as_word w) v) (sym f.2)

-- ---- chains

module _ (rw : Rewriter) (h : IsRewriter rw) where
  pub first_next : (symbol first : ℕ) → symbol < length (symbols rw.checked.now.spec) → first ≡ get_or rw.chains.firsts.items symbol first
      → IsNext h.heads symbol 0 first
  first_next symbol first lt e =
      let counted = h.chained.counted in
      subst (IsNext h.heads symbol 0) (sym (e ∙ get_or_default rw.chains.firsts.items symbol first 0 (omega (arith, lt, counted))))
      (h.chained.heads_next symbol lt)

  pub after_next : (rule after : ℕ) → rule < length rw.checked.now.spec.rules → after ≡ get_or rw.chains.nexts.items rule after
      → IsNext h.heads (get_or h.heads rule 0) (suc rule) after
  after_next rule after lt e =
      let counted = h.are_heads.counted in
      let long = h.chained.long in
      let within : rule < length h.heads = omega (arith, lt, counted) in
      subst (IsNext h.heads (get_or h.heads rule 0) (suc rule)) (sym
      (e ∙ get_or_default rw.chains.nexts.items rule after 0 (omega (arith, within, long)))) (h.chained.nexts_next rule (omega arith) within)

  pub spots_long : length rw.spots.items ≡ length rw.checked.now.spec.rules
  spots_long = ap length h.spots_are ∙ length-map rw.checked.now.spec.rules (λ q. spot_of rw.checked.now.source (head q.left).at)

-- what an answer is, it is of what follows
pub if_ok_so : {X E : Type 0} (r : Result X E) (P Q : X → Type 0) → ((x : X) → P x → Q x) → IfOk r P → IfOk r Q
if_ok_so (Ok x) P Q f h = f x h
if_ok_so (Err e) P Q f h = tt

-- a left side that was read
pub left_term : (source : List ℕ) (items : List parts.Rule) (rs : List Rule) (i : ℕ) (x : parts.Rule) (d : Rule) → map (rule_of source) items ≡ rs
    → i < length items → x ≡ get_or items i x → term_of source x.left ≡ (get_or rs i d).left
left_term source items rs i x d e lt is = ap (λ (z : parts.Rule). term_of source z.left) is ∙ by items i lt ∙ ap (λ (qs : List Rule). (get_or qs i d).left) e
  where
    by : (zs : List parts.Rule) (i : ℕ) → i < length zs → term_of source (get_or zs i x).left ≡ (get_or (map (rule_of source) zs) i d).left
    by [] i lt = absurd (let nothing : ⊥ = omega (arith, lt) in nothing)
    by (z ∷ zs) zero lt = refl
    by (z ∷ zs) (suc i) lt = by zs i (omega (arith, lt))

pub rules_long : (source : List ℕ) (items : List parts.Rule) (rs : List Rule) → map (rule_of source) items ≡ rs → length items ≡ length rs
rules_long source items rs e = sym (length-map items (rule_of source)) ∙ ap length e

-- ---- words inside a left side

-- the words of all nodes but the last
pub inner_heads : (ns all : List Counted) (m : ℕ) (t : Term) → ns ≡ take (m - 1) all → m ≡ length all → as_nodes all ≡ flat t
    → node_words (as_nodes ns) ≡ map head (postorder_all (arguments t))
inner_heads ns all m (Apply w ts) front long e =
    let last : Node = record { word = w; count = term_count ts } in
    let size = length-append (flat_all ts) (last ∷ []) in
    let same = sym (length-map all as_node) ∙ ap length e in
    let is : m - 1 ≡ length (flat_all ts) = omega (arith, size, same, long) in
    ap node_words
    (ap as_nodes front ∙ sym (take-map as_node (m - 1) all) ∙ ap (take (m - 1)) e ∙ take-left (m - 1) (flat_all ts) (last ∷ []) (omega (arith, is))
    ∙ take_all (m - 1) (flat_all ts) (omega (arith, is)))
    ∙ flat_heads_all ts

-- a word at a place
pub word_at_place : (ws : List seen.Word) (ts : List Term) (i : ℕ) (e : seen.Word) (d : Term) → as_words ws ≡ map head ts → i < length ws
    → as_word (get_or ws i e) ≡ head (get_or ts i d)
word_at_place [] ts i e d is lt = absurd (let nothing : ⊥ = omega (arith, lt) in nothing)
word_at_place (w ∷ ws) [] i e d is lt = absurd (cc is)
word_at_place (w ∷ ws) (t ∷ ts) zero e d is lt = cc is
word_at_place (w ∷ ws) (t ∷ ts) (suc i) e d is lt = word_at_place ws ts i e d (cc is) (omega (arith, lt))

pub words_long : (ws : List seen.Word) (ts : List Term) → as_words ws ≡ map head ts → length ws ≡ length ts
words_long ws ts e = sym (length-map ws as_word) ∙ ap length e ∙ length-map ts head

-- the letters up to a place end in those of an argument
pub inner_ends : (y : Spec) (letters : List Letter) (t : Term) (i : ℕ) (d : Term) → AreLetters y letters t → i < length (postorder_all (arguments t))
    → EndsIn (map (named_by y) (take (i + 1) letters)) (get_or (postorder_all (arguments t)) i d)
inner_ends y letters (Apply w ts) i d are lt =
    let long = length-postorder_all ts in
    let e = ends_in_all ts i d (omega (arith, lt, long)) in (
      e.0,
      sym (take-map (named_by y) (i + 1) letters) ∙ ap (λ ns. take (i + 1) ns) are.1
          ∙ take-left (i + 1) (named_all ts) (record { name = w.bytes; arguments = count ts } ∷ []) (omega (arith, lt, long)) ∙ e.1,
    )

pub inner_long : (y : Spec) (letters : List Letter) (t : Term) (i : ℕ) → AreLetters y letters t → i < length (postorder_all (arguments t))
    → i + 1 ≡ length (take (i + 1) letters)
inner_long y letters (Apply w ts) i are lt =
    let long = length-postorder_all ts in
    let names = length-append (named_all ts) ((let m : Named = record { name = w.bytes; arguments = count ts } in m) ∷ []) in
    let all : length letters ≡ length (named (Apply w ts)) = sym (length-map letters (named_by y)) ∙ ap length are.1 in
    sym (length-take-of letters (i + 1) (omega (arith, lt, long, names, all)))

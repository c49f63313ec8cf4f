-- The parts of rules' left-hand sides.
use Rattle.std.proofs.Common.{refl, sym, ap, subst, arith, ◌∙◌, inl, inr}
use Rattle.std.proofs.lemmas.Bool.{cases_eq}
use Rattle.std.proofs.lemmas.List.{length-append}
use Rattle.std.proofs.lemmas.List.Elements.{All-head, All-tail}
use Rattle.std.specs.Prelude.{ℕ, ◌+◌, ◌<◌, ◌≡◌, ◌≢◌, ◌⊎◌, List, [], ◌∷◌, ◌++◌, None, All, length, get_or}
use Rattle.rec_syntax.specs.Syntax.{Spec, Rule, Term}
use Rattle.rec_sorts.specs.SpecRules.{fault}
use Rattle.rec_sorts.specs.Laws.{Every}
use Rattle.rec_sorts.specs.Numbering.{name_of, IsMeaning, IsLetterRule, Pairwise}
use Rattle.rec_sorts.specs.declared.letters.Letter.{Letter}
use Rattle.rec_sorts.specs.declared.letters.LetterRule.{LetterRule}
use Rattle.rec_sorts.specs.declared.letters.Meaning.{Meaning}
use Rattle.rec_sorts.specs.declared.letters.Meaning.TheVariants.{Symbol, Variable}
use Rattle.rec_match.specs.Matching.{AreFilled}
use Rattle.rec_match.specs.Parts.{IsHead, IsPart, IsWhole}
use Rattle.rec_match.specs.Pushed.{IsFilled, Pushed, CanPush, counts_of, PushesTerm, AreLeftParts}
use Rattle.rec_match.specs.declared.parts.Parts.{Parts}
use Rattle.rec_match.proofs.FactLemmas.{facts, variable_is_one}
use Rattle.rec_match.proofs.ItemLemmas.{get-front, get-last}
use Rattle.rec_match.proofs.LetterLemmas.{left-letters, filled-rule, letters-filled, pair-long}
use Rattle.rec_match.proofs.PushLemmas.{part_pushed, can_push, part_later, more_long}

-- items of a specification that is kept have as many arguments as they are declared with
filled_letters : (y : Spec) → fault y ≡ None → (ls : List Letter) → All (λ (l : Letter). IsMeaning y l.meaning) ls → AreFilled y ls → Every (IsFilled y) ls
filled_letters y kept [] meant filled = tt
filled_letters y kept (l ∷ ls) meant filled = (
  by l.meaning refl,
  filled_letters y kept ls (All-tail (λ (l : Letter). IsMeaning y l.meaning) l ls meant)
      (All-tail (λ (l : Letter). (k : ℕ) → l.meaning ≡ Symbol k → Rattle.rec_sorts.specs.Numbering.arity_of y k ≡ l.count) l ls filled),
)
  where
    own : IsMeaning y l.meaning
    own = All-head (λ (l : Letter). IsMeaning y l.meaning) l ls meant

    by : (m : Meaning) → l.meaning ≡ m → IsHead y l.meaning (name_of y l.meaning) l.count
    by (Symbol k) e =
        let lt = subst (IsMeaning y) e own in
        subst (λ n. IsHead y n (name_of y n) l.count) (sym e) (
          lt,
          refl,
          sym (All-head (λ (l : Letter). (k : ℕ) → l.meaning ≡ Symbol k → Rattle.rec_sorts.specs.Numbering.arity_of y k ≡ l.count) l ls filled k e),
          (facts y kept).symbol_is_none k lt,
        )
    by (Variable v) e = let lt = subst (IsMeaning y) e own in subst (λ n. IsHead y n (name_of y n) l.count) (sym e) (lt, refl, variable_is_one y v lt)

-- the items of a rule's left-hand side
pub left_filled : (y : Spec) → fault y ≡ None → (rules : List LetterRule) (i : ℕ) (x : LetterRule) (r : Rule)
    → Pairwise (IsLetterRule y) rules y.rules → i < length rules → Every (IsFilled y) (get_or rules i x).left.items
left_filled y kept rules i x r are lt =
    let letters = left-letters y rules i x r are lt in
    let long = pair-long (IsLetterRule y) rules y.rules are in
    let ls = (get_or rules i x).left.items in
    filled_letters y kept ls letters.0 (letters-filled y ls letters.0
    (subst (λ ms. Every (Rattle.rec_match.proofs.LetterLemmas.IsFilledName y) ms) (sym letters.1) (filled-rule y kept i r (omega (arith, lt, long))).left))

-- one left-hand side more
pub left_parts_more : (y : Spec) → fault y ≡ None → (rules : List LetterRule) (i : ℕ) (x : LetterRule) (ps qs : Parts) (numbers numbers' ms : List ℕ)
    (d : ℕ) → Pairwise (IsLetterRule y) rules y.rules → i < length rules
    → AreLeftParts y ps numbers i → Pushed ps [] (get_or rules i x).left.items qs ms → numbers' ≡ numbers ++ get_or ms 0 d ∷ []
    → AreLeftParts y qs numbers' (i + 1)
left_parts_more y kept rules i x ps qs numbers numbers' ms d are lt h p e = record {
  whole = own.whole;
  long = (let l = ap length e ∙ length-append numbers (get_or ms 0 d ∷ []) in let g = h.long in omega (arith, l, g));
  each = λ j r l. each j r l (cases_eq j i);
}
  where
    t : Rule → Term
    t r = (get_or y.rules i r).left

    pushed : (r : Rule) → (n : ℕ) × PushesTerm y ps (t r) qs n × (ms ≡ n ∷ [])
    pushed r = part_pushed y (t r) (get_or rules i x).left.items ps qs ms (left-letters y rules i x r are lt).1
        (left_filled y kept rules i x r are lt) h.whole p

    no_rule : Rule
    no_rule = record {
      left = Rattle.rec_syntax.specs.Syntax.Apply (record { at = 0; bytes = [] }) Rattle.rec_syntax.specs.Syntax.none;
      right =
          Rattle.rec_syntax.specs.Syntax.Apply (record { at = 0; bytes = [] }) Rattle.rec_syntax.specs.Syntax.none;
      conditions = [];
    }

    own : PushesTerm y ps (t no_rule) qs (pushed no_rule).0
    own = (pushed no_rule).1

    each : (j : ℕ) (r : Rule) → j < i + 1 → (j ≡ i) ⊎ (j ≢ i) → (get_or numbers' j 0 < length qs.parts.items)
        × IsPart y qs (get_or numbers' j 0) (get_or y.rules j r).left
    each j r l (inl is) =
        let q = pushed r in
        let top : get_or ms 0 d ≡ q.0 = ap (λ xs. get_or xs 0 d) q.2 in
        let at : get_or numbers' i 0 ≡ q.0 = ap (λ xs. get_or xs i 0) e ∙ get-last numbers (get_or ms 0 d) i 0 (sym h.long) ∙ top in
        subst (λ k. (get_or numbers' k 0 < length qs.parts.items) × IsPart y qs (get_or numbers' k 0) (get_or y.rules k r).left) (sym is)
        (subst (λ n. (n < length qs.parts.items) × IsPart y qs n (get_or y.rules i r).left) (sym at) (q.1.there, q.1.is))
    each j r l (inr ne) =
        let below : j < i = omega (arith, l, ne) in
        let long = h.long in
        let o = h.each j r below in
        let o0 = o.0 in
        let le = more_long ps qs own.more in
        let at : get_or numbers' j 0 ≡ get_or numbers j 0 = ap (λ xs. get_or xs j 0) e ∙ get-front numbers (get_or ms 0 d) j 0 (omega (arith, below, long)) in
        subst (λ n. (n < length qs.parts.items) × IsPart y qs n (get_or y.rules j r).left) (sym at) (
          (let s : get_or numbers j 0 < length qs.parts.items = omega (arith, o0, le) in s),
          part_later y ps qs own.more h.whole (get_or y.rules j r).left (get_or numbers j 0) o.0 o.1,
        )

-- a left-hand side leaves one part
pub left_some : (y : Spec) → fault y ≡ None → (rules : List LetterRule) (i : ℕ) (x : LetterRule) (ps qs : Parts) (ms : List ℕ)
    → Pairwise (IsLetterRule y) rules y.rules → i < length rules → IsWhole ps → Pushed ps [] (get_or rules i x).left.items qs ms → length ms ≡ 1
left_some y kept rules i x ps qs ms are lt whole p =
    ap length (part_pushed y (get_or y.rules i no_rule).left (get_or rules i x).left.items ps qs ms (left-letters y rules i x no_rule are lt).1
    (left_filled y kept rules i x no_rule are lt) whole p).2
  where
    no_rule : Rule
    no_rule = record {
      left = Rattle.rec_syntax.specs.Syntax.Apply (record { at = 0; bytes = [] }) Rattle.rec_syntax.specs.Syntax.none;
      right =
          Rattle.rec_syntax.specs.Syntax.Apply (record { at = 0; bytes = [] }) Rattle.rec_syntax.specs.Syntax.none;
      conditions = [];
    }

-- a left-hand side's items can be put on an empty stack
pub left_can : (y : Spec) (rules : List LetterRule) (i : ℕ) (x : LetterRule) (n : ℕ) → Pairwise (IsLetterRule y) rules y.rules → i < length rules
    → CanPush n (counts_of (get_or rules i x).left.items)
left_can y rules i x n are lt = can_push y (get_or y.rules i no_rule).left (get_or rules i x).left.items n (left-letters y rules i x no_rule are lt).1
  where
    no_rule : Rule
    no_rule = record {
      left = Rattle.rec_syntax.specs.Syntax.Apply (record { at = 0; bytes = [] }) Rattle.rec_syntax.specs.Syntax.none;
      right =
          Rattle.rec_syntax.specs.Syntax.Apply (record { at = 0; bytes = [] }) Rattle.rec_syntax.specs.Syntax.none;
      conditions = [];
    }

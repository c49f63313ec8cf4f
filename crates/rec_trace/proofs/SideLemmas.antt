-- The sides of rules: their letters, and the values of their variables.
use Rattle.std.proofs.Common.{◌<◌, ◌≤◌, ℕ, arith, refl, sym, ap, subst, ◌∙◌, length, get_or, map, inl, inr}
use Rattle.std.specs.Prelude.{zero, suc, ◌≡◌, true, Err, IfOk, Ok, OnOk, Result, List, [], ◌∷◌, Option, Some, None, All, Contains, slice_get}
use Rattle.std.proofs.lemmas.List.{get_or-map, length-map}
use Rattle.std.proofs.lemmas.List.Elements.{All-cons, All-head, All-nil, All-tail}
use Rattle.std.proofs.lemmas.Grind.{get_or_default_zero}
use Rattle.std.proofs.lemmas.Option.{get_or_from_slice_get, slice_get_cases}
use Rattle.rx_term.specs.Tree.{Tree, list_of, none}
use Rattle.rx_term.specs.Store.{Store}
use Rattle.rx_term.specs.Walks.{held_tree, held_trees}
use Rattle.rx_term.specs.declared.Term.{Term as Reference}
use Rattle.rec_syntax.specs.Syntax.{Term, Condition, Rule, Spec, subterms}
use Rattle.rec_sorts.specs.Lookup.{is_variable, mentions, variable_words}
use Rattle.rec_sorts.specs.SpecRules.{fault, heads}
use Rattle.rec_sorts.specs.Laws.{Every}
use Rattle.rec_sorts.specs.Binding.{Substitution, value_of}
use Rattle.rec_sorts.specs.Numbering.{AreLetters, arity_of, IsLetterCondition, IsLetterRule, IsMeaning, Named, Pairwise, name_of, named, named_by}
use Rattle.rec_sorts.specs.declared.letters.Letter.{Letter}
use Rattle.rec_sorts.specs.declared.letters.LetterCondition.{LetterCondition}
use Rattle.rec_sorts.specs.declared.letters.LetterRule.{LetterRule}
use Rattle.rec_sorts.specs.declared.letters.Meaning.TheVariants.{Symbol, Variable}
use Rattle.rec_match.specs.Matching.{AreFilled, FirstAt, IsSide, variables_at}
use Rattle.rec_match.specs.Next.{IsReady}
use Rattle.rec_match.specs.declared.matcher.LeftSide.{LeftSide}
use Rattle.rec_match.specs.declared.matcher.Matcher.{Matcher}
use Rattle.rec_match.proofs.ApartLemmas.{empty, numbers-variables}
use Rattle.rec_match.proofs.FactLemmas.{IsRead as IsReadTerm, RuleFacts, facts, variable_is_one}
use Rattle.rec_match.proofs.LetterLemmas.{IsFilledName, every-at, filled-rule, letters-filled, pair-at, pair-long}
use Rattle.rec_match.proofs.PairedLemmas.{AreVariables, value-paired}
use Rattle.rec_match.proofs.RunLemmas.{tree_here}
use Rattle.rec_match.proofs.ValueLemmas.{Paired, side-meant, side-paired}
use Rattle.rec_engine.proofs.KnownLemmas.{letters-known}
use Rattle.rec_engine.proofs.TriedRuleLemmas.{no_rule}
use Rattle.rec_trace.specs.Inner.Sides.{HasValues, IsMatch, IsRead, IsRow, no_condition}

-- the rule of a number
pub record RuleAt (y : Spec) (i : ℕ) (r : Rule) : Type 0 where
  pub within : i < length y.rules
  pub is : (d : Rule) → get_or y.rules i d ≡ r

pub rule-at : (y : Spec) (i : ℕ) (r : Rule) → slice_get y.rules i ≡ Some r → RuleAt y i r
rule-at y i r e = elim (slice_get_cases y.rules i).1 [
  | inl k ↦ record { within = k.1; is = λ d. get_or_from_slice_get y.rules i r d e }
  | inr k ↦ absurd (cc (sym k.1 ∙ e))
]

-- the letters of a rule's term can stand in it
reads : (y : Spec) (r : Rule) (ls : List Letter) → All (λ l. IsMeaning y l.meaning) ls → AreFilled y ls
    → Every (λ (m : Named). is_variable y m.name ≡ true → mentions (heads (subterms r.left)) m.name ≡ true) (map (named_by y) ls) → Every (IsRead y r) ls
reads y r [] meant filled occurs = tt
reads y r (l ∷ ls) meant filled occurs =
    let here = All-head (λ (l : Letter). IsMeaning y l.meaning) l ls meant in (
      record {
        meant = here;
        filled = All-head (λ (l : Letter). (k : ℕ) → l.meaning ≡ Symbol k → arity_of y k ≡ l.count) l ls filled;
        occurs = λ v e.
            let lt = subst (IsMeaning y) e here in
            subst (λ m. mentions (heads (subterms r.left)) (name_of y m) ≡ true) e
            (occurs.0 (ap (λ m. is_variable y (name_of y m)) e ∙ variable_is_one y v lt));
      },
      reads y r ls (All-tail (λ (l : Letter). IsMeaning y l.meaning) l ls meant)
          (All-tail (λ (l : Letter). (k : ℕ) → l.meaning ≡ Symbol k → arity_of y k ≡ l.count) l ls filled) occurs.1,
    )

row-of-term : (y : Spec) (r : Rule) (ls : List Letter) (t : Term) → AreLetters y ls t → Every (IsFilledName y) (named t) → IsReadTerm y r.left t
    → IsRow y r ls t
row-of-term y r ls t letters filled read = record {
  letters = letters;
  read = reads y r ls letters.0 (letters-filled y ls letters.0 (subst (Every (IsFilledName y)) (sym letters.1) filled))
      (subst (Every (λ (m : Named). is_variable y m.name ≡ true → mentions (heads (subterms r.left)) m.name ≡ true)) (sym letters.1) read.occurs);
  bare = read.bare;
}

-- what is known of a rule by its letters
pub record IsRuleRead (y : Spec) (r : Rule) (x : LetterRule) : Type 0 where
  pub right : IsRow y r x.right.items r.right
  pub counted : length x.conditions.items ≡ length r.conditions
  pub lefts : (j : ℕ) (d : LetterCondition) → j < length r.conditions
      → IsRow y r (get_or x.conditions.items j d).left.items (get_or r.conditions j no_condition).left
  pub rights : (j : ℕ) (d : LetterCondition) → j < length r.conditions
      → IsRow y r (get_or x.conditions.items j d).right.items (get_or r.conditions j no_condition).right
  pub equals : (j : ℕ) (d : LetterCondition) → j < length r.conditions → (get_or x.conditions.items j d).equal ≡ (get_or r.conditions j no_condition).equal

pub rule-read : (y : Spec) → fault y ≡ None → (rules : List LetterRule) → Pairwise (IsLetterRule y) rules y.rules
    → (i : ℕ) (r : Rule) (x : LetterRule) → slice_get y.rules i ≡ Some r → x ≡ get_or rules i x → IsRuleRead y r x
rule-read y kept rules are i r x e ex = subst (λ z. IsRuleRead y z x) (at.is no_rule) (subst (IsRuleRead y (get_or y.rules i no_rule)) (sym ex) made)
  where
    at : RuleAt y i r
    at = rule-at y i r e

    rule : Rule
    rule = get_or y.rules i no_rule

    own : LetterRule
    own = get_or rules i x

    letters : IsLetterRule y (get_or rules i x) (get_or y.rules i no_rule)
    letters = pair-at (IsLetterRule y) rules y.rules are i x no_rule at.within

    conditions : (j : ℕ) (d : LetterCondition) → j < length (get_or y.rules i no_rule).conditions
        → IsLetterCondition y (get_or (get_or rules i x).conditions.items j d) (get_or (get_or y.rules i no_rule).conditions j no_condition)
    conditions j d lt = pair-at (IsLetterCondition y) (get_or rules i x).conditions.items (get_or y.rules i no_rule).conditions letters.2 j d no_condition lt

    known : RuleFacts y (get_or y.rules i no_rule)
    known = every-at (RuleFacts y) y.rules (facts y kept).rules i no_rule at.within

    made : IsRuleRead y (get_or y.rules i no_rule) (get_or rules i x)
    made =
        let filled = filled-rule y kept i no_rule at.within in
        record {
          right = row-of-term y (get_or y.rules i no_rule) (get_or rules i x).right.items (get_or y.rules i no_rule).right letters.1 filled.right known.right;
          counted = pair-long (IsLetterCondition y) (get_or rules i x).conditions.items (get_or y.rules i no_rule).conditions letters.2;
          lefts = λ j d lt. row-of-term y (get_or y.rules i no_rule) (get_or (get_or rules i x).conditions.items j d).left.items
              (get_or (get_or y.rules i no_rule).conditions j no_condition).left (conditions j d lt).0
              (every-at (λ (c : Condition). Every (IsFilledName y) (named c.left) × Every (IsFilledName y) (named c.right))
              (get_or y.rules i no_rule).conditions filled.conditions j no_condition lt).0
              (every-at (λ (c : Condition). IsReadTerm y (get_or y.rules i no_rule).left c.left
              × IsReadTerm y (get_or y.rules i no_rule).left c.right) (get_or y.rules i no_rule).conditions known.conditions j no_condition lt).0;
          rights = λ j d lt. row-of-term y (get_or y.rules i no_rule) (get_or (get_or rules i x).conditions.items j d).right.items
              (get_or (get_or y.rules i no_rule).conditions j no_condition).right (conditions j d lt).1
              (every-at (λ (c : Condition). Every (IsFilledName y) (named c.left) × Every (IsFilledName y) (named c.right))
              (get_or y.rules i no_rule).conditions filled.conditions j no_condition lt).1
              (every-at (λ (c : Condition). IsReadTerm y (get_or y.rules i no_rule).left c.left
              × IsReadTerm y (get_or y.rules i no_rule).left c.right) (get_or y.rules i no_rule).conditions known.conditions j no_condition lt).1;
          equals = λ j d lt. (conditions j d lt).2;
        }

-- what is known of a rule that matches
pub record MatchFacts (y : Spec) (w : Store) (m : Matcher) (i : ℕ) (r : Rule) (bind : List Reference) (s : Substitution) : Type 0 where
  pub within : i < length m.sides.items
  pub pairs : Paired y w m i bind s
  pub all : AreVariables y (variables_at m i)
  pub known : (v : ℕ) → v < length (variable_words y.variables) → mentions (heads (subterms r.left)) (name_of y (Variable v)) ≡ true
      → Contains (variables_at m i) v

pub match-facts : (y : Spec) (w : Store) (m : Matcher) (whole : Reference) (i : ℕ) (u : Tree) (r : Rule) (s : Substitution) (bind : List Reference)
    → IsReady y w m → IsMatch y i u r s → HasValues w whole bind s → MatchFacts y w m i r bind s
match-facts y w m whole i u r s bind ready match values =
    let at = rule-at y i r match.rule in
    let kept = ready.matcher.kept in
    let ruled = ready.matcher.ruled in
    let within = at.within in
    let side = ready.matcher.sides i no_rule within in
    let own : IsSide y m.links m i r = subst (λ z. IsSide y m.links m i z) (at.is no_rule) side in
    let known = subst (RuleFacts y) (at.is no_rule) (every-at (RuleFacts y) y.rules (facts y kept).rules i no_rule within) in
    let variables = subst (AreVariables y) (sym own.variables) (numbers-variables y [] own.letters (side-meant y m.links m i r own) tt empty).0 in
    record {
      within = omega (arith, ruled, within);
      pairs = side-paired y kept m.links w m i r own known.left u s match.binds bind values.values;
      all = variables;
      known = λ v lt e.
          let l : Letter = record { meaning = Variable v; count = 0 } in
          (letters-known y kept m.links m i r own (l ∷ [])
          (All-cons (λ (l : Letter). IsMeaning y l.meaning) l [] lt (All-nil (λ (l : Letter). IsMeaning y l.meaning)))
          ((λ f. e), tt)) zero l (omega arith) v refl;
    }

-- a variable that was not met before is at its first place
pub first-here : (vs : List ℕ) (v p : ℕ) → p < length vs → get_or vs p 0 ≡ v → ((k : ℕ) → k < p → get_or vs k 0 ≡ v → ⊥) → FirstAt vs v p
first-here [] v p lt e unmet = let no : ⊥ = omega (arith, lt) in absurd no
first-here (x ∷ vs) v zero lt e unmet = e
first-here (x ∷ vs) v (suc p) lt e unmet = (
  λ q. unmet zero (omega arith) q,
  first-here vs v p (omega (arith, lt)) e (λ k l q. unmet (suc k) (omega (arith, l)) q),
)

-- the variables of a rule, as they stand
pub variables-are : (m : Matcher) (i : ℕ) (x : LeftSide) → i < length m.sides.items → x ≡ get_or m.sides.items i x → variables_at m i ≡ x.variables.items
variables-are m i x lt e = get_or-map (λ (s : LeftSide). s.variables.items) m.sides.items i x [] lt ∙ ap (λ (s : LeftSide). s.variables.items) (sym e)

pub next-is : (m : Matcher) (i : ℕ) (x : LeftSide) → i < length m.sides.items → x ≡ get_or m.sides.items i x → (y : Spec) (w : Store) → IsReady y w m
    → i < x.next
next-is m i x lt e y w ready =
    let ruled = ready.matcher.ruled in
    let l = (ready.matcher.sides i no_rule (omega (arith, lt, ruled))).later in
    let is : get_or (map (λ (s : LeftSide). s.next) m.sides.items) i 0 ≡ x.next =
    get_or-map (λ (s : LeftSide). s.next) m.sides.items i x 0 lt ∙ ap (λ (s : LeftSide). s.next) (sym e) in
    omega (arith, is, l)

-- the value of a variable at its place
pub value-there : (y : Spec) (w : Store) (m : Matcher) (i : ℕ) (r : Rule) (bind : List Reference) (s : Substitution) (v p : ℕ) (d : Reference)
    → fault y ≡ None → MatchFacts y w m i r bind s → v < length (variable_words y.variables) → FirstAt (variables_at m i) v p → p < length bind
    → value_of s (name_of y (Variable v)) ≡ Some (held_tree w (get_or bind p d))
value-there y w m i r bind s v p d kept f lt first within =
    let counted = f.pairs.counted in
    sym (f.pairs.same (name_of y (Variable v)))
    ∙ value-paired y kept (variables_at m i) (held_trees w bind) v p (list_of none) f.all lt (length-map bind (held_tree w) ∙ counted) first
    ∙ ap (λ u. let o : Option Tree = Some u in o) (tree_here w bind p d (list_of none) within)

-- a list contains what stands at a place of it
pub item-there : (xs : List Reference) (k : ℕ) (d : Reference) → k < length xs → Contains xs (get_or xs k d)
item-there [] k d lt = let no : ⊥ = omega (arith, lt) in absurd no
item-there (x ∷ xs) zero d lt = (zero, omega arith, refl)
item-there (x ∷ xs) (suc k) d lt = let c = item-there xs k d (omega (arith, lt)) in (suc c.0, (let l = c.1 in omega (arith, l)), c.2)

-- a variable that is among some is met
pub met-there : (vs : List ℕ) (v i : ℕ) → Contains vs v → length vs ≤ i → ((k : ℕ) → k < i → get_or vs k 0 ≡ v → ⊥) → ⊥
met-there vs v i c le unmet = let l = c.1 in unmet c.0 (omega (arith, l, le)) (sym (get_or_default_zero vs c.0 v c.1) ∙ c.2)

pub some-same : {A : Type 0} (a b : A) → Some a ≡ Some b → a ≡ b
some-same a b e = cc

-- one fact of an answer gives another one
pub if-ok : {A E : Type 0} {P Q : A → Type 0} (r : Result A E) → ((a : A) → P a → Q a) → IfOk r P → IfOk r Q
if-ok (Ok a) f p = f a p
if-ok (Err e) f p = tt

-- two facts of an answer give a third
pub if-both : {A E : Type 0} {P R : A → Type 0} {Q : Type 0} (r : Result A E) → ((a : A) → P a → Q → R a) → IfOk r P → OnOk r Q → IfOk r R
if-both (Ok a) f p q = f a p q
if-both (Err e) f p q = tt

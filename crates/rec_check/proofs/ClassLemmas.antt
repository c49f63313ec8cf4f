-- A rule that rewrites a term is in the class of one of the term's symbols.
use Rattle.std.proofs.Common.{refl, sym, ap, subst, arith, ◌∙◌, inl, inr}
use Rattle.std.proofs.lemmas.Bool.{cases_lt}
use Rattle.std.proofs.lemmas.List.{get_or_default}
use Rattle.std.specs.Prelude.{ℕ, zero, suc, ◌≡◌, ◌≤◌, ◌<◌, ◌+◌, ◌⊎◌, Bool, true, false, All, List, [], ◌∷◌, ◌++◌, Option}
use Rattle.std.specs.Prelude.{Some, None, get_or, is_some, length, map}
use Rattle.rx_term.specs.Tree.{Tree, Trees}
use Rattle.rec_syntax.specs.Tokens.{Word}
use Rattle.rec_syntax.specs.Syntax.{Term, Terms, Apply, none, more, Condition, Rule, Spec, head}
use Rattle.rec_sorts.specs.Lookup.{count, is_variable, symbols}
use Rattle.rec_sorts.specs.Binding.{Substitution, binds, instances, tree_of}
use Rattle.rec_sorts.specs.Numbering.{AreLetters, IsLetterCondition, IsLetterRule, IsMeaning, Named, name_of, named, named_all, named_by}
use Rattle.rec_sorts.specs.SpecRules.{fault}
use Rattle.rec_sorts.specs.declared.letters.Letter.{Letter}
use Rattle.rec_sorts.specs.declared.letters.LetterRule.{LetterRule}
use Rattle.rec_sorts.specs.declared.letters.Meaning.{Meaning}
use Rattle.rec_sorts.specs.declared.letters.Meaning.TheVariants.{Symbol, Variable}
use Rattle.rec_match.specs.Bound.{bound, goes_on, opened}
use Rattle.rec_match.specs.Inner.Built.{IsHead}
use Rattle.rec_match.specs.Inner.Chains.{IsNext}
use Rattle.rec_match.proofs.BoundLemmas.{opened_is}
use Rattle.rec_match.proofs.LetterLemmas.{pair-long}
use Rattle.rec_match.proofs.FactLemmas.{AreBare, every_append, facts, variable_is_one}
use Rattle.rec_check.specs.Rewriting.{rewrites}
use Rattle.rec_check.specs.Inner.Rewriters.{AreClasses, HasSymbol, IsClass, IsFirstFor, IsRewriter, IsSymbolOf, NoneIn, OccursIn}
use Rattle.rec_check.specs.declared.rewriting.Rewriter.{Rewriter}
use Rattle.rec_check.proofs.BackLemmas.{IsBare, named_at, no_count, walk, walk_all, walk_binds}
use Rattle.rec_check.proofs.RewritingLemmas.{NoneBefore, rule_there}
use Rattle.rec_check.proofs.TrialLemmas.{left_bare, tree_arguments, tree_name}

-- ---- names among names

occurs-left : (name : List ℕ) (xs ys : List Named) → OccursIn name xs → OccursIn name (xs ++ ys)
occurs-left name [] ys h = absurd h
occurs-left name (x ∷ xs) ys (inl e) = inl e
occurs-left name (x ∷ xs) ys (inr h) = inr (occurs-left name xs ys h)

occurs-right : (name : List ℕ) (xs ys : List Named) → OccursIn name ys → OccursIn name (xs ++ ys)
occurs-right name [] ys h = h
occurs-right name (x ∷ xs) ys h = inr (occurs-right name xs ys h)

occurs-split : (name : List ℕ) (xs ys : List Named) → OccursIn name (xs ++ ys) → OccursIn name xs ⊎ OccursIn name ys
occurs-split name [] ys h = inr h
occurs-split name (x ∷ xs) ys (inl e) = inl (inl e)
occurs-split name (x ∷ xs) ys (inr h) = by (occurs-split name xs ys h)
  where
    by : OccursIn name xs ⊎ OccursIn name ys → OccursIn name (x ∷ xs) ⊎ OccursIn name ys
    by (inl k) = inl (inr k)
    by (inr k) = inr k

-- ---- the symbols of a left side that matches are those of the term

module _ (y : Spec) (name : List ℕ) (plain : is_variable y name ≡ false) where
  by_head : (w v : Word) (ts us : Terms) (s r : Substitution) → IsBare y (named_at w ts)
      → walk y (Apply w ts) (tree_of (Apply v us)) s ≡ Some r → OccursIn name (named (Apply w ts))
      → (walk_all y ts (instances [] us) s ≡ Some r → OccursIn name (named_all ts) → OccursIn name (named_all us))
      → OccursIn name (named (Apply v us))
  by_head w v ts us s r bare e there inner = by (is_variable y w.bytes) refl e
    where
      u : Tree
      u = tree_of (Apply v us)

      in_variable : (zs : Terms) → zs ≡ none → is_variable y w.bytes ≡ true → OccursIn name (named_all zs ++ named_at w ts ∷ []) → ⊥
      in_variable none q one (inl k) = cc (sym one ∙ ap (is_variable y) k ∙ plain)
      in_variable none q one (inr k) = k
      in_variable (more z zs) q one h = cc q

      at : (vs : Trees) → opened w.bytes (count ts) u ≡ Some vs → walk_all y ts vs s ≡ Some r
          → OccursIn name (named_all ts) ⊎ OccursIn name (named_at w ts ∷ []) → OccursIn name (named (Apply v us))
      at vs h f (inl k) = occurs-left name (named_all us) (named_at v us ∷ [])
          (inner (subst (λ x. walk_all y ts x s ≡ Some r) (ap tree_arguments (opened_is w.bytes (count ts) u vs h).0) f) k)
      at vs h f (inr (inl k)) = occurs-right name (named_all us) (named_at v us ∷ [])
          (inl (sym (ap tree_name (opened_is w.bytes (count ts) u vs h).0) ∙ k))
      at vs h f (inr (inr k)) = absurd k

      by_opened : (o : Option Trees) → opened w.bytes (count ts) u ≡ o → goes_on o (λ vs. walk_all y ts vs s) ≡ Some r
          → OccursIn name (named (Apply v us))
      by_opened None h f = absurd (cc f)
      by_opened (Some vs) h f = at vs h f (occurs-split name (named_all ts) (named_at w ts ∷ []) there)

      by : (b : Bool) → is_variable y w.bytes ≡ b
          → ◌≡◌ {A = Option Substitution}
          (elim b [ true ↦ bound s w.bytes u | false ↦ goes_on (opened w.bytes (count ts) u) (λ vs. walk_all y ts vs s) ]) (Some r)
          → OccursIn name (named (Apply v us))
      by true one f = absurd (in_variable ts (no_count ts (bare one)) one there)
      by false one f = by_opened (opened w.bytes (count ts) u) refl f

  mutual
    walk_occurs : (l t : Term) (s r : Substitution) → AreBare y (named l) → walk y l (tree_of t) s ≡ Some r
        → OccursIn name (named l) → OccursIn name (named t)
    walk_occurs (Apply w ts) (Apply v us) s r bare e there =
        let split = every_append (IsBare y) (named_all ts) (named_at w ts ∷ []) bare in
        by_head w v ts us s r split.1.0 e there (λ f k. walk_all_occurs ts us s r split.0 f k)

    walk_all_occurs : (ts us : Terms) (s r : Substitution) → AreBare y (named_all ts) → walk_all y ts (instances [] us) s ≡ Some r
        → OccursIn name (named_all ts) → OccursIn name (named_all us)
    walk_all_occurs none us s r bare e there = absurd there
    walk_all_occurs (more t ts) none s r bare e there = absurd (cc e)
    walk_all_occurs (more t ts) (more u us) s r bare e there =
        let split = every_append (IsBare y) (named t) (named_all ts) bare in
        by (walk_all y ts (instances [] us) s) refl e (λ q f k. walk_occurs t u q r split.0 f k) (λ q f k. walk_all_occurs ts us s q split.1 f k)
      where
        by : (o : Option Substitution) → walk_all y ts (instances [] us) s ≡ o → goes_on o (λ q. walk y t (tree_of u) q) ≡ Some r
            → ((q : Substitution) → walk y t (tree_of u) q ≡ Some r → OccursIn name (named t) → OccursIn name (named u))
            → ((q : Substitution) → walk_all y ts (instances [] us) s ≡ Some q → OccursIn name (named_all ts) → OccursIn name (named_all us))
            → OccursIn name (named u ++ named_all us)
        by None h f first others = absurd (cc f)
        by (Some q) h f first others = at (occurs-split name (named t) (named_all ts) there)
          where
            at : OccursIn name (named t) ⊎ OccursIn name (named_all ts) → OccursIn name (named u ++ named_all us)
            at (inl k) = occurs-left name (named u) (named_all us) (first q f k)
            at (inr k) = occurs-right name (named u) (named_all us) (others q h k)

  matched_occurs : (l t : Term) → AreBare y (named l) → is_some (binds y l (tree_of t)) ≡ true → OccursIn name (named l) → OccursIn name (named t)
  matched_occurs l t bare e there = by (walk y l (tree_of t) []) refl
    where
      by : (o : Option Substitution) → walk y l (tree_of t) [] ≡ o → OccursIn name (named t)
      by None h = absurd (cc (sym (ap is_some h) ∙ walk_binds y l (tree_of t) ∙ e))
      by (Some r) h = walk_occurs l t [] r bare h there

rewrites_true : (y : Spec) (r : Rule) (t : Term) → rewrites y r t ≡ true → (r.conditions ≡ []) × (is_some (binds y r.left (tree_of t)) ≡ true)
rewrites_true y r t e = by r.conditions refl e
  where
    by : (cs : List Condition) → r.conditions ≡ cs
        → (elim cs as (λ _. Bool) [ [] ↦ is_some (binds y r.left (tree_of t)) | c ∷ cs ↦ false ]) ≡ true
        → (r.conditions ≡ []) × (is_some (binds y r.left (tree_of t)) ≡ true)
    by [] q f = (q, f)
    by (c ∷ cs) q f = absurd (cc f)

-- ---- classes

-- a postfix item for a place past the end
abbrev pub no_letter : Letter
no_letter = record { meaning = Symbol 0; count = 0 }

-- an item at a place
pub symbol_here : (ls : List Letter) (i : ℕ) (l : Letter) (k : ℕ) → i < length ls → l ≡ get_or ls i l → l.meaning ≡ Symbol k → HasSymbol ls k
symbol_here [] i l k lt at is = absurd (let nothing : ⊥ = omega (arith, lt) in nothing)
symbol_here (x ∷ xs) zero l k lt at is = inl (ap (λ (z : Letter). z.meaning) (sym at) ∙ is)
symbol_here (x ∷ xs) (suc i) l k lt at is = inr (symbol_here xs i l k (omega (arith, lt)) at is)

-- one item more
pub rarest_turn : (ls : List Letter) (i : ℕ) (l : Letter) (head old new : ℕ) → i < length ls → l ≡ get_or ls i l
    → (new ≡ old) ⊎ (l.meaning ≡ Symbol new) → (old ≡ head) ⊎ HasSymbol ls old → (new ≡ head) ⊎ HasSymbol ls new
rarest_turn ls i l head old new lt at (inl e) before = subst (λ (k : ℕ). (k ≡ head) ⊎ HasSymbol ls k) (sym e) before
rarest_turn ls i l head old new lt at (inr e) before = inr (symbol_here ls i l new lt at e)

-- the head of a left side
head_occurs : (y : Spec) (r : Rule) (k : ℕ) → IsHead y r k → IsSymbolOf y r k
head_occurs y r k h = record { declared = h.declared; occurs = by r.left h.head }
  where
    by : (t : Term) → (head t).bytes ≡ name_of y (Symbol k) → OccursIn (name_of y (Symbol k)) (named t)
    by (Apply w ts) e = occurs-right (name_of y (Symbol k)) (named_all ts) (named_at w ts ∷ []) (inl e)

-- an item of a left side
declared_symbol : (y : Spec) (ls : List Letter) (k : ℕ) → All (λ l. IsMeaning y l.meaning) ls → HasSymbol ls k → k < length (symbols y)
declared_symbol y [] k meant h = absurd h
declared_symbol y (l ∷ ls) k meant (inl e) = subst (IsMeaning y) e (meant 0 l (omega arith))
declared_symbol y (l ∷ ls) k meant (inr h) = declared_symbol y ls k (λ i d lt. meant (suc i) d (omega (arith, lt))) h

named_symbol : (y : Spec) (ls : List Letter) (k : ℕ) → HasSymbol ls k → OccursIn (name_of y (Symbol k)) (map (named_by y) ls)
named_symbol y [] k h = absurd h
named_symbol y (l ∷ ls) k (inl e) = inl (ap (name_of y) e)
named_symbol y (l ∷ ls) k (inr h) = inr (named_symbol y ls k h)

pub rarest_occurs : (y : Spec) (r : Rule) (ls : List Letter) (head k : ℕ) → IsHead y r head → AreLetters y ls r.left → (k ≡ head) ⊎ HasSymbol ls k
    → IsSymbolOf y r k
rarest_occurs y r ls head k h are (inl e) = subst (IsSymbolOf y r) (sym e) (head_occurs y r head h)
rarest_occurs y r ls head k h are (inr s) = record {
  declared = declared_symbol y ls k are.0 s;
  occurs = subst (OccursIn (name_of y (Symbol k))) are.1 (named_symbol y ls k s);
}

-- the class of a rule with conditions
pub class_with_conditions : (y : Spec) (x : LetterRule) (r : Rule) (k : ℕ) → IsLetterRule y x r → 0 < length x.conditions.items → k ≡ length (symbols y)
    → IsClass y r k
class_with_conditions y x r k h some e = record {
  within = omega (arith, e);
  symbol = λ none_there. (let long = pair-long (IsLetterCondition y) x.conditions.items r.conditions h.2 in let empty = ap length none_there in
      absurd (let nothing : ⊥ = omega (arith, some, long, empty) in nothing));
}

module _ (y : Spec) (kept : fault y ≡ None) where
  is_symbol : (k : ℕ) → k < length (symbols y) → (m : Meaning) → IsMeaning y m → name_of y m ≡ name_of y (Symbol k) → m ≡ Symbol k
  is_symbol k lt (Symbol j) there e = ap Symbol ((facts y kept).symbols_differ j k there lt e)
  is_symbol k lt (Variable x) there e =
      absurd (cc (sym ((facts y kept).symbol_is_none k lt) ∙ ap (is_variable y) (sym e) ∙ variable_is_one y x there))

  letter_at : (k : ℕ) → k < length (symbols y) → (letters : List Letter) → All (λ l. IsMeaning y l.meaning) letters
      → OccursIn (name_of y (Symbol k)) (map (named_by y) letters)
      → (i : ℕ) × (i < length letters) × ((d : Letter) → (get_or letters i d).meaning ≡ Symbol k)
  letter_at k lt [] meant h = absurd h
  letter_at k lt (l ∷ ls) meant (inl e) = (0, omega arith, λ d. is_symbol k lt l.meaning (meant 0 l (omega arith)) e)
  letter_at k lt (l ∷ ls) meant (inr h) =
      let f = letter_at k lt ls (λ i d below. meant (suc i) d (omega (arith, below))) h in
      let below = f.1 in
      (suc f.0, omega (arith, below), f.2)

  module _ (ks : List ℕ) (are : AreClasses y ks) where
    -- if no rule of the classes of a term's symbols rewrites it, none does
    pub none_in_classes : (letters : List Letter) (t : Term) (n : ℕ) → AreLetters y letters t
        → ((i : ℕ) (d : Letter) → i < length letters → (k : ℕ) → (get_or letters i d).meaning ≡ Symbol k → NoneIn y ks k t n) → NoneBefore y t n
    none_in_classes letters t n spelled others i d lt there = by (rewrites y (get_or y.rules i d) t) refl
      where
        q : Rule
        q = get_or y.rules i d

        by : (b : Bool) → rewrites y q t ≡ b → rewrites y q t ≡ false
        by false e = e
        by true e =
            let both = rewrites_true y q t e in
            let k : ℕ = get_or ks i 0 in
            let own = (are.each i d there).symbol both.0 in
            let name : List ℕ = name_of y (Symbol k) in
            let occurs = matched_occurs y name ((facts y kept).symbol_is_none k own.declared) q.left t (left_bare y kept q (rule_there y.rules i d there))
            both.1 own.occurs in
            let at = letter_at k own.declared letters spelled.0 (subst (OccursIn name) (sym spelled.1) occurs) in
            others at.0 no_letter at.1 k (at.2 no_letter) i d lt there refl

-- ---- along the chain of a class

module _ (y : Spec) (ks : List ℕ) (long : length ks ≡ length y.rules) (t : Term) where
  pub none_in_start : (k from at : ℕ) → IsNext ks k from at → NoneIn y ks k t from → NoneIn y ks k t at
  none_in_start k from at next before i d lt there is = by (cases_lt i from)
    where
      by : (i < from) ⊎ (from ≤ i) → rewrites y (get_or y.rules i d) t ≡ false
      by (inl early) = before i d early there is
      by (inr late) = absurd (next.none i late lt is)

  pub none_in_next : (k at after : ℕ) → IsNext ks k (suc at) after → ((d : Rule) → at < length y.rules → rewrites y (get_or y.rules at d) t ≡ false)
      → NoneIn y ks k t at → NoneIn y ks k t after
  none_in_next k at after next own before = none_in_start k (suc at) after next up_to
    where
      up_to : NoneIn y ks k t (suc at)
      up_to i d below there is = by (cases_lt i at)
        where
          by : (i < at) ⊎ (at ≤ i) → rewrites y (get_or y.rules i d) t ≡ false
          by (inl early) = before i d early there is
          by (inr late) = let same : at ≡ i = omega (arith, late, below) in
              subst (λ j. rewrites y (get_or y.rules j d) t ≡ false) same (own d (omega (arith, same, there)))

pub none_in_less : (y : Spec) (ks : List ℕ) (k : ℕ) (t : Term) (n m : ℕ) → m ≤ n → NoneIn y ks k t n → NoneIn y ks k t m
none_in_less y ks k t n m le h i d lt there is = h i d (omega (arith, lt, le)) there is

-- the first rule of one letter's class more
pub first_turn : (y : Spec) (ks : List ℕ) (m : Meaning) (t : Term) (old new before : ℕ) → new ≤ old → IsFirstFor y ks m t old new
    → (old < before → (d : Rule) → rewrites y (get_or y.rules old d) t ≡ true) → new < before → (d : Rule) → rewrites y (get_or y.rules new d) t ≡ true
first_turn y ks m t old new before le f h lt d = by (cases_lt new old)
  where
    by : (new < old) ⊎ (old ≤ new) → rewrites y (get_or y.rules new d) t ≡ true
    by (inl less) = f.rewrites_term less d
    by (inr past) = let same : old ≡ new = omega (arith, le, past) in
        subst (λ n. rewrites y (get_or y.rules n d) t ≡ true) same (h (omega (arith, same, lt)) d)

pub none_turn : (y : Spec) (ks : List ℕ) (ls : List Letter) (i : ℕ) (l : Letter) (t : Term) (old new : ℕ) → new ≤ old → i < length ls → l ≡ get_or ls i l
    → IsFirstFor y ks l.meaning t old new
    → ((j : ℕ) (d : Letter) → j < i → (k : ℕ) → (get_or ls j d).meaning ≡ Symbol k → NoneIn y ks k t old)
    → (j : ℕ) (d : Letter) → j < i + 1 → (k : ℕ) → (get_or ls j d).meaning ≡ Symbol k → NoneIn y ks k t new
none_turn y ks ls i l t old new le lt at f before j d below k e = by (cases_lt j i)
  where
    by : (j < i) ⊎ (i ≤ j) → NoneIn y ks k t new
    by (inl early) = none_in_less y ks k t old new le (before j d early k e)
    by (inr late) =
        let same : i ≡ j = omega (arith, late, below) in
        let here : get_or ls j d ≡ l = ap (λ (n : ℕ). get_or ls n d) (sym same) ∙ get_or_default ls i d l lt ∙ sym at in
        f.none k (ap (λ (z : Letter). z.meaning) (sym here) ∙ e)

pub meant_at : (y : Spec) (ls : List Letter) (i : ℕ) (l : Letter) → i < length ls → l ≡ get_or ls i l → All (λ l. IsMeaning y l.meaning) ls
    → IsMeaning y l.meaning
meant_at y ls i l lt at meant = subst (λ (z : Letter). IsMeaning y z.meaning) (sym at) (meant i l lt)

module _ (rw : Rewriter) (h : IsRewriter rw) where
  pub class_first : (k first : ℕ) → k < length (symbols rw.checked.now.spec) → first ≡ get_or rw.by_class.firsts.items k first
      → IsNext rw.classes.items k 0 first
  class_first k first lt e =
      let counted = h.classed.counted in
      subst (IsNext rw.classes.items k 0) (sym (e ∙ get_or_default rw.by_class.firsts.items k first 0 (omega (arith, lt, counted))))
      (h.classed.heads_next k (omega (arith, lt)))

  pub class_after : (rule after : ℕ) → rule < length rw.checked.now.spec.rules → after ≡ get_or rw.by_class.nexts.items rule after
      → IsNext rw.classes.items (get_or rw.classes.items rule 0) (suc rule) after
  class_after rule after lt e =
      let counted = h.classes.counted in
      let long = h.classed.long in
      let within : rule < length rw.classes.items = omega (arith, lt, counted) in
      subst (IsNext rw.classes.items (get_or rw.classes.items rule 0) (suc rule)) (sym
      (e ∙ get_or_default rw.by_class.nexts.items rule after 0 (omega (arith, within, long)))) (h.classed.nexts_next rule (omega arith) within)

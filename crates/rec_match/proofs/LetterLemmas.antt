-- The items of a specification's terms: each has the arguments that it is declared with.
use Rattle.std.proofs.Common.{refl, sym, ap, subst, arith, ◌∙◌, length, length-append, take, reverse, map}
use Rattle.std.specs.Prelude.{ℕ, zero, suc, ◌≡◌, ◌<◌, ◌+◌, ◌-◌, Bool, true, false, List, [], ◌∷◌, ◌++◌, Option, Some, None, All, get_or, nat_eq, bytes_eq}
use Rattle.std.proofs.lemmas.Bool.{eqb-true}
use Rattle.std.proofs.lemmas.List.{reverse-append, length-map, get_or-map, take-map}
use Rattle.std.proofs.lemmas.List.Elements.{All-nil, All-cons, All-head, All-tail, All-push, All-take}
use Rattle.rec_syntax.specs.Tokens.{Word}
use Rattle.rec_syntax.specs.Syntax.{Term, Terms, Apply, Declaration, Condition, Rule, Spec, subterms}
use Rattle.rec_syntax.specs.Syntax as X
use Rattle.rec_sorts.specs.Lookup.{symbols, names, variable_words, declared, symbol, is_variable, count, condition_terms, rule_terms}
use Rattle.rec_sorts.specs.SpecRules.{fault, is_filled}
use Rattle.rec_sorts.specs.Laws.{Every}
use Rattle.rec_sorts.specs.Numbering.{Named, named, named_all, name_of, named_by, bytes_at, IsMeaning, AreLetters, arity_of, Pairwise, IsLetterRule}
use Rattle.rec_sorts.specs.declared.letters.Letter.{Letter}
use Rattle.rec_sorts.specs.declared.letters.LetterRule.{LetterRule}
use Rattle.rec_sorts.specs.declared.letters.Meaning.TheVariants.{Symbol, Variable}
use Rattle.rec_sorts.proofs.KeptLemmas.{all_filled, left_sides_apply, bytes_eq-eq}
use Rattle.rec_sorts.proofs.BindingLemmas.{bytes_eq-refl}
use Rattle.rec_match.specs.declared.matcher.LeftSide.{LeftSide}
use Rattle.rec_match.specs.Matching.{AreFilled}
use Rattle.rec_match.specs.Inner.Built.{IsHead, IsLeftSide}
use Rattle.rec_match.specs.Ordered.{numbers_in, AreAllBelow}
use Rattle.rec_match.proofs.FactLemmas.{AreBare, facts, every_append, every_flat, every_named, variable_is_one}
use Rattle.rec_match.proofs.ItemLemmas.{get-last}

pub every-at : {A : Type 0} (P : A → Type 0) (xs : List A) → Every P xs → (i : ℕ) (d : A) → i < length xs → P (get_or xs i d)
every-at P [] h i d lt = absurd (let none : ⊥ = omega (arith, lt) in none)
every-at P (x ∷ xs) h zero d lt = h.0
every-at P (x ∷ xs) h (suc i) d lt = every-at P xs h.1 i d (omega (arith, lt))

pub pair-at : {A B : Type 0} (P : A → B → Type 0) (xs : List A) (ys : List B) → Pairwise P xs ys → (i : ℕ) (d : A) (e : B) → i < length ys
    → P (get_or xs i d) (get_or ys i e)
pair-at P [] [] h i d e lt = absurd (let none : ⊥ = omega (arith, lt) in none)
pair-at P [] (y ∷ ys) h i d e lt = absurd h
pair-at P (x ∷ xs) [] h i d e lt = absurd h
pair-at P (x ∷ xs) (y ∷ ys) h zero d e lt = h.0
pair-at P (x ∷ xs) (y ∷ ys) h (suc i) d e lt = pair-at P xs ys h.1 i d e (omega (arith, lt))

pub pair-long : {A B : Type 0} (P : A → B → Type 0) (xs : List A) (ys : List B) → Pairwise P xs ys → length xs ≡ length ys
pair-long P [] [] h = refl
pair-long P [] (y ∷ ys) h = absurd h
pair-long P (x ∷ xs) [] h = absurd h
pair-long P (x ∷ xs) (y ∷ ys) h = ap suc (pair-long P xs ys h.1)

pub all-reverse : {A : Type 0} (P : A → Type 0) (xs : List A) → All P xs → All P (reverse xs)
all-reverse P [] h = All-nil P
all-reverse P (x ∷ xs) h = subst (All P) (sym (reverse-append (x ∷ []) xs))
    (All-push P (reverse xs) x (all-reverse P xs (All-tail P x xs h)) (All-head P x xs h))

-- the declaration at a number is the first of its name, if no other has it
declared-nth : (ds : List Declaration) (k : ℕ) (d : Declaration) → k < length ds
    → ((j : ℕ) → j < k → bytes_at (names ds) j ≡ bytes_at (names ds) k → ⊥) → declared ds (bytes_at (names ds) k) ≡ Some (get_or ds k d)
declared-nth [] k d lt apart = absurd (let none : ⊥ = omega (arith, lt) in none)
declared-nth (e ∷ ds) zero d lt apart = ap at (bytes_eq-refl e.name.bytes)
  where
    at : Bool → Option Declaration
    at b = elim b [ true ↦ Some e | false ↦ declared ds e.name.bytes ]
declared-nth (e ∷ ds) (suc k) d lt apart =
    by (bytes_eq e.name.bytes (bytes_at (names ds) k)) refl (declared-nth ds k d (omega (arith, lt)) (λ j l q. apart (suc j) (omega (arith, l)) q))
  where
    by : (b : Bool) → bytes_eq e.name.bytes (bytes_at (names ds) k) ≡ b → declared ds (bytes_at (names ds) k) ≡ Some (get_or ds k d)
        → ◌≡◌ {A = Option Declaration} (elim b [ true ↦ Some e | false ↦ declared ds (bytes_at (names ds) k) ]) (Some (get_or ds k d))
    by true q later = absurd (apart zero (omega arith) (bytes_eq-eq e.name.bytes (bytes_at (names ds) k) q))
    by false q later = later

-- a name of a term has as many arguments as its symbol
abbrev pub IsFilledName : Spec → Named → Type 0
IsFilledName y m = (k : ℕ) → k < length (symbols y) → m.name ≡ name_of y (Symbol k) → arity_of y k ≡ m.arguments

pub filled-name : (y : Spec) → fault y ≡ None → (w : Word) (ts : Terms) → is_filled y (Apply w ts) ≡ true
    → IsFilledName y (record { name = w.bytes; arguments = count ts })
filled-name y kept w ts filled k lt e =
    let d : Declaration = get_or (symbols y) k none_declared in
    let is : symbol y w.bytes ≡ Some d = ap (symbol y) e ∙ declared-nth (symbols y) k none_declared lt (λ j l q.
    (let same = (facts y kept).symbols_differ j k (omega (arith, l, lt)) lt q in omega (arith, same, l))) in
    let same : nat_eq (count ts) (length d.arguments) ≡ true = sym (ap at is) ∙ filled in
    get_or-map (λ (d : Declaration). length d.arguments) (symbols y) k none_declared 0 lt ∙ sym (eqb-true (count ts) (length d.arguments) same)
  where
    none_declared : Declaration
    none_declared = record { name = w; arguments = []; sort = w }

    at : Option Declaration → Bool
    at o = elim o [ Some d ↦ nat_eq (count ts) (length d.arguments) | None ↦ nat_eq (count ts) 0 ]

-- all names of a rule's terms do
pub record FilledRule (y : Spec) (r : Rule) : Type 0 where
  pub left : Every (IsFilledName y) (named r.left)
  pub right : Every (IsFilledName y) (named r.right)
  pub conditions : Every (λ c. Every (IsFilledName y) (named c.left) × Every (IsFilledName y) (named c.right)) r.conditions

pub filled-rule : (y : Spec) → fault y ≡ None → (i : ℕ) (r : Rule) → i < length y.rules → FilledRule y (get_or y.rules i r)
filled-rule y kept i r lt =
    let each = every_flat (λ t. is_filled y t ≡ true) subterms (rule_terms y.rules ++ y.terms) (all_filled y kept) in
    let split = every_append (λ t. Every (λ u. is_filled y u ≡ true) (subterms t)) (rule_terms y.rules) y.terms each in
    let rules = every_flat (λ t. Every (λ u. is_filled y u ≡ true) (subterms t)) (λ (r : Rule). r.left ∷ r.right ∷ condition_terms r.conditions)
    y.rules split.0 in
    let own = every-at (λ (r : Rule). Every (λ t. Every (λ u. is_filled y u ≡ true) (subterms t)) (r.left ∷ r.right ∷ condition_terms r.conditions))
    y.rules rules i r lt in
    record {
      left = term (get_or y.rules i r).left own.0;
      right = term (get_or y.rules i r).right own.1.0;
      conditions =
          of_conditions (get_or y.rules i r).conditions own.1.1;
    }
  where
    term : (t : Term) → Every (λ u. is_filled y u ≡ true) (subterms t) → Every (IsFilledName y) (named t)
    term t h = every_named (λ u. is_filled y u ≡ true) (IsFilledName y) (filled-name y kept) t h

    of_conditions : (cs : List Condition) → Every (λ t. Every (λ u. is_filled y u ≡ true) (subterms t)) (condition_terms cs)
        → Every (λ c. Every (IsFilledName y) (named c.left) × Every (IsFilledName y) (named c.right)) cs
    of_conditions [] h = tt
    of_conditions (c ∷ cs) h = ((term c.left h.0, term c.right h.1.0), of_conditions cs h.1.1)

-- so do its items
pub letters-filled : (y : Spec) (ls : List Letter) → All (λ l. IsMeaning y l.meaning) ls → Every (IsFilledName y) (map (named_by y) ls) → AreFilled y ls
letters-filled y [] meant h = All-nil (λ (l : Letter). (k : ℕ) → l.meaning ≡ Symbol k → arity_of y k ≡ l.count)
letters-filled y (l ∷ ls) meant h =
    All-cons (λ (l : Letter). (k : ℕ) → l.meaning ≡ Symbol k → arity_of y k ≡ l.count) l ls
    (λ k e. h.0 k (subst (IsMeaning y) e (All-head (λ (l : Letter). IsMeaning y l.meaning) l ls meant)) (ap (name_of y) e))
    (letters-filled y ls (All-tail (λ (l : Letter). IsMeaning y l.meaning) l ls meant) h.1)

-- variables have no arguments
pub letters-bare : (y : Spec) (ls : List Letter) → All (λ l. IsMeaning y l.meaning) ls → AreBare y (map (named_by y) ls)
    → All (λ (l : Letter). (v : ℕ) → l.meaning ≡ Variable v → l.count ≡ 0) ls
letters-bare y [] meant h = All-nil (λ (l : Letter). (v : ℕ) → l.meaning ≡ Variable v → l.count ≡ 0)
letters-bare y (l ∷ ls) meant h =
    All-cons (λ (l : Letter). (v : ℕ) → l.meaning ≡ Variable v → l.count ≡ 0) l ls
    (λ v e. h.0 (ap (λ m. is_variable y (name_of y m)) e ∙ variable_is_one y v
    (subst (IsMeaning y) e (All-head (λ (l : Letter). IsMeaning y l.meaning) l ls meant))))
    (letters-bare y ls (All-tail (λ (l : Letter). IsMeaning y l.meaning) l ls meant) h.1)

take-front : {A : Type 0} (xs ys : List A) (n : ℕ) → n ≡ length xs → take n (xs ++ ys) ≡ xs
take-front [] ys zero e = refl
take-front [] ys (suc n) e = absurd (let none : ⊥ = omega (arith, e) in none)
take-front (x ∷ xs) ys zero e = absurd (let none : ⊥ = omega (arith, e) in none)
take-front (x ∷ xs) ys (suc n) e = ap (λ zs. x ∷ zs) (take-front xs ys n (omega (arith, e)))

-- the items of a term's arguments, and the head's
pub record Parted (y : Spec) (ls : List Letter) (t : Term) : Type 0 where
  pub some : 0 < length ls
  pub front : map (named_by y) (take (length ls - 1) ls) ≡ named_all (X.arguments t)
  pub last : (d : Letter) → named_by y (get_or ls (length ls - 1) d) ≡ record { name = (X.head t).bytes; arguments = count (X.arguments t) }

pub parted : (y : Spec) (ls : List Letter) (t : Term) → AreLetters y ls t → Parted y ls t
parted y ls (Apply w ts) h =
    let m : Named = record { name = w.bytes; arguments = count ts } in
    let long : length ls ≡ length (named_all ts) + 1 = sym (length-map ls (named_by y)) ∙ ap length h.1 ∙ length-append (named_all ts) (m ∷ []) in
    let at : length ls - 1 ≡ length (named_all ts) = omega (arith, long) in
    record {
      some = omega (arith, long);
      front = sym (take-map (named_by y) (length ls - 1) ls) ∙ ap (take (length ls - 1)) h.1 ∙ take-front (named_all ts) (m ∷ []) (length ls - 1) at;
      last = λ d. sym (get_or-map (named_by y) ls (length ls - 1) d (named_by y d) (omega (arith, long)))
          ∙ ap (λ xs. get_or xs (length ls - 1) (named_by y d)) h.1 ∙ get-last (named_all ts) m (length ls - 1) (named_by y d) at;
    }

-- the items of a rule's left-hand side
pub left-letters : (y : Spec) (rules : List LetterRule) (i : ℕ) (x : LetterRule) (r : Rule) → Pairwise (IsLetterRule y) rules y.rules
    → i < length rules → AreLetters y (get_or rules i x).left.items (get_or y.rules i r).left
left-letters y rules i x r are lt =
    (pair-at (IsLetterRule y) rules y.rules are i x r (let l = pair-long (IsLetterRule y) rules y.rules are in omega (arith, lt, l))).0

pub left-some : (y : Spec) (rules : List LetterRule) (i : ℕ) (x : LetterRule) → Pairwise (IsLetterRule y) rules y.rules → i < length rules
    → 0 < length (get_or rules i x).left.items
left-some y rules i x are lt = (parted y (get_or rules i x).left.items (get_or y.rules i (no_rule)).left (left-letters y rules i x no_rule are lt)).some
  where
    no_rule : Rule
    no_rule = record { left = Apply (record { at = 0; bytes = [] }) X.none; right = Apply (record { at = 0; bytes = [] }) X.none; conditions = [] }

-- its head is a symbol
pub head-symbol : (y : Spec) (rules : List LetterRule) (i n k : ℕ) (x : LetterRule) (l : Letter) (r : Rule) → Pairwise (IsLetterRule y) rules y.rules
    → i < length rules → n ≡ length (get_or rules i x).left.items - 1 → l ≡ get_or (get_or rules i x).left.items n l → l.meaning ≡ Symbol k
    → IsHead y (get_or y.rules i r) k
head-symbol y rules i n k x l r are lt en el is =
    let letters = left-letters y rules i x r are lt in
    let p = parted y (get_or rules i x).left.items (get_or y.rules i r).left letters in
    let some = p.some in
    let same : l ≡ get_or (get_or rules i x).left.items (length (get_or rules i x).left.items - 1) l =
    el ∙ ap (λ j. get_or (get_or rules i x).left.items j l) en in
    record {
      declared = subst (IsMeaning y) (ap (λ (z : Letter). z.meaning) (sym same) ∙ is)
          (letters.0 (length (get_or rules i x).left.items - 1) l (omega (arith, some)));
      head = sym (ap (λ (m : Named). m.name) (p.last l)) ∙ ap (λ (z : Letter). name_of y z.meaning) (sym same) ∙ ap (name_of y) is;
    }

pub head-no_variable : (y : Spec) → fault y ≡ None → (rules : List LetterRule) (i n v : ℕ) (x : LetterRule) (l : Letter) (r : Rule)
    → Pairwise (IsLetterRule y) rules y.rules → i < length rules → n ≡ length (get_or rules i x).left.items - 1
    → l ≡ get_or (get_or rules i x).left.items n l → l.meaning ≡ Variable v → ⊥
head-no_variable y kept rules i n v x l r are lt en el is =
    let letters = left-letters y rules i x r are lt in
    let p = parted y (get_or rules i x).left.items (get_or y.rules i r).left letters in
    let some = p.some in
    let long = pair-long (IsLetterRule y) rules y.rules are in
    let same : l ≡ get_or (get_or rules i x).left.items (length (get_or rules i x).left.items - 1) l =
    el ∙ ap (λ j. get_or (get_or rules i x).left.items j l) en in
    let within = subst (IsMeaning y) (ap (λ (z : Letter). z.meaning) (sym same) ∙ is)
    (letters.0 (length (get_or rules i x).left.items - 1) l (omega (arith, some))) in
    let name : (X.head (get_or y.rules i r).left).bytes ≡ name_of y (Variable v) =
    sym (ap (λ (m : Named). m.name) (p.last l)) ∙ ap (λ (z : Letter). name_of y z.meaning) (sym same) ∙ ap (name_of y) is in
    cc (sym (every-at (λ (r : Rule). is_variable y (X.head r.left).bytes ≡ false) y.rules (left_sides_apply y kept) i r (omega (arith, lt, long)))
    ∙ ap (is_variable y) name ∙ variable_is_one y v within)

-- what is kept of a rule's left-hand side
pub is-left : (y : Spec) → fault y ≡ None → (rules : List LetterRule) (i n : ℕ) (x : LetterRule) (l : Letter) (r : Rule) (s : LeftSide)
    → Pairwise (IsLetterRule y) rules y.rules → i < length rules → n ≡ length (get_or rules i x).left.items - 1
    → l ≡ get_or (get_or rules i x).left.items n l → IsHead y (get_or y.rules i r) s.symbol → s.count ≡ l.count
    → s.variables.items ≡ numbers_in [] (take n (get_or rules i x).left.items) → IsLeftSide y (get_or y.rules i r) s
is-left y kept rules i n x l r s are lt en el head ec variables =
    let letters = left-letters y rules i x r are lt in
    let t = (get_or y.rules i r).left in
    let ls = (get_or rules i x).left.items in
    let long = pair-long (IsLetterRule y) rules y.rules are in
    let p = parted y ls t letters in
    let same : l ≡ get_or ls (length ls - 1) l = el ∙ ap (λ j. get_or ls j l) en in
    let counted : count (X.arguments t) ≡ s.count = sym (ap (λ (m : Named). m.arguments) (p.last l)) ∙ ap (λ (z : Letter). z.count) (sym same) ∙ sym ec in
    let filled = (filled-rule y kept i r (omega (arith, lt, long))).left in
    let front : map (named_by y) (take n ls) ≡ named_all (X.arguments t) = ap (λ j. map (named_by y) (take j ls)) en ∙ p.front in
    let meant : All (λ l. IsMeaning y l.meaning) (take n ls) = All-take (λ (l : Letter). IsMeaning y l.meaning) n ls letters.0 in
    let halves = names-split t filled in
    record {
      is_head = head;
      counted = counted;
      filled = sym counted ∙ sym (halves.1 s.symbol head.declared head.head);
      letters = take n ls;
      meant = all-reverse (λ (l : Letter). IsMeaning y l.meaning) (take n ls) meant;
      named = front;
      filled_letters = all-reverse (λ (l : Letter). (k : ℕ) → l.meaning ≡ Symbol k → arity_of y k ≡ l.count) (take n ls)
          (letters-filled y (take n ls) meant (subst (λ ms. Every (IsFilledName y) ms) (sym front) halves.0));
      variables = variables;
    }
  where
    names-split : (t : Term) → Every (IsFilledName y) (named t) → Every (IsFilledName y) (named_all (X.arguments t))
        × IsFilledName y (record { name = (X.head t).bytes; arguments = count (X.arguments t) })
    names-split (Apply w ts) h = let k = every_append (IsFilledName y) (named_all ts) (record { name = w.bytes; arguments = count ts } ∷ []) h in (k.0, k.1.0)

-- the variables of items are those of a specification
pub letters-below : (y : Spec) (v : ℕ) (ls : List Letter) → v ≡ length (variable_words y.variables) → All (λ l. IsMeaning y l.meaning) ls → AreAllBelow v ls
letters-below y v ls ev meant k d lt x is = let h : IsMeaning y (Variable x) = subst (IsMeaning y) is (meant k d lt) in omega (arith, h, ev)

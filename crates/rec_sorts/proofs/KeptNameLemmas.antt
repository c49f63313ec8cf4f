-- Where the declarations keep their rules: which names are operators and variables, and that sorts are equal where their numbers are.
use Rattle.std.proofs.Common.{refl, sym, ap, subst, ◌∙◌, arith, append_assoc}
use Rattle.std.proofs.Common.{eq-eqb}
use Rattle.std.proofs.lemmas.Bool.{eqb-true}
use Rattle.std.proofs.lemmas.Bool.{false≢true, leb-true, le-leb}
use Rattle.std.proofs.lemmas.List.{length-map}
use Rattle.std.proofs.lemmas.Slice.Eq.{bytes_eq-Decides}
use Rattle.std.specs.Prelude.{ℕ, ◌≡◌, ◌+◌, ◌<◌, ◌≤◌, Bool, true, false, ◌&&◌, ◌||◌, List, [], ◌∷◌, ◌++◌}
use Rattle.std.specs.Prelude.{Option, Some, None, length, map, flat_map, nat_eq, nat_le, bytes_eq, is_some}
use Rattle.std.specs.Option.{option_map, option_and_then, option_eq}
use Rattle.rec_syntax.specs.Tokens.{Word}
use Rattle.rec_syntax.specs.Syntax.{Declaration, Variables, Spec}
use Rattle.rec_sorts.specs.Lookup.{mentions, repeated, symbols, names, variable_words, declared, symbol, is_variable, variable_sort, same_sort}
use Rattle.rec_sorts.specs.SpecRules.{sorts_of, repeated_symbols, taken_variables, unknown_sorts}
use Rattle.rec_sorts.specs.Laws.{Every}
use Rattle.rec_sorts.specs.Names.{first_at}
use Rattle.rec_sorts.specs.Scope.{meaning_of, is_operator}
use Rattle.rec_sorts.specs.Reading.{is_unbound}
use Rattle.rec_sorts.specs.Agreeing.{IsScope}
use Rattle.rec_sorts.specs.declared.letters.Meaning.{Meaning}
use Rattle.rec_sorts.specs.declared.letters.Meaning.TheVariants.{Variable}
use Rattle.rec_sorts.specs.declared.scope.Scope.{Scope}
use Rattle.rec_sorts.proofs.KeptLemmas.{bytes_eq-eq, repeated_none, not_before, missing_none}
use Rattle.rec_sorts.proofs.TableLemmas.{is_some-first_at}
use Rattle.rec_sorts.proofs.StackLemmas.{map-append}
use Rattle.rec_sorts.proofs.MeaningLemmas.{first_at-among, first_at-after, first_at-one, mentions-declared}
use Rattle.rec_sorts.proofs.MeaningLemmas.{meaning-symbol, meaning-variable, some_number, some_same, shifted}

shifted_least : (n : ℕ) (o : Option ℕ) (k : ℕ) → shifted n o ≡ Some k → n ≤ k
shifted_least n None k e = absurd (cc e)
shifted_least n (Some j) k e = let moved : j + n ≡ k = cc e in omega arith

lt-leb : (m n : ℕ) → n < m → nat_le m n ≡ false
lt-leb m n h = by_test (nat_le m n) refl
  where
    by_test : (b : Bool) → nat_le m n ≡ b → nat_le m n ≡ false
    by_test true e = absurd (omega (arith, leb-true m n e))
    by_test false e = e

or_false : (a b : Bool) → a || b ≡ false → (a ≡ false) × (b ≡ false)
or_false false b e = (refl, e)
or_false true b e = absurd (cc e)

abbrev repeated_test : Bool → Word → List Word → List Word → List Word
repeated_test b w before ws = elim b [ true ↦ w ∷ repeated before ws | false ↦ repeated (w ∷ before) ws ]

-- if no word repeats, a name is not both among the first ones and the others
pub apart : (before xs ys : List Word) (name : List ℕ) → repeated before (xs ++ ys) ≡ [] → mentions ys name ≡ true
    → (mentions xs name ≡ false) × (mentions before name ≡ false)
apart before [] ys name e h = (refl, not_before before ys name (repeated_none before ys e) h)
apart before (x ∷ xs) ys name e h = by_test (mentions before x.bytes) e (λ k. apart (x ∷ before) xs ys name k h)
  where
    by_test : (b : Bool) → repeated_test b x before (xs ++ ys) ≡ []
        → (repeated (x ∷ before) (xs ++ ys) ≡ [] → (mentions xs name ≡ false) × (bytes_eq x.bytes name || mentions before name ≡ false))
        → (bytes_eq x.bytes name || mentions xs name ≡ false) × (mentions before name ≡ false)
    by_test true k later = absurd (cc k)
    by_test false k later =
        let l = later k in
        let o = or_false (bytes_eq x.bytes name) (mentions before name) l.1 in
        (ap (λ b. b || mentions xs name) o.0 ∙ l.0, o.1)

pub mentions-append : (xs ys : List Word) (name : List ℕ) → mentions (xs ++ ys) name ≡ mentions xs name || mentions ys name
mentions-append [] ys name = refl
mentions-append (x ∷ xs) ys name = ap (λ b. bytes_eq x.bytes name || b) (mentions-append xs ys name)
    ∙ sym (or_assoc (bytes_eq x.bytes name) (mentions xs name) (mentions ys name))
  where
    or_assoc : (a b c : Bool) → (a || b) || c ≡ a || (b || c)
    or_assoc true b c = refl
    or_assoc false b c = refl

names-append : (ds es : List Declaration) → names (ds ++ es) ≡ names ds ++ names es
names-append ds es = map-append (λ d. d.name) ds es

module _ (y : Spec) (s : Scope) (h : IsScope y s) where
  abbrev words : List Word
  words = names (symbols y) ++ variable_words y.variables

  operator-variable : (o : Option ℕ) → is_operator s (option_map (λ k. Variable k) o) ≡ false
  operator-variable None = refl
  operator-variable (Some k) = refl

  -- a name is an operator's if it represents one
  pub is_operator-name : repeated_symbols y ≡ [] → (name : List ℕ) → is_operator s (meaning_of s name) ≡ mentions (names y.operators) name
  is_operator-name distinct name = by_symbol (symbol y name) refl
    where
      both : (name : List ℕ) → mentions (names (symbols y)) name ≡ mentions (names y.constructors) name || mentions (names y.operators) name
      both n = ap (λ ws. mentions ws n) (names-append y.constructors y.operators) ∙ mentions-append (names y.constructors) (names y.operators) n

      distinct_names : repeated [] (names y.constructors ++ names y.operators) ≡ []
      distinct_names = ap (repeated []) (sym (names-append y.constructors y.operators)) ∙ distinct

      split : first_at words name ≡ first_at (names y.constructors ++ (names y.operators ++ variable_words y.variables)) name
      split = ap (λ ws. first_at ws name) (ap (λ ws. ws ++ variable_words y.variables) (names-append y.constructors y.operators)
          ∙ append_assoc (names y.constructors) (names y.operators) (variable_words y.variables))

      long : length (names y.constructors) ≡ length y.constructors
      long = length-map y.constructors (λ d. d.name)

      by_constructor : (k : ℕ) → first_at words name ≡ Some k → mentions (names (symbols y)) name ≡ true → (b : Bool)
          → mentions (names y.constructors) name ≡ b → nat_le s.constructors k ≡ mentions (names y.operators) name
      by_constructor k at there true is =
          let f = first_at-among (names y.constructors) (names y.operators ++ variable_words y.variables) name is in
          let same : f.place ≡ k = some_number f.place k (sym f.found ∙ sym split ∙ at) in
          let low : k < s.constructors = omega (arith, f.within, same, long, h.constructors_counted) in
          lt-leb s.constructors k low ∙ sym (no_operator (mentions (names y.operators) name) refl)
        where
          no_operator : (b : Bool) → mentions (names y.operators) name ≡ b → mentions (names y.operators) name ≡ false
          no_operator true m = absurd (false≢true (sym (apart [] (names y.constructors) (names y.operators) name distinct_names m).0 ∙ is))
          no_operator false m = m
      by_constructor k at there false is =
          let moved : shifted (length (names y.constructors)) (first_at (names y.operators ++ variable_words y.variables) name) ≡ Some k =
          sym (first_at-after (names y.constructors) (names y.operators ++ variable_words y.variables) name is) ∙ sym split ∙ at in
          let high : length (names y.constructors) ≤ k = shifted_least (length (names y.constructors))
          (first_at (names y.operators ++ variable_words y.variables) name) k moved in
          le-leb s.constructors k (omega (arith, high, long, h.constructors_counted))
          ∙ sym there ∙ both name ∙ ap (λ b. b || mentions (names y.operators) name) is

      by_symbol : (o : Option Declaration) → symbol y name ≡ o → is_operator s (meaning_of s name) ≡ mentions (names y.operators) name
      by_symbol (Some d) e =
          let f = meaning-symbol y s h name d e in
          ap (is_operator s) f.4 ∙ by_constructor f.0 f.2 (mentions-declared (symbols y) name ∙ ap is_some e) (mentions (names y.constructors) name) refl
      by_symbol None e =
          ap (is_operator s) (meaning-variable y s h name e)
          ∙ operator-variable (first_at (variable_words y.variables) name)
          ∙ sym (or_false (mentions (names y.constructors) name) (mentions (names y.operators) name)
          (sym (both name) ∙ mentions-declared (symbols y) name ∙ ap is_some e)).1

  -- a symbol is no variable
  pub no_variable : taken_variables y ≡ [] → (name : List ℕ) (d : Declaration) → symbol y name ≡ Some d → is_variable y name ≡ false
  no_variable distinct name d e = by_test (is_variable y name) refl
    where
      by_test : (b : Bool) → is_variable y name ≡ b → is_variable y name ≡ false
      by_test true m =
          absurd (false≢true (sym (not_before (names (symbols y)) (variable_words y.variables) name
          (repeated_none (names (symbols y)) (variable_words y.variables) distinct) m)
          ∙ mentions-declared (symbols y) name ∙ ap is_some e))
      by_test false m = m

  -- a name is a variable's if it represents one
  pub is_unbound-name : taken_variables y ≡ [] → (bound : ℕ → Bool) (name : List ℕ)
      → is_unbound bound (meaning_of s name) ≡ is_variable y name && is_unbound bound (meaning_of s name)
  is_unbound-name distinct bound name = by_symbol (symbol y name) refl
    where
      by_number : (o : Option ℕ) (b : Bool) → is_some o ≡ b → is_unbound bound (option_map (λ k. Variable k) o) ≡ b && is_unbound bound
          (option_map (λ k. Variable k) o)
      by_number None b e = by_false b e
        where
          by_false : (b : Bool) → false ≡ b → false ≡ b && false
          by_false true e = refl
          by_false false e = refl
      by_number (Some k) true e = refl
      by_number (Some k) false e = absurd (false≢true (sym e))

      by_symbol : (o : Option Declaration) → symbol y name ≡ o → is_unbound bound (meaning_of s name) ≡ is_variable y name && is_unbound bound
          (meaning_of s name)
      by_symbol (Some d) e =
          let f = meaning-symbol y s h name d e in
          ap (is_unbound bound) f.4 ∙ sym (ap (λ b. b && is_unbound bound (meaning_of s name)) (no_variable distinct name d e))
      by_symbol None e =
          let m = meaning-variable y s h name e in
          ap (is_unbound bound) m
          ∙ by_number (first_at (variable_words y.variables) name) (is_variable y name) (is_some-first_at (variable_words y.variables) name)
          ∙ ap (λ (o : Option Meaning). is_variable y name && is_unbound bound o) (sym m)

-- a sort is declared, if there is one
abbrev pub IsKnown : List Word → Option (List ℕ) → Type 0
IsKnown sorts None = Unit {0}
IsKnown sorts (Some b) = mentions sorts b ≡ true

number_known : (ws : List Word) (b : List ℕ) → mentions ws b ≡ true → (k : ℕ) × (first_at ws b ≡ Some k)
number_known ws b e = by_number (first_at ws b) refl
  where
    by_number : (o : Option ℕ) → first_at ws b ≡ o → (k : ℕ) × (first_at ws b ≡ Some k)
    by_number None n = absurd (false≢true (sym (ap is_some n) ∙ is_some-first_at ws b ∙ e))
    by_number (Some k) n = (k, n)

bytes_eq-same : (a : List ℕ) → bytes_eq a a ≡ true
bytes_eq-same a = (bytes_eq-Decides a a).1 refl

-- declared sorts are equal where their numbers are
same_numbers : (ws : List Word) (a b : List ℕ) (j k : ℕ) → first_at ws a ≡ Some j → first_at ws b ≡ Some k → nat_eq j k ≡ bytes_eq a b
same_numbers ws a b j k e f = by_bytes (bytes_eq a b) refl
  where
    by_number : (c : Bool) → nat_eq j k ≡ c → bytes_eq a b ≡ false → nat_eq j k ≡ false
    by_number true n differ =
        let same : j ≡ k = eqb-true j k n in
        absurd (false≢true (sym differ ∙ ap (bytes_eq a) (sym (first_at-one ws a b j e (f ∙ ap (λ (m : ℕ). Some m) (sym same)))) ∙ bytes_eq-same a))
    by_number false n differ = n

    by_bytes : (c : Bool) → bytes_eq a b ≡ c → nat_eq j k ≡ c
    by_bytes true is =
        let same : ◌≡◌ {A = Option ℕ} (Some j) (Some k) = sym e ∙ ap (first_at ws) (bytes_eq-eq a b is) ∙ f in
        eq-eqb j k (some_number j k same)
    by_bytes false is = by_number (nat_eq j k) refl is

-- so sorts are compared by their numbers
pub option_eq-numbers : (ws : List Word) (o p : Option (List ℕ)) → IsKnown ws o → IsKnown ws p
    → option_eq nat_eq (option_and_then (first_at ws) o) (option_and_then (first_at ws) p) ≡ same_sort o p
option_eq-numbers ws None None h k = refl
option_eq-numbers ws None (Some b) h k = let n = number_known ws b k in ap (λ q. option_eq nat_eq None q) n.1
option_eq-numbers ws (Some a) None h k = let m = number_known ws a h in ap (λ q. option_eq nat_eq q None) m.1
option_eq-numbers ws (Some a) (Some b) h k =
    let m = number_known ws a h in
    let n = number_known ws b k in
    ap (λ q. option_eq nat_eq q (first_at ws b)) m.1 ∙ ap (option_eq nat_eq (Some m.0)) n.1 ∙ same_numbers ws a b m.0 n.0 m.1 n.1

abbrev pub AreKnown : List Word → List Word → Type 0
AreKnown sorts ws = Every (λ w. mentions sorts w.bytes ≡ true) ws

known_first : (sorts xs ys : List Word) → AreKnown sorts (xs ++ ys) → AreKnown sorts xs
known_first sorts [] ys h = tt
known_first sorts (x ∷ xs) ys h = (h.0, known_first sorts xs ys h.1)

known_rest : (sorts xs ys : List Word) → AreKnown sorts (xs ++ ys) → AreKnown sorts ys
known_rest sorts [] ys h = h
known_rest sorts (x ∷ xs) ys h = known_rest sorts xs ys h.1

known_symbol : (sorts : List Word) (ds : List Declaration) (name : List ℕ) (d : Declaration) → AreKnown sorts (flat_map sorts_of ds)
    → declared ds name ≡ Some d → AreKnown sorts (sorts_of d)
known_symbol sorts [] name d h e = absurd (cc e)
known_symbol sorts (c ∷ ds) name d h e = by_test (bytes_eq c.name.bytes name) e (λ k.
    known_symbol sorts ds name d (known_rest sorts (sorts_of c) (flat_map sorts_of ds) h) k)
  where
    by_test : (b : Bool) → ◌≡◌ {A = Option Declaration} (elim b [ true ↦ Some c | false ↦ declared ds name ]) (Some d)
        → (declared ds name ≡ Some d → AreKnown sorts (sorts_of d)) → AreKnown sorts (sorts_of d)
    by_test true k later = subst (λ x. AreKnown sorts (sorts_of x)) (some_same c d k) (known_first sorts (sorts_of c) (flat_map sorts_of ds) h)
    by_test false k later = later k

known_variable : (sorts : List Word) (vs : List Variables) (name : List ℕ) → AreKnown sorts (map (λ v. v.sort) vs) → IsKnown sorts (variable_sort vs name)
known_variable sorts [] name h = tt
known_variable sorts (v ∷ vs) name h = by_test (mentions (v.first ∷ v.others) name) (known_variable sorts vs name h.1)
  where
    by_test : (b : Bool) → IsKnown sorts (variable_sort vs name)
        → IsKnown sorts (elim b as (λ _. Option (List ℕ)) [ true ↦ Some v.sort.bytes | false ↦ variable_sort vs name ])
    by_test true later = h.0
    by_test false later = later

module _ (y : Spec) (kept : unknown_sorts y ≡ []) where
  all_known : AreKnown y.sorts (flat_map sorts_of (symbols y) ++ map (λ v. v.sort) y.variables)
  all_known = missing_none y.sorts (flat_map sorts_of (symbols y) ++ map (λ v. v.sort) y.variables) kept

  -- the sorts of a symbol are declared
  pub sorts_known : (name : List ℕ) (d : Declaration) → symbol y name ≡ Some d → AreKnown y.sorts (sorts_of d)
  sorts_known name d e = known_symbol y.sorts (symbols y) name d
      (known_first y.sorts (flat_map sorts_of (symbols y)) (map (λ v. v.sort) y.variables) all_known) e

  -- so are those of its arguments
  pub arguments_known : (name : List ℕ) (d : Declaration) → symbol y name ≡ Some d → AreKnown y.sorts d.arguments
  arguments_known name d e = known_first y.sorts d.arguments (d.sort ∷ []) (sorts_known name d e)

  -- the sort of a name is declared
  pub sort_known : (name : List ℕ)
      → IsKnown y.sorts (elim (symbol y name) as (λ _. Option (List ℕ)) [ Some d ↦ Some d.sort.bytes | None ↦ variable_sort y.variables name ])
  sort_known name = by_symbol (symbol y name) refl
    where
      by_symbol : (o : Option Declaration) → symbol y name ≡ o → IsKnown y.sorts
          (elim o as (λ _. Option (List ℕ)) [ Some d ↦ Some d.sort.bytes | None ↦ variable_sort y.variables name ])
      by_symbol (Some d) e = (known_rest y.sorts d.arguments (d.sort ∷ []) (sorts_known name d e)).0
      by_symbol None e = known_variable y.sorts y.variables name (known_rest y.sorts (flat_map sorts_of (symbols y)) (map (λ v. v.sort) y.variables) all_known)

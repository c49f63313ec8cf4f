-- Names and their numbers, sorts and declarations.
use Rattle.std.proofs.Common.{refl, sym, ap, ◌∙◌, arith, cond, append_assoc}
use Rattle.rec_sorts.proofs.KeptLemmas.{bytes_eq-eq}
use Rattle.std.specs.Prelude.{ℕ, suc, ◌≡◌, ◌+◌, Bool, true, false, ◌||◌, not, List, [], ◌∷◌, ◌++◌, Option, Some, None, is_some, option_map}
use Rattle.std.specs.Prelude.{zero, ◌-◌, ◌<◌, ◌≤◌, get_or, take, drop, length, map, flat_map, filter, slice_get, bytes_eq, option_and_then}
use Rattle.rec_syntax.specs.Tokens.{Word}
use Rattle.rec_syntax.specs.Syntax.{Declaration, Variables, Spec}
use Rattle.rec_sorts.specs.Lookup.{mentions, repeated, names, declared, symbols, symbol, variable_words, variable_sort}
use Rattle.rec_sorts.specs.Names.{first_at, given_first}
use Rattle.rec_sorts.specs.SpecRules.{missing}
use Rattle.rec_sorts.proofs.StackLemmas.{map-append}
use Rattle.rec_sorts.proofs.TableLemmas.{same_function}
use Rattle.std.proofs.lemmas.List.{append-nil, length-map, length-take, take_all, take_more}
use Rattle.rec_sorts.proofs.TurnLemmas.{drop-turn}
use Rattle.rec_check.specs.Named.{as_word, as_words}
use Rattle.rec_check.specs.declared.located.Word as named
use Rattle.rec_check.specs.Lookups.{IsNoted, IsScope, Knows, number_in, present, sort_named, all_sorts, where_known}
use Rattle.rec_check.specs.declared.names.Names.{Names}
use Rattle.rec_check.specs.declared.scope.Scope.{Scope}

-- a name is mentioned where it has a number
pub mentions-first_at : (ws : List Word) (name : List ℕ) → mentions ws name ≡ is_some (first_at ws name)
mentions-first_at [] name = refl
mentions-first_at (w ∷ ws) name = by_test (bytes_eq w.bytes name) (first_at ws name) (mentions-first_at ws name)
  where
    by_test : (b : Bool) (o : Option ℕ) → mentions ws name ≡ is_some o
        → b || mentions ws name ≡ is_some (elim b as (λ _. Option ℕ) [ true ↦ Some 0 | false ↦ option_map suc o ])
    by_test true o h = refl
    by_test false None h = h
    by_test false (Some k) h = h

-- the numbers where one word more stands behind
pub first_at-push : (ws : List Word) (w : Word) (name : List ℕ) → first_at (ws ++ w ∷ []) name ≡ given_first (first_at ws) w.bytes (length ws) name
first_at-push [] w name = refl
first_at-push (v ∷ ws) w name = by_test (bytes_eq v.bytes name) (first_at ws name) (bytes_eq w.bytes name) (first_at-push ws w name)
  where
    given : Option ℕ → Bool → ℕ → Option ℕ
    given o c n = elim o [ Some k ↦ Some k | None ↦ elim c [ true ↦ Some n | false ↦ None ] ]

    by_test : (b : Bool) (o : Option ℕ) (c : Bool) → first_at (ws ++ w ∷ []) name ≡ given o c (length ws)
        → (elim b as (λ _. Option ℕ) [ true ↦ Some 0 | false ↦ option_map suc (first_at (ws ++ w ∷ []) name) ])
        ≡ given (elim b as (λ _. Option ℕ) [ true ↦ Some 0 | false ↦ option_map suc o ]) c (suc (length ws))
    by_test true o c h = refl
    by_test false (Some k) c h = ap (option_map suc) h
    by_test false None true h = ap (option_map suc) h
    by_test false None false h = ap (option_map suc) h

-- one name more is noted
pub first_at_turn : (f g : List ℕ → Option ℕ) (ws : List Word) (w : Word) (n : ℕ) → n ≡ length ws → ((name : List ℕ) → f name ≡ first_at ws name)
    → ((name : List ℕ) → g name ≡ given_first f w.bytes n name)
    → (name : List ℕ) → g name ≡ first_at (ws ++ w ∷ []) name
first_at_turn f g ws w n e h k name =
    k name
    ∙ ap (λ (m : ℕ). given_first f w.bytes m name) e
    ∙ ap (λ (q : List ℕ → Option ℕ). given_first q w.bytes (length ws) name) (same_function h)
    ∙ sym (first_at-push ws w name)

-- a name that has a number keeps it
pub given_first-had : (g : List ℕ → Option ℕ) (name : List ℕ) (number : ℕ) (other : List ℕ) → is_some (g name) ≡ true
    → g other ≡ given_first g name number other
given_first-had g name number other h = by_bytes (bytes_eq name other) refl (g other) refl
  where
    by_bytes : (b : Bool) → bytes_eq name other ≡ b → (o : Option ℕ) → g other ≡ o
        → o ≡ (elim o [ Some k ↦ Some k | None ↦ elim b [ true ↦ Some number | false ↦ None ] ])
    by_bytes b is (Some k) at = refl
    by_bytes false is None at = refl
    by_bytes true is None at =
        let none : g name ≡ None = ap g (bytes_eq-eq name other is) ∙ at in
        let wrong : false ≡ true = sym (ap is_some none) ∙ h in
        absurd (cc wrong)

pub noted-known : (f g : List ℕ → Option ℕ) (w : Word) (number : ℕ) → ((name : List ℕ) → g name ≡ given_first f w.bytes number name) → (name : List ℕ)
    → is_some (g name) ≡ bytes_eq w.bytes name || is_some (f name)
noted-known f g w number h name = ap is_some (h name) ∙ by_cases (f name) (bytes_eq w.bytes name)
  where
    by_cases : (o : Option ℕ) (b : Bool)
        → is_some (elim o as (λ _. Option ℕ) [ Some k ↦ Some k | None ↦ elim b [ true ↦ Some number | false ↦ None ] ]) ≡ b || is_some o
    by_cases (Some k) true = refl
    by_cases (Some k) false = refl
    by_cases None true = refl
    by_cases None false = refl

-- the declaration of a symbol stands at the number of its name
pub declared-number : (ds : List Declaration) (us : List Word) (name : List ℕ)
    → declared ds name ≡ option_and_then (slice_get ds) (first_at (names ds ++ us) name)
declared-number [] us name = by_number (first_at us name)
  where
    by_number : (o : Option ℕ) → ◌≡◌ {A = Option Declaration} None (option_and_then (slice_get []) o)
    by_number None = refl
    by_number (Some k) = refl
declared-number (d ∷ ds) us name = by_test (bytes_eq d.name.bytes name) (first_at (names ds ++ us) name) (declared-number ds us name)
  where
    by_test : (b : Bool) (o : Option ℕ) → declared ds name ≡ option_and_then (slice_get ds) o
        → (elim b as (λ _. Option Declaration) [ true ↦ Some d | false ↦ declared ds name ]) ≡ option_and_then (slice_get (d ∷ ds))
        (elim b as (λ _. Option ℕ) [ true ↦ Some 0 | false ↦ option_map suc o ])
    by_test true o h = refl
    by_test false None h = h
    by_test false (Some k) h = h

-- the bytes of the sort at the place of a name
abbrev looked_up : List Word → List Word → List ℕ → Option (List ℕ)
looked_up [] ss name = None
looked_up (w ∷ ws) [] name = None
looked_up (w ∷ ws) (s ∷ ss) name = cond (bytes_eq w.bytes name) (Some s.bytes) (looked_up ws ss name)

abbrev sort_at : List Word → ℕ → Option (List ℕ)
sort_at ss k = option_map (λ w. w.bytes) (slice_get ss k)

looked_up-number : (ws ss : List Word) (name : List ℕ) → looked_up ws ss name ≡ option_and_then (sort_at ss) (first_at ws name)
looked_up-number [] ss name = refl
looked_up-number (w ∷ ws) [] name = by_number (first_at (w ∷ ws) name)
  where
    by_number : (o : Option ℕ) → ◌≡◌ {A = Option (List ℕ)} None (option_and_then (sort_at []) o)
    by_number None = refl
    by_number (Some k) = refl
looked_up-number (w ∷ ws) (s ∷ ss) name = by_test (bytes_eq w.bytes name) (first_at ws name) (looked_up-number ws ss name)
  where
    by_test : (b : Bool) (o : Option ℕ) → looked_up ws ss name ≡ option_and_then (sort_at ss) o
        → cond b (Some s.bytes) (looked_up ws ss name) ≡ option_and_then (sort_at (s ∷ ss))
        (elim b as (λ _. Option ℕ) [ true ↦ Some 0 | false ↦ option_map suc o ])
    by_test true o h = refl
    by_test false None h = h
    by_test false (Some k) h = h

-- words that all have one sort
looked_up-same : (s : Word) (vs ws ss : List Word) (name : List ℕ)
    → looked_up (vs ++ ws) (map (λ _. s) vs ++ ss) name ≡ cond (mentions vs name) (Some s.bytes) (looked_up ws ss name)
looked_up-same s [] ws ss name = refl
looked_up-same s (v ∷ vs) ws ss name = by_test (bytes_eq v.bytes name) (looked_up-same s vs ws ss name)
  where
    by_test : (b : Bool) → looked_up (vs ++ ws) (map (λ _. s) vs ++ ss) name ≡ cond (mentions vs name) (Some s.bytes) (looked_up ws ss name)
        → cond b (Some s.bytes) (looked_up (vs ++ ws) (map (λ _. s) vs ++ ss) name) ≡ cond (b || mentions vs name) (Some s.bytes) (looked_up ws ss name)
    by_test true h = refl
    by_test false h = h

abbrev group_sorts : List Variables → List Word
group_sorts vs = flat_map (λ v. map (λ _. v.sort) (v.first ∷ v.others)) vs

looked_up-variable : (vs : List Variables) (name : List ℕ) → variable_sort vs name ≡ looked_up (variable_words vs) (group_sorts vs) name
looked_up-variable [] name = refl
looked_up-variable (v ∷ vs) name =
    by_test (mentions (v.first ∷ v.others) name) (looked_up-variable vs name)
    ∙ sym (looked_up-same v.sort (v.first ∷ v.others) (variable_words vs) (group_sorts vs) name)
  where
    by_test : (b : Bool) → variable_sort vs name ≡ looked_up (variable_words vs) (group_sorts vs) name
        → (elim b as (λ _. Option (List ℕ)) [ true ↦ Some v.sort.bytes | false ↦ variable_sort vs name ]) ≡ cond b (Some v.sort.bytes)
        (looked_up (variable_words vs) (group_sorts vs) name)
    by_test true h = refl
    by_test false h = h

abbrev sort_of_declared : Option Declaration → Option (List ℕ) → Option (List ℕ)
sort_of_declared o other = elim o [ Some d ↦ Some d.sort.bytes | None ↦ other ]

looked_up-declared : (ds : List Declaration) (vs : List Variables) (name : List ℕ)
    → sort_of_declared (declared ds name) (variable_sort vs name) ≡ looked_up (names ds ++ variable_words vs) (map (λ d. d.sort) ds ++ group_sorts vs) name
looked_up-declared [] vs name = looked_up-variable vs name
looked_up-declared (d ∷ ds) vs name = by_test (bytes_eq d.name.bytes name) (looked_up-declared ds vs name)
  where
    by_test : (b : Bool) → sort_of_declared (declared ds name) (variable_sort vs name) ≡ looked_up (names ds ++ variable_words vs)
        (map (λ d. d.sort) ds ++ group_sorts vs) name
        → sort_of_declared (elim b as (λ _. Option Declaration) [ true ↦ Some d | false ↦ declared ds name ]) (variable_sort vs name) ≡ cond b
        (Some d.sort.bytes) (looked_up (names ds ++ variable_words vs) (map (λ d. d.sort) ds ++ group_sorts vs) name)
    by_test true h = refl
    by_test false h = h

-- the sort of a name stands at its number
pub sort_named-number : (y : Spec) (name : List ℕ) → sort_named y name ≡ option_and_then (λ k. option_map (λ w. w.bytes) (slice_get (all_sorts y) k))
    (first_at (names (symbols y) ++ variable_words y.variables) name)
sort_named-number y name =
    looked_up-declared (symbols y) y.variables name
    ∙ looked_up-number (names (symbols y) ++ variable_words y.variables) (all_sorts y) name

-- words that have the bytes of one before them, by which bytes were before
abbrev pub repeated_by : (List ℕ → Bool) → List Word → List Word
repeated_by had [] = []
repeated_by had (w ∷ ws) = cond (had w.bytes) (w ∷ []) [] ++ repeated_by (λ name. bytes_eq w.bytes name || had name) ws

-- a word that was before adds nothing
had-before : (had : List ℕ → Bool) (bytes : List ℕ) → had bytes ≡ true → (λ name. bytes_eq bytes name || had name) ≡ had
had-before had bytes h = same_function (λ name. by_bytes name (bytes_eq bytes name) refl)
  where
    by_bytes : (name : List ℕ) (b : Bool) → bytes_eq bytes name ≡ b → b || had name ≡ had name
    by_bytes name true e = sym (ap had (sym (bytes_eq-eq bytes name e)) ∙ h)
    by_bytes name false e = refl

pub repeated-by : (before ws : List Word) → repeated before ws ≡ repeated_by (mentions before) ws
repeated-by before [] = refl
repeated-by before (w ∷ ws) = by_test (mentions before w.bytes) refl (repeated-by before ws) (repeated-by (w ∷ before) ws)
  where
    after : Bool → List Word
    after b = elim b [ true ↦ w ∷ repeated before ws | false ↦ repeated (w ∷ before) ws ]

    by_test : (b : Bool) → mentions before w.bytes ≡ b → repeated before ws ≡ repeated_by (mentions before) ws
        → repeated (w ∷ before) ws ≡ repeated_by (mentions (w ∷ before)) ws
        → after b ≡ cond b (w ∷ []) [] ++ repeated_by (λ name. bytes_eq w.bytes name || mentions before name) ws
    by_test true e h k = ap (λ us. w ∷ us) (h ∙ ap (λ (f : List ℕ → Bool). repeated_by f ws) (sym (had-before (mentions before) w.bytes e)))
    by_test false e h k = k

-- one word more is asked
pub repeated_turn : (f g : List ℕ → Bool) (w : Word) (ws found new all : List Word) → new ≡ found ++ cond (f w.bytes) (w ∷ []) []
    → ((name : List ℕ) → g name ≡ bytes_eq w.bytes name || f name)
    → found ++ repeated_by f (w ∷ ws) ≡ all → new ++ repeated_by g ws ≡ all
repeated_turn f g w ws found new all grown noted before =
    ap (λ us. us ++ repeated_by g ws) grown
    ∙ append_assoc found (cond (f w.bytes) (w ∷ []) []) (repeated_by g ws)
    ∙ ap (λ (h : List ℕ → Bool). found ++ (cond (f w.bytes) (w ∷ []) [] ++ repeated_by h ws)) (same_function noted)
    ∙ before

-- the words whose names are known, by a test
pub missing-by : (n : Names) (ks ws : List Word) → Knows n ks → filter (λ w. not (is_some (number_in n w.bytes))) ws ≡ missing ks ws
missing-by n ks ws h = ap (λ (f : Word → Bool). filter f ws) (same_function (λ w. ap not (h w.bytes)))

pub present-by : (n : Names) (ks ws : List Word) → Knows n ks → filter (λ w. is_some (number_in n w.bytes)) ws ≡ present ks ws
present-by n ks ws h = ap (λ (f : Word → Bool). filter f ws) (same_function (λ w. h w.bytes))

-- ---- loops over words with their bytes

-- one word more has a number
pub noted_words : (f g : List ℕ → Option ℕ) (xs : List named.Word) (i : ℕ) (d : named.Word) → i < length xs
    → ((name : List ℕ) → f name ≡ first_at (as_words (take i xs)) name)
    → ((name : List ℕ) → g name ≡ given_first f (get_or xs i d).bytes.now i name) → (name : List ℕ) → g name ≡ first_at (as_words (take (i + 1) xs)) name
noted_words f g xs i d h k n name =
    let long : i ≡ length (as_words (take i xs)) = omega (arith, h, length-map (take i xs) as_word, length-take i xs) in
    first_at_turn f g (as_words (take i xs)) (as_word (get_or xs i d)) i long k n name
    ∙ ap (λ ws. first_at ws name) (sym (ap (map as_word) (take_more xs i d h) ∙ map-append as_word (take i xs) (get_or xs i d ∷ [])))

-- all words have their numbers
pub all_numbered : (f : List ℕ → Option ℕ) (xs : List named.Word) (i : ℕ) → length xs ≤ i
    → ((name : List ℕ) → f name ≡ first_at (as_words (take i xs)) name) → (name : List ℕ) → f name ≡ first_at (as_words xs) name
all_numbered f xs i past h name = h name ∙ ap (λ ys. first_at (as_words ys) name) (take_all i xs past)

-- before the first word
pub repeated_begin : (n : Names) (before ws : List Word) (found : List named.Word) → found ≡ [] → Knows n before
    → as_words found ++ repeated_by (λ name. is_some (number_in n name)) ws ≡ repeated before ws
repeated_begin n before ws found e h =
    ap (λ us. as_words us ++ repeated_by (λ name. is_some (number_in n name)) ws) e
    ∙ ap (λ (f : List ℕ → Bool). repeated_by f ws) (same_function h)
    ∙ sym (repeated-by before ws)

-- one word more is asked
pub repeated_item : (n m : Names) (xs : List named.Word) (i : ℕ) (d : named.Word) (found new : List named.Word) (all : List Word) → i < length xs
    → as_words new ≡ as_words found ++ where_known n (as_word (get_or xs i d)) → IsNoted n m (as_word (get_or xs i d))
    → as_words found ++ repeated_by (λ name. is_some (number_in n name)) (as_words (drop i xs)) ≡ all
    → as_words new ++ repeated_by (λ name. is_some (number_in m name)) (as_words (drop (i + 1) xs)) ≡ all
repeated_item n m xs i d found new all h grown noted before =
    repeated_turn (λ name. is_some (number_in n name)) (λ name. is_some (number_in m name)) (as_word (get_or xs i d)) (as_words (drop (i + 1) xs))
    (as_words found) (as_words new) all grown noted
    (ap (λ ys. as_words found ++ repeated_by (λ name. is_some (number_in n name)) (as_words ys)) (sym (drop-turn xs i d h)) ∙ before)

-- ---- by numbers

get_first : {X Y : Type 0} (f : X → Y) (xs : List X) (ys : List Y) (i : ℕ) (d : X) → i < length xs → slice_get (map f xs ++ ys) i ≡ Some (f (get_or xs i d))
get_first f [] ys i d h = absurd (omega (arith, h))
get_first f (x ∷ xs) ys zero d h = refl
get_first f (x ∷ xs) ys (suc i) d h = get_first f xs ys i d (omega (arith, h))

get_behind : {X Y : Type 0} (f : X → Y) (xs : List X) (ys : List Y) (i : ℕ) → length xs ≤ i → slice_get (map f xs ++ ys) i ≡ slice_get ys (i - length xs)
get_behind f [] ys i h = ap (slice_get ys) (let e : i ≡ i - 0 = omega arith in e)
get_behind f (x ∷ xs) ys zero h = absurd (omega (arith, h))
get_behind f (x ∷ xs) ys (suc i) h = get_behind f xs ys i (omega (arith, h))
    ∙ ap (slice_get ys) (let e : i - length xs ≡ suc i - suc (length xs) = omega arith in e)

get_none : {X : Type 0} (ys : List X) (i : ℕ) → length ys ≤ i → slice_get ys i ≡ None
get_none [] i h = refl
get_none (y ∷ ys) zero h = absurd (omega (arith, h))
get_none (y ∷ ys) (suc i) h = get_none ys i (omega (arith, h))

-- of two lists one behind the other
module _ {X Y : Type 0} (f : X → Y) (xs zs : List X) (us vs : List Y) (same_first : map f xs ≡ us) (same_second : map f zs ≡ vs) (i : ℕ) where
  whole : slice_get (map f xs ++ map f zs) i ≡ slice_get (us ++ vs) i
  whole = ap (λ ws. slice_get (ws ++ map f zs) i) same_first ∙ ap (λ ws. slice_get (us ++ ws) i) same_second

  pub numbered_first : (d : X) → i < length xs → d ≡ get_or xs i d → ◌≡◌ {A = Option Y} (Some (f d)) (slice_get (us ++ vs) i)
  numbered_first d h is = ap (λ (x : X). Some (f x)) is ∙ sym (get_first f xs (map f zs) i d h) ∙ whole

  pub numbered_second : (d : X) → length xs ≤ i → i - length xs < length zs → d ≡ get_or zs (i - length xs) d
      → ◌≡◌ {A = Option Y} (Some (f d)) (slice_get (us ++ vs) i)
  numbered_second d h k is =
      ap (λ (x : X). Some (f x)) is
      ∙ sym (ap (λ ws. slice_get ws (i - length xs)) (sym (append-nil (map f zs))) ∙ get_first f zs [] (i - length xs) d k)
      ∙ sym (get_behind f xs (map f zs) i h)
      ∙ whole

  pub numbered_none : length xs ≤ i → length zs ≤ i - length xs → ◌≡◌ {A = Option Y} None (slice_get (us ++ vs) i)
  numbered_none h k =
      sym (get_none (map f zs) (i - length xs) (omega (arith, k, length-map zs f)))
      ∙ sym (get_behind f xs (map f zs) i h)
      ∙ whole

-- the sort of a name
abbrev sort_in : List Word → Option ℕ → Option (List ℕ)
sort_in ss o = option_and_then (λ k. option_map (λ w. w.bytes) (slice_get ss k)) o

sort_at_number : (s : Scope) → IsScope s → (name : List ℕ) (o : Option ℕ) → o ≡ number_in s.names name
    → sort_in (as_words s.sorts.items) o ≡ sort_named s.syntax.now.spec name
sort_at_number s h name o e =
    ap (sort_in (as_words s.sorts.items)) (e ∙ h.numbered name)
    ∙ ap (λ ss. sort_in ss (first_at (names (symbols s.syntax.now.spec) ++ variable_words s.syntax.now.spec.variables) name)) h.sorted
    ∙ sym (sort_named-number s.syntax.now.spec name)

bytes_numbered : (ws : List named.Word) (k : ℕ) → option_map (λ w. w.bytes) (slice_get (as_words ws) k) ≡ option_map (λ (w : named.Word). w.bytes.now)
    (slice_get ws k)
bytes_numbered [] k = refl
bytes_numbered (w ∷ ws) zero = refl
bytes_numbered (w ∷ ws) (suc k) = bytes_numbered ws k

pub sort_found : (s : Scope) → IsScope s → (name : List ℕ) (k : ℕ) → number_in s.names name ≡ Some k
    → option_map (λ (w : named.Word). w.bytes.now) (slice_get s.sorts.items k) ≡ sort_named s.syntax.now.spec name
sort_found s h name k e = sym (bytes_numbered s.sorts.items k) ∙ sort_at_number s h name (Some k) (sym e)

pub sort_none : (s : Scope) → IsScope s → (name : List ℕ) → number_in s.names name ≡ None → ◌≡◌ {A = Option (List ℕ)} None (sort_named s.syntax.now.spec name)
sort_none s h name e = sort_at_number s h name None (sym e)

-- the declaration of a name
pub symbol_at : (s : Scope) → IsScope s → (name : List ℕ) (k : ℕ) → number_in s.names name ≡ Some k
    → slice_get (symbols s.syntax.now.spec) k ≡ symbol s.syntax.now.spec name
symbol_at s h name k e =
    sym (declared-number (symbols s.syntax.now.spec) (variable_words s.syntax.now.spec.variables) name
    ∙ ap (option_and_then (slice_get (symbols s.syntax.now.spec))) (sym (h.numbered name) ∙ e))

pub symbol_none : (s : Scope) → IsScope s → (name : List ℕ) → number_in s.names name ≡ None → ◌≡◌ {A = Option Declaration} None (symbol s.syntax.now.spec name)
symbol_none s h name e =
    sym (declared-number (symbols s.syntax.now.spec) (variable_words s.syntax.now.spec.variables) name
    ∙ ap (option_and_then (slice_get (symbols s.syntax.now.spec))) (sym (h.numbered name) ∙ e))

-- What a name represents, its sort and those of its arguments are as the specification declares them.
use Rattle.std.proofs.Common.{refl, sym, ap, subst, ◌∙◌, arith}
use Rattle.std.proofs.lemmas.Bool.{false≢true, lt-ltb, le-ltb}
use Rattle.std.proofs.lemmas.List.{length-map, get_or-map, get_or_append_left, get_or-append-add}
use Rattle.std.specs.Prelude.{ℕ, ◌≡◌, ◌+◌, ◌-◌, ◌<◌, Bool, true, false, not, ◌||◌, List, [], ◌∷◌, ◌++◌, Option}
use Rattle.std.specs.Prelude.{Some, None, suc, length, map, get_or, bytes_eq, cond, is_some, is_none}
use Rattle.std.specs.Option.{option_map, option_and_then}
use Rattle.rec_syntax.specs.Tokens.{Word}
use Rattle.rec_syntax.specs.Syntax.{Declaration, Variables, Spec}
use Rattle.rec_sorts.specs.Lookup.{mentions, symbols, names, variable_words, declared, symbol, variable_sort}
use Rattle.rec_sorts.specs.Names.{Numbers, first_at}
use Rattle.rec_sorts.specs.Declaring.{sort_numbers}
use Rattle.rec_sorts.specs.Scope.{numbered, meaning_of, sort_at, arguments_at}
use Rattle.rec_sorts.specs.Agreeing.{IsScope, variable_sorts}
use Rattle.rec_sorts.specs.declared.letters.Meaning.{Meaning}
use Rattle.rec_sorts.specs.declared.letters.Meaning.TheVariants.{Symbol, Variable}
use Rattle.rec_sorts.specs.declared.scope.Scope.{Scope}
use Rattle.rec_sorts.proofs.KeptLemmas.{bytes_eq-eq}
use Rattle.rec_sorts.proofs.TableLemmas.{is_some-first_at}

-- a number further on
abbrev pub shifted : ℕ → Option ℕ → Option ℕ
shifted n o = option_map (λ k. k + n) o

suc-shifted : (n : ℕ) (o : Option ℕ) → option_map suc (shifted n o) ≡ shifted (suc n) o
suc-shifted n None = refl
suc-shifted n (Some k) = ap (λ (j : ℕ). Some j) (omega arith)

shifted-zero : (o : Option ℕ) → shifted 0 o ≡ o
shifted-zero None = refl
shifted-zero (Some k) = ap (λ (j : ℕ). Some j) (omega arith)

abbrev at_test : Bool → Option ℕ → Option ℕ
at_test b o = elim b [ true ↦ Some 0 | false ↦ option_map suc o ]

-- a name that is none of the first words
pub first_at-after : (ws us : List Word) (name : List ℕ) → mentions ws name ≡ false → first_at (ws ++ us) name ≡ shifted (length ws) (first_at us name)
first_at-after [] us name e = sym (shifted-zero (first_at us name))
first_at-after (w ∷ ws) us name e = by_test (bytes_eq w.bytes name) e (λ h. first_at-after ws us name h)
  where
    by_test : (b : Bool) → b || mentions ws name ≡ false → (mentions ws name ≡ false → first_at (ws ++ us) name ≡ shifted (length ws) (first_at us name))
        → at_test b (first_at (ws ++ us) name) ≡ shifted (suc (length ws)) (first_at us name)
    by_test true e later = absurd (false≢true (sym e))
    by_test false e later = ap (option_map suc) (later e) ∙ suc-shifted (length ws) (first_at us name)

-- a name that is one of the first words
pub record IsAmongFirst (ws us : List Word) (name : List ℕ) : Type 0 where
  pub place : ℕ
  pub found : first_at (ws ++ us) name ≡ Some place
  pub within : place < length ws

pub first_at-among : (ws us : List Word) (name : List ℕ) → mentions ws name ≡ true → IsAmongFirst ws us name
first_at-among [] us name e = absurd (false≢true e)
first_at-among (w ∷ ws) us name e = by_test (bytes_eq w.bytes name) refl e (λ h. first_at-among ws us name h)
  where
    by_test : (b : Bool) → bytes_eq w.bytes name ≡ b → b || mentions ws name ≡ true → (mentions ws name ≡ true → IsAmongFirst ws us name)
        → IsAmongFirst (w ∷ ws) us name
    by_test true is e later = record { place = 0; found = ap (λ b. at_test b (first_at (ws ++ us) name)) is; within = omega arith }
    by_test false is e later =
        let h : IsAmongFirst ws us name = later e in
        record {
          place = suc h.place;
          found = ap (λ b. at_test b (first_at (ws ++ us) name)) is ∙ ap (option_map suc) h.found;
          within =
              omega (arith, h.within);
        }

-- a symbol that is declared has a number, at which its declaration stands
pub record IsDeclaredAt (ds : List Declaration) (us : List Word) (name : List ℕ) (d : Declaration) : Type 0 where
  pub place : ℕ
  pub found : first_at (names ds ++ us) name ≡ Some place
  pub within : place < length ds
  pub there : get_or ds place d ≡ d

abbrev declared_test : Bool → Declaration → Option Declaration → Option Declaration
declared_test b d o = elim b [ true ↦ Some d | false ↦ o ]

pub some_same : (d e : Declaration) → ◌≡◌ {A = Option Declaration} (Some d) (Some e) → d ≡ e
some_same d e p = ap (λ o. value o) p
  where
    value : Option Declaration → Declaration
    value (Some x) = x
    value None = d

pub declared-at : (ds : List Declaration) (us : List Word) (name : List ℕ) (d : Declaration) → declared ds name ≡ Some d → IsDeclaredAt ds us name d
declared-at [] us name d e = absurd (cc e)
declared-at (c ∷ ds) us name d e = by_test (bytes_eq c.name.bytes name) refl e (λ h. declared-at ds us name d h)
  where
    by_test : (b : Bool) → bytes_eq c.name.bytes name ≡ b → declared_test b c (declared ds name) ≡ Some d
        → (declared ds name ≡ Some d → IsDeclaredAt ds us name d) → IsDeclaredAt (c ∷ ds) us name d
    by_test true is e later = record {
      place = 0;
      found = ap (λ b. at_test b (first_at (names ds ++ us) name)) is;
      within = omega arith;
      there =
          some_same c d e;
    }
    by_test false is e later =
        let h : IsDeclaredAt ds us name d = later e in
        record {
          place = suc h.place;
          found = ap (λ b. at_test b (first_at (names ds ++ us) name)) is ∙ ap (option_map suc) h.found;
          within =
              omega (arith, h.within);
          there = h.there;
        }

pub mentions-declared : (ds : List Declaration) (name : List ℕ) → mentions (names ds) name ≡ is_some (declared ds name)
mentions-declared [] name = refl
mentions-declared (d ∷ ds) name = by_test (bytes_eq d.name.bytes name) (mentions-declared ds name)
  where
    by_test : (b : Bool) → mentions (names ds) name ≡ is_some (declared ds name)
        → b || mentions (names ds) name ≡ is_some (declared_test b d (declared ds name))
    by_test true h = refl
    by_test false h = h

pub numbered-symbol : (n k : ℕ) → k < n → numbered n k ≡ Symbol k
numbered-symbol n k h = ap (λ b. cond b (Symbol k) (Variable (k - n))) (lt-ltb k n h)

pub numbered-variable : (n k : ℕ) → numbered n (k + n) ≡ Variable k
numbered-variable n k =
    ap (λ b. cond b (Symbol (k + n)) (Variable (k + n - n))) (le-ltb (k + n) n (omega arith))
    ∙ ap (λ (j : ℕ). Variable j) (omega arith)

numbered-shifted : (n : ℕ) (o : Option ℕ) → option_map (numbered n) (shifted n o) ≡ option_map (λ k. Variable k) o
numbered-shifted n None = refl
numbered-shifted n (Some k) = ap (λ (m : Meaning). Some m) (numbered-variable n k)

-- the item at a number
abbrev pub item_at : List (Option ℕ) → Option ℕ → Option ℕ
item_at xs None = None
item_at xs (Some k) = get_or xs k None

item_at-shifted : (xs rest : List (Option ℕ)) (n : ℕ) (o : Option ℕ) → length xs ≡ n → item_at (xs ++ rest) (shifted n o) ≡ item_at rest o
item_at-shifted xs rest n None e = refl
item_at-shifted xs rest n (Some k) e =
    let moved : k + n ≡ length xs + k = omega arith in
    ap (λ (j : ℕ). get_or (xs ++ rest) j None) moved ∙ get_or-append-add xs rest k None

-- a variable's sort is at its number
item_at-variable : (g : Numbers) (vs : List Variables) (name : List ℕ)
    → item_at (variable_sorts g vs) (first_at (variable_words vs) name) ≡ option_and_then g (variable_sort vs name)
item_at-variable g [] name = refl
item_at-variable g (v ∷ vs) name = by_test (mentions (v.first ∷ v.others) name) refl (item_at-variable g vs name)
  where
    ws : List Word
    ws = v.first ∷ v.others

    sorts : List (Option ℕ)
    sorts = map (λ _. g v.sort.bytes) (v.first ∷ v.others)

    by_test : (b : Bool) → mentions (v.first ∷ v.others) name ≡ b
        → item_at (variable_sorts g vs) (first_at (variable_words vs) name) ≡ option_and_then g (variable_sort vs name)
        → item_at (map (λ _. g v.sort.bytes) (v.first ∷ v.others) ++ variable_sorts g vs) (first_at ((v.first ∷ v.others) ++ variable_words vs) name)
        ≡ option_and_then g (elim b as (λ _. Option (List ℕ)) [ true ↦ Some v.sort.bytes | false ↦ variable_sort vs name ])
    by_test true is h =
        let f = first_at-among (v.first ∷ v.others) (variable_words vs) name is in
        let long : length (map (λ (w : Word). g v.sort.bytes) (v.first ∷ v.others)) ≡ length (v.first ∷ v.others) =
        length-map (v.first ∷ v.others) (λ (w : Word). g v.sort.bytes) in
        ap (item_at (map (λ _. g v.sort.bytes) (v.first ∷ v.others) ++ variable_sorts g vs)) f.found
        ∙ get_or_append_left (map (λ (w : Word). g v.sort.bytes) (v.first ∷ v.others)) (variable_sorts g vs) None f.place (omega (arith, f.within, long))
        ∙ get_or-map (λ (w : Word). g v.sort.bytes) (v.first ∷ v.others) f.place v.first None f.within
    by_test false is h =
        ap (item_at (map (λ _. g v.sort.bytes) (v.first ∷ v.others) ++ variable_sorts g vs)) (first_at-after (v.first ∷ v.others) (variable_words vs) name is)
        ∙ item_at-shifted (map (λ (w : Word). g v.sort.bytes) (v.first ∷ v.others)) (variable_sorts g vs) (length (v.first ∷ v.others))
        (first_at (variable_words vs) name) (length-map (v.first ∷ v.others) (λ (w : Word). g v.sort.bytes))
        ∙ h

-- the word at a name's number has that name
pub record IsNumberOf (ws : List Word) (name : List ℕ) (k : ℕ) : Type 0 where
  pub within : k < length ws
  pub there : get_or (map (λ w. w.bytes) ws) k [] ≡ name

pub some_number : (j k : ℕ) → ◌≡◌ {A = Option ℕ} (Some j) (Some k) → j ≡ k
some_number j k e = cc

pub first_at-number : (ws : List Word) (name : List ℕ) (k : ℕ) → first_at ws name ≡ Some k → IsNumberOf ws name k
first_at-number [] name k e = absurd (cc e)
first_at-number (w ∷ ws) name k e = by_test (bytes_eq w.bytes name) refl (first_at ws name) refl e (λ j h. first_at-number ws name j h)
  where
    by_test : (b : Bool) → bytes_eq w.bytes name ≡ b → (o : Option ℕ) → first_at ws name ≡ o → at_test b o ≡ Some k
        → ((j : ℕ) → first_at ws name ≡ Some j → IsNumberOf ws name j) → IsNumberOf (w ∷ ws) name k
    by_test true is o _ e later = subst (IsNumberOf (w ∷ ws) name) (some_number 0 k e) (record { within = omega arith; there = bytes_eq-eq w.bytes name is })
    by_test false is None _ e later = absurd (cc e)
    by_test false is (Some j) at e later =
        let h : IsNumberOf ws name j = later j at in
        subst (IsNumberOf (w ∷ ws) name) (some_number (suc j) k e) (record { within = omega (arith, h.within); there = h.there })

-- one name for each number
pub first_at-one : (ws : List Word) (a b : List ℕ) (k : ℕ) → first_at ws a ≡ Some k → first_at ws b ≡ Some k → a ≡ b
first_at-one ws a b k e f = sym (first_at-number ws a k e).there ∙ (first_at-number ws b k f).there

module _ (y : Spec) (s : Scope) (h : IsScope y s) where
  -- the words that have numbers
  abbrev words : List Word
  words = names (symbols y) ++ variable_words y.variables

  abbrev meaning_by : Option ℕ → Option Meaning
  meaning_by o = option_map (numbered (length (symbols y))) o

  meaning-numbers : (name : List ℕ) → meaning_of s name ≡ meaning_by (first_at words name)
  meaning-numbers name =
      ap (λ (g : Numbers). option_map (numbered s.symbols) (g name)) h.words_numbered
      ∙ ap (λ (n : ℕ). option_map (numbered n) (first_at words name)) h.symbols_counted

  -- a name that is declared as a symbol represents it
  pub meaning-symbol : (name : List ℕ) (d : Declaration) → symbol y name ≡ Some d
      → (k : ℕ) × (k < length (symbols y)) × (first_at words name ≡ Some k) × (get_or (symbols y) k d ≡ d) × (meaning_of s name ≡ Some (Symbol k))
  meaning-symbol name d e =
      let f = declared-at (symbols y) (variable_words y.variables) name d e in (
        f.place,
        f.within,
        f.found,
        f.there,
        meaning-numbers name ∙ ap meaning_by f.found
            ∙ ap (λ (m : Meaning). Some m) (numbered-symbol (length (symbols y)) f.place f.within),
      )

  -- another name represents a variable, if it is one
  pub meaning-variable : (name : List ℕ) → symbol y name ≡ None → meaning_of s name ≡ option_map (λ k. Variable k) (first_at (variable_words y.variables) name)
  meaning-variable name e =
      let long : length (names (symbols y)) ≡ length (symbols y) = length-map (symbols y) (λ d. d.name) in
      meaning-numbers name
      ∙ ap meaning_by (first_at-after (names (symbols y)) (variable_words y.variables) name (mentions-declared (symbols y) name ∙ ap is_some e))
      ∙ ap (λ (n : ℕ). meaning_by (shifted n (first_at (variable_words y.variables) name))) long
      ∙ numbered-shifted (length (symbols y)) (first_at (variable_words y.variables) name)

  abbrev numbers : Numbers
  numbers = first_at y.sorts

  abbrev symbol_sorts : List (Option ℕ)
  symbol_sorts = map (λ d. first_at y.sorts d.sort.bytes) (symbols y)

  long_sorts : length symbol_sorts ≡ length (symbols y)
  long_sorts = length-map (symbols y) (λ d. first_at y.sorts d.sort.bytes)

  sort_at-variable : (o : Option ℕ) → sort_at s (option_map (λ k. Variable k) o) ≡ item_at s.sorts.items (shifted s.symbols o)
  sort_at-variable None = refl
  sort_at-variable (Some k) = refl

  -- the sort that a name has
  abbrev pub sort_by : Option Declaration → List ℕ → Option (List ℕ)
  sort_by o name = elim o [ Some d ↦ Some d.sort.bytes | None ↦ variable_sort y.variables name ]

  abbrev pub arguments_by : Option Declaration → List (Option ℕ)
  arguments_by o = elim o [ Some d ↦ sort_numbers (first_at y.sorts) d.arguments | None ↦ [] ]

  pub sort_at-name : (name : List ℕ) → sort_at s (meaning_of s name) ≡ option_and_then (first_at y.sorts) (sort_by (symbol y name) name)
  sort_at-name name = by_symbol (symbol y name) refl
    where
      by_symbol : (o : Option Declaration) → symbol y name ≡ o → sort_at s (meaning_of s name) ≡ option_and_then (first_at y.sorts) (sort_by o name)
      by_symbol (Some d) e =
          let f = meaning-symbol name d e in
          ap (sort_at s) f.4
          ∙ ap (λ (xs : List (Option ℕ)). get_or xs f.0 None) h.sorts_listed
          ∙ get_or_append_left symbol_sorts (variable_sorts (first_at y.sorts) y.variables) None f.0 (omega (arith, f.1, long_sorts))
          ∙ get_or-map (λ d. first_at y.sorts d.sort.bytes) (symbols y) f.0 d None f.1
          ∙ ap (λ (c : Declaration). first_at y.sorts c.sort.bytes) f.3
      by_symbol None e =
          let o = first_at (variable_words y.variables) name in
          ap (sort_at s) (meaning-variable name e)
          ∙ sort_at-variable o
          ∙ ap (λ (xs : List (Option ℕ)). item_at xs (shifted s.symbols o)) h.sorts_listed
          ∙ item_at-shifted symbol_sorts (variable_sorts (first_at y.sorts) y.variables) s.symbols o (long_sorts ∙ sym h.symbols_counted)
          ∙ item_at-variable (first_at y.sorts) y.variables name

  arguments_at-variable : (o : Option ℕ) → arguments_at s (option_map (λ k. Variable k) o) ≡ []
  arguments_at-variable None = refl
  arguments_at-variable (Some k) = refl

  pub arguments_at-name : (name : List ℕ) → arguments_at s (meaning_of s name) ≡ arguments_by (symbol y name)
  arguments_at-name name = by_symbol (symbol y name) refl
    where
      by_symbol : (o : Option Declaration) → symbol y name ≡ o → arguments_at s (meaning_of s name) ≡ arguments_by o
      by_symbol (Some d) e =
          let f = meaning-symbol name d e in
          ap (arguments_at s) f.4
          ∙ ap (λ (xs : List (List (Option ℕ))). get_or xs f.0 []) h.arguments_listed
          ∙ get_or-map (λ d. sort_numbers (first_at y.sorts) d.arguments) (symbols y) f.0 d [] f.1
          ∙ ap (λ (c : Declaration). sort_numbers (first_at y.sorts) c.arguments) f.3
      by_symbol None e = ap (arguments_at s) (meaning-variable name e) ∙ arguments_at-variable (first_at (variable_words y.variables) name)

  is_none-meaning_by : (o : Option ℕ) → is_none (meaning_by o) ≡ not (is_some o)
  is_none-meaning_by None = refl
  is_none-meaning_by (Some k) = refl

  pub is_none-name : (name : List ℕ) → is_none (meaning_of s name) ≡ not (mentions words name)
  is_none-name name = ap is_none (meaning-numbers name) ∙ is_none-meaning_by (first_at words name) ∙ ap not (is_some-first_at words name)

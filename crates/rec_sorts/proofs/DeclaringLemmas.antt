-- The declarations that are read are those of the specification.
use Rattle.std.proofs.Common.{refl, sym, ap, subst, ◌∙◌, arith}
use Rattle.std.proofs.lemmas.List.{append-nil, length-map, take-map, drop-map}
use Rattle.std.proofs.Math.Seq.{take-append_seam, drop-append_seam}
use Rattle.std.specs.Prelude.{ℕ, ◌≡◌, not, List, [], ◌++◌, Option, Some, None, All, length, map, flat_map, take, drop, is_some, is_none}
use Rattle.rec_syntax.specs.Tokens.{Word}
use Rattle.rec_syntax.specs.Syntax.{Declaration, Variables, Spec}
use Rattle.rec_syntax.specs.Parts.{words_of, Within, declaration_of, group_of}
use Rattle.rec_syntax.specs.declared.parts.Declaration as parts
use Rattle.rec_syntax.specs.declared.parts.Group as group
use Rattle.rec_syntax.specs.Lexemes.{word_of}
use Rattle.rec_syntax.specs.declared.lexer.Span.{Span}
use Rattle.rec_sorts.specs.Lookup.{mentions, repeated, symbols, names, variable_words}
use Rattle.rec_sorts.specs.SpecRules.{sorts_of, missing, repeated_symbols, taken_variables}
use Rattle.rec_sorts.specs.Least.{earlier, least_place, place_where}
use Rattle.rec_sorts.specs.Names.{Numbers, numbers_after, least_repeated, first_at}
use Rattle.rec_sorts.specs.Declaring.{sort_numbers, least_unnumbered, Additions, both, added_by_symbol, added_by_symbols, added_by_groups, Adds}
use Rattle.rec_sorts.specs.Agreeing.{variable_sorts, IsDeclared}
use Rattle.rec_sorts.specs.declared.declarations.Declared.{Declared}
use Rattle.rec_sorts.proofs.TableLemmas.{numbers_after-first_at, is_some-first_at, least_repeated-repeated}
use Rattle.rec_sorts.proofs.AdditionLemmas.{Adds-both, added_by-append, added_by_symbols-parts, added_by_groups-parts, words_longer}
use Rattle.rec_sorts.proofs.SubtermLemmas.{least_of-same, least_of-filter, place_where-cond}

-- all that a specification declares
abbrev pub all_added : Numbers → Spec → Additions
all_added numbers y = record {
  words = names (symbols y) ++ variable_words y.variables;
  sorts = map (λ d. numbers d.sort.bytes) (symbols y) ++ variable_sorts numbers y.variables;
  arguments = map (λ d. sort_numbers numbers d.arguments) (symbols y) ++ [];
  named = flat_map sorts_of (symbols y) ++ map (λ v. v.sort) y.variables;
}

-- what symbols and then groups add
pub Adds-all : (source : List ℕ) (numbers : Numbers) (y : Spec) (d₀ d₁ d₂ d₃ : Declared)
    → Adds source numbers d₀ d₁ (added_by_symbols numbers y.constructors) → Adds source numbers d₁ d₂ (added_by_symbols numbers y.operators)
    → Adds source numbers d₂ d₃ (added_by_groups numbers y.variables) → Adds source numbers d₀ d₃ (all_added numbers y)
Adds-all source numbers y d₀ d₁ d₂ d₃ c o g =
    subst (Adds source numbers d₀ d₃)
    (ap (λ a. both a (added_by_groups numbers y.variables)) (sym (added_by-append (added_by_symbol numbers) y.constructors y.operators)
    ∙ added_by_symbols-parts numbers (symbols y))
    ∙ ap (both (record {
      words = names (symbols y);
      sorts = map (λ d. numbers d.sort.bytes) (symbols y);
      arguments =
          map (λ d. sort_numbers numbers d.arguments) (symbols y);
      named = flat_map sorts_of (symbols y);
    })) (added_by_groups-parts numbers y.variables))
    (Adds-both source numbers d₀ d₂ d₃ (both (added_by_symbols numbers y.constructors) (added_by_symbols numbers y.operators))
    (added_by_groups numbers y.variables)
    (Adds-both source numbers d₀ d₁ d₂ (added_by_symbols numbers y.constructors) (added_by_symbols numbers y.operators) c o) g)

-- as many words are read before the groups as there are symbols
pub symbols-read : (source : List ℕ) (numbers : Numbers) (y : Spec) (d₀ d₁ d₂ : Declared) → d₀.words.items ≡ []
    → Adds source numbers d₀ d₁ (added_by_symbols numbers y.constructors) → Adds source numbers d₁ d₂ (added_by_symbols numbers y.operators)
    → length d₂.words.items ≡ length (symbols y)
symbols-read source numbers y d₀ d₁ d₂ empty c o =
    let both_added = Adds-both source numbers d₀ d₁ d₂ (added_by_symbols numbers y.constructors) (added_by_symbols numbers y.operators) c o in
    let all : words_of source d₂.words.items ≡ names (symbols y) =
    both_added.words_added ∙ ap (λ xs.
    words_of source xs ++ (both (added_by_symbols numbers y.constructors) (added_by_symbols numbers y.operators)).words) empty
    ∙ ap (λ (a : Additions). a.words) (sym (added_by-append (added_by_symbol numbers) y.constructors y.operators)
    ∙ added_by_symbols-parts numbers (symbols y)) in
    sym (length-map d₂.words.items (word_of source)) ∙ ap length all ∙ length-map (symbols y) (λ d. d.name)

module _ (source : List ℕ) (y : Spec) (words : List Span) (n : ℕ) (all : words_of source words ≡ names (symbols y) ++ variable_words y.variables)
    (long : n ≡ length (symbols y)) where
  long_names : n ≡ length (names (symbols y))
  long_names = long ∙ sym (length-map (symbols y) (λ d. d.name))

  pub first_words : words_of source (take n words) ≡ names (symbols y)
  first_words =
      sym (take-map (word_of source) n words) ∙ ap (take n) all ∙ ap (λ (k : ℕ). take k (names (symbols y) ++ variable_words y.variables)) long_names
      ∙ take-append_seam (names (symbols y)) (variable_words y.variables)

  pub other_words : words_of source (drop n words) ≡ variable_words y.variables
  other_words =
      sym (drop-map (word_of source) n words) ∙ ap (drop n) all ∙ ap (λ (k : ℕ). drop k (names (symbols y) ++ variable_words y.variables)) long_names
      ∙ drop-append_seam (names (symbols y)) (variable_words y.variables)

-- what numbering the words of symbols and then of variables finds
pub record NamesRead (y : Spec) (n : ℕ) (front back : List Word) (g₀ g₁ g₂ : Numbers) : Type 0 where
  pub numbered : g₂ ≡ first_at (names (symbols y) ++ variable_words y.variables)
  pub symbols_repeated : least_repeated g₀ 0 front ≡ least_place (repeated_symbols y)
  pub variables_repeated : least_repeated g₁ n back ≡ least_place (taken_variables y)

module _ (y : Spec) (n : ℕ) (long : n ≡ length (symbols y)) (front back : List Word) (first : front ≡ names (symbols y))
    (second : back ≡ variable_words y.variables)
    (g₀ g₁ g₂ : Numbers) (start : g₀ ≡ (λ _. None)) (numbered : g₁ ≡ numbers_after g₀ 0 front) (then_numbered : g₂ ≡ numbers_after g₁ n back) where
  names_numbered : g₁ ≡ first_at (names (symbols y))
  names_numbered = numbered ∙ ap (λ (g : Numbers). numbers_after g 0 front) start ∙ ap (numbers_after (first_at []) 0) first
      ∙ numbers_after-first_at [] (names (symbols y))

  -- the words have the numbers of their places, and those that repeat are found
  pub names_read : NamesRead y n front back g₀ g₁ g₂
  names_read = record {
    numbered =
        then_numbered
        ∙ ap (λ (g : Numbers). numbers_after g n back) names_numbered
        ∙ ap (numbers_after (first_at (names (symbols y))) n) second
        ∙ ap (λ (k : ℕ). numbers_after (first_at (names (symbols y))) k (variable_words y.variables)) (long ∙ sym (length-map (symbols y) (λ d. d.name)))
        ∙ numbers_after-first_at (names (symbols y)) (variable_words y.variables);
    symbols_repeated =
        ap (λ (g : Numbers). least_repeated g 0 front) start ∙ ap (least_repeated (λ _. None) 0) first
        ∙ least_repeated-repeated (λ _. None) 0 [] (names (symbols y)) (λ name. refl);
    variables_repeated =
        ap (λ (g : Numbers). least_repeated g n back) names_numbered
        ∙ ap (least_repeated (first_at (names (symbols y))) n) second
        ∙ least_repeated-repeated (first_at (names (symbols y))) n (names (symbols y)) (variable_words y.variables) (is_some-first_at (names (symbols y)));
  }

none-not : (o : Option ℕ) → is_none o ≡ not (is_some o)
none-not None = refl
none-not (Some k) = refl

-- the sorts that have no number are not declared
pub unnumbered-sorts : (sorts ws : List Word) → least_unnumbered (first_at sorts) ws ≡ least_place (missing sorts ws)
unnumbered-sorts sorts ws =
    least_of-same ws (λ w. ap (λ b. place_where b w.at) (none-not (first_at sorts w.bytes) ∙ ap not (is_some-first_at sorts w.bytes))
    ∙ sym (place_where-cond (not (mentions sorts w.bytes)) w.at))
    ∙ sym (least_of-filter (λ w. Some w.at) (λ w. not (mentions sorts w.bytes)) ws)

none_within : (source : List ℕ) (xs : List Span) → xs ≡ [] → All (Within source) xs
none_within source xs e = subst (All (Within source)) (sym e) (λ k d l. absurd (omega arith))

-- if nothing was declared before, all that a specification declares is read
pub declared-read : (y : Spec) (source : List ℕ) (numbers : Numbers) (d₀ d₁ d₂ d₃ : Declared) (n : ℕ) → n ≡ length d₂.words.items
    → numbers ≡ first_at y.sorts → d₀.words.items ≡ [] → d₀.sorts.items ≡ [] → d₀.arguments.items ≡ [] → d₀.unknown ≡ None
    → Adds source numbers d₀ d₁ (added_by_symbols numbers y.constructors) → Adds source numbers d₁ d₂ (added_by_symbols numbers y.operators)
    → Adds source numbers d₂ d₃ (added_by_groups numbers y.variables)
    → IsDeclared y source d₃ n
declared-read y source numbers d₀ d₁ d₂ d₃ n long en ew es ea eu c o g =
    let all = Adds-all source numbers y d₀ d₁ d₂ d₃ c o g in
    record {
      words_read = all.words_added ∙ ap (λ xs. words_of source xs ++ (names (symbols y) ++ variable_words y.variables)) ew;
      sorts_read = all.sorts_added ∙ ap (λ xs. xs ++ (map (λ d. numbers d.sort.bytes) (symbols y) ++ variable_sorts numbers y.variables)) es
          ∙ ap (λ (g : Numbers). map (λ d. g d.sort.bytes) (symbols y) ++ variable_sorts g y.variables) en;
      arguments_read =
          all.arguments_added
          ∙ ap (λ xs. map (λ v. v.items) xs ++ (map (λ d. sort_numbers numbers d.arguments) (symbols y) ++ [])) ea
          ∙ append-nil (map (λ d. sort_numbers numbers d.arguments) (symbols y))
          ∙ ap (λ (g : Numbers). map (λ d. sort_numbers g d.arguments) (symbols y)) en;
      unknown_read =
          all.unknown_added
          ∙ ap (λ p. earlier p (least_unnumbered numbers (flat_map sorts_of (symbols y) ++ map (λ v. v.sort) y.variables))) eu
          ∙ ap (λ (g : Numbers). least_unnumbered g (flat_map sorts_of (symbols y) ++ map (λ v. v.sort) y.variables)) en
          ∙ unnumbered-sorts y.sorts (flat_map sorts_of (symbols y) ++ map (λ v. v.sort) y.variables);
      within_read = all.within_added (none_within source d₀.words.items ew);
      symbols_read = long ∙ symbols-read source numbers y d₀ d₁ d₂ ew c o;
      symbols_within = omega (arith, words_longer source numbers d₂ d₃ (added_by_groups numbers y.variables) g);
    }

-- what symbols of another copy of the text add
pub symbols_of : (source copy : List ℕ) (numbers : Numbers) (old new : Declared) (ds : List parts.Declaration) (all : List Declaration)
    → copy ≡ source → map (declaration_of source) ds ≡ all
    → Adds copy numbers old new (added_by_symbols numbers (map (declaration_of copy) ds)) → Adds source numbers old new (added_by_symbols numbers all)
symbols_of source copy numbers old new ds all e f h =
    subst (λ cs. Adds source numbers old new (added_by_symbols numbers cs)) f
    (subst (λ (t : List ℕ). Adds t numbers old new (added_by_symbols numbers (map (declaration_of t) ds))) e h)

-- what groups of another copy of the text add
pub groups_of : (source copy : List ℕ) (numbers : Numbers) (old new : Declared) (gs : List group.Group) (all : List Variables) → copy ≡ source
    → map (group_of source) gs ≡ all
    → Adds copy numbers old new (added_by_groups numbers (map (group_of copy) gs)) → Adds source numbers old new (added_by_groups numbers all)
groups_of source copy numbers old new gs all e f h =
    subst (λ vs. Adds source numbers old new (added_by_groups numbers vs)) f
    (subst (λ (t : List ℕ). Adds t numbers old new (added_by_groups numbers (map (group_of t) gs))) e h)

-- sorts that are numbered from 0 on have the numbers of their places
pub sorts_numbered : (sorts ws : List Word) (g h : Numbers) → g ≡ (λ _. None) → ws ≡ sorts → h ≡ numbers_after g 0 ws → h ≡ first_at sorts
sorts_numbered sorts ws g h start same numbered =
    numbered ∙ ap (λ (k : Numbers). numbers_after k 0 ws) start ∙ ap (numbers_after (first_at []) 0) same ∙ numbers_after-first_at [] sorts

-- the sorts that repeat are found
pub sorts_repeated : (sorts ws : List Word) (g : Numbers) → g ≡ (λ _. None) → ws ≡ sorts → least_repeated g 0 ws ≡ least_place (repeated [] sorts)
sorts_repeated sorts ws g start same =
    ap (λ (k : Numbers). least_repeated k 0 ws) start ∙ ap (least_repeated (λ _. None) 0) same ∙ least_repeated-repeated (λ _. None) 0 [] sorts (λ name. refl)

-- Additions to the declarations, one after another.
use Rattle.std.proofs.Common.{Vec, Global, refl, sym, ap, subst, ◌∙◌, append_assoc, arith}
use Rattle.std.proofs.lemmas.List.{append-nil, take_all, length-map, length-append}
use Rattle.std.proofs.lemmas.List.Elements.{All-push, All-append, All-take}
use Rattle.std.specs.Prelude.{ℕ, ◌≡◌, ◌+◌, ◌<◌, ◌≤◌, List, [], ◌∷◌, ◌++◌, Option, length, map, flat_map, take, get_or, All}
use Rattle.rec_syntax.specs.Tokens.{Word}
use Rattle.rec_syntax.specs.Syntax.{Declaration, Variables}
use Rattle.rec_syntax.specs.Parts.{words_of, Within}
use Rattle.rec_syntax.specs.Lexemes.{word_of}
use Rattle.rec_syntax.specs.declared.lexer.Span.{Span}
use Rattle.rec_sorts.specs.Lookup.{names, variable_words}
use Rattle.rec_sorts.specs.SpecRules.{sorts_of}
use Rattle.rec_sorts.specs.Least.{earlier}
use Rattle.rec_sorts.specs.Names.{Numbers}
use Rattle.rec_sorts.specs.Declaring.{sort_numbers, unnumbered, least_unnumbered, Additions, both, nothing_added, added_by}
use Rattle.rec_sorts.specs.Declaring.{added_by_symbol, added_by_symbols, added_by_group, added_by_groups, Adds}
use Rattle.rec_sorts.specs.Agreeing.{variable_sorts}
use Rattle.rec_sorts.specs.declared.declarations.Declared.{Declared}
use Rattle.rec_sorts.proofs.LeastPlaceLemmas.{earlier_assoc, earlier_none}
use Rattle.rec_sorts.proofs.SubtermLemmas.{least_of-append}
use Rattle.rec_sorts.proofs.StackLemmas.{map-append}
use Rattle.rec_sorts.proofs.TurnLemmas.{map-take_turn}

-- something is added, and then more
pub Adds-both : (source : List ℕ) (numbers : Numbers) (c d e : Declared) (a b : Additions) → Adds source numbers c d a → Adds source numbers d e b
    → Adds source numbers c e (both a b)
Adds-both source numbers c d e a b h k = record {
  words_added = k.words_added ∙ ap (λ xs. xs ++ b.words) h.words_added ∙ append_assoc (words_of source c.words.items) a.words b.words;
  sorts_added = k.sorts_added ∙ ap (λ xs. xs ++ b.sorts) h.sorts_added ∙ append_assoc c.sorts.items a.sorts b.sorts;
  arguments_added = k.arguments_added ∙ ap (λ xs. xs ++ b.arguments) h.arguments_added
      ∙ append_assoc (map (λ v. v.items) c.arguments.items) a.arguments b.arguments;
  within_added = λ w. k.within_added (h.within_added w);
  unknown_added =
      k.unknown_added
      ∙ ap (λ p. earlier p (least_unnumbered numbers b.named)) h.unknown_added
      ∙ earlier_assoc c.unknown (least_unnumbered numbers a.named) (least_unnumbered numbers b.named)
      ∙ ap (earlier c.unknown) (sym (least_of-append (unnumbered numbers) a.named b.named));
}

pub both-nothing : (a : Additions) → both a nothing_added ≡ a
both-nothing a = λ i. record { words = append-nil a.words i; sorts = append-nil a.sorts i; arguments = append-nil a.arguments i; named = append-nil a.named i }

pub both_assoc : (a b c : Additions) → both (both a b) c ≡ both a (both b c)
both_assoc a b c = λ i. record {
  words = append_assoc a.words b.words c.words i;
  sorts = append_assoc a.sorts b.sorts c.sorts i;
  arguments = append_assoc a.arguments b.arguments c.arguments i;
  named = append_assoc a.named b.named c.named i;
}

-- what some items and then others add
pub added_by-append : {X : Type 0} (add : X → Additions) (xs ys : List X) → added_by add (xs ++ ys) ≡ both (added_by add xs) (added_by add ys)
added_by-append add [] ys = refl
added_by-append add (x ∷ xs) ys = ap (both (add x)) (added_by-append add xs ys) ∙ sym (both_assoc (add x) (added_by add xs) (added_by add ys))

-- what symbols add
pub added_by_symbols-parts : (numbers : Numbers) (ds : List Declaration)
    → added_by_symbols numbers ds ≡ record {
      words = names ds;
      sorts = map (λ d. numbers d.sort.bytes) ds;
      arguments =
          map (λ d. sort_numbers numbers d.arguments) ds;
      named = flat_map sorts_of ds;
    }
added_by_symbols-parts numbers [] = refl
added_by_symbols-parts numbers (d ∷ ds) = ap (both (added_by_symbol numbers d)) (added_by_symbols-parts numbers ds)

-- what groups of variables add
pub added_by_groups-parts : (numbers : Numbers) (vs : List Variables)
    → added_by_groups numbers vs ≡ record { words = variable_words vs; sorts = variable_sorts numbers vs; arguments = []; named = map (λ v. v.sort) vs }
added_by_groups-parts numbers [] = refl
added_by_groups-parts numbers (v ∷ vs) = ap (both (added_by_group numbers v)) (added_by_groups-parts numbers vs)

-- some words are pushed, one after another
pub words_pushed : {X Y : Type 0} (f : X → Y) (xs ys zs others : List X) (x : X) (i : ℕ) → ys ≡ xs ++ x ∷ [] → zs ≡ ys ++ take i others
    → length others ≤ i → map f zs ≡ map f xs ++ f x ∷ map f others
words_pushed f xs ys zs others x i first rest done =
    ap (map f) (rest ∙ ap (λ us. ys ++ us) (take_all i others done) ∙ ap (λ us. us ++ others) first ∙ append_assoc xs (x ∷ []) others)
    ∙ map-append f xs (x ∷ others)

-- a word is pushed
pub within_pushed : (source : List ℕ) (xs ys : List Span) (x : Span) → ys ≡ xs ++ x ∷ [] → Within source x → All (Within source) xs → All (Within source) ys
within_pushed source xs ys x grown w all = subst (All (Within source)) (sym grown) (All-push (Within source) xs x all w)

-- some are pushed
pub all_within_pushed : (source : List ℕ) (xs ys zs others : List Span) (x : Span) (i : ℕ) → ys ≡ xs ++ x ∷ [] → zs ≡ ys ++ take i others
    → Within source x → All (Within source) others → All (Within source) xs → All (Within source) zs
all_within_pushed source xs ys zs others x i first rest w ws all =
    subst (All (Within source)) (sym rest) (All-append (Within source) ys (take i others) (within_pushed source xs ys x first w all)
    (All-take (Within source) i others ws))

-- no word is taken away
pub words_longer : (source : List ℕ) (numbers : Numbers) (old new : Declared) (a : Additions) → Adds source numbers old new a
    → length old.words.items ≤ length new.words.items
words_longer source numbers old new a h =
    omega (
      arith,
      sym (length-map new.words.items (word_of source)),
      sym (length-map old.words.items (word_of source)),
      ap length h.words_added,
      length-append (words_of source old.words.items) a.words,
    )

-- their sort is pushed as often
pub sorts_pushed : {X Y : Type 0} (f : X → Y) (xs ys zs : List (Option ℕ)) (others : List X) (sort c : Option ℕ) (i : ℕ) → sort ≡ c
    → ys ≡ xs ++ sort ∷ [] → zs ≡ ys ++ map (λ _. sort) (take i others) → length others ≤ i
    → zs ≡ xs ++ c ∷ map (λ _. c) (map f others)
sorts_pushed {X = X} f xs ys zs others sort c i e first rest done =
    rest
    ∙ ap (λ us. ys ++ map (λ _. sort) us) (take_all i others done)
    ∙ ap (λ us. us ++ map (λ _. sort) others) first
    ∙ append_assoc xs (sort ∷ []) (map (λ _. sort) others)
    ∙ ap (λ (k : Option ℕ). xs ++ k ∷ map (λ _. k) others) e
    ∙ ap (λ us. xs ++ c ∷ us) (constant others)
  where
    constant : (vs : List X) → map (λ _. c) vs ≡ map (λ _. c) (map f vs)
    constant [] = refl
    constant (v ∷ vs) = ap (λ us. c ∷ us) (constant vs)

-- the lists in some vectors
abbrev pub lists : Vec (Vec (Option ℕ) Global) Global → List (List (Option ℕ))
lists vs = map (λ v. v.items) vs.items

-- one more list is pushed
pub list_pushed : (xs ys : List (Vec (Option ℕ) Global)) (v : Vec (Option ℕ) Global) (items : List (Option ℕ)) → ys ≡ xs ++ v ∷ [] → v.items ≡ items
    → map (λ v. v.items) ys ≡ map (λ v. v.items) xs ++ items ∷ []
list_pushed xs ys v items grown e = ap (map (λ v. v.items)) grown ∙ map-append (λ v. v.items) xs (v ∷ []) ∙ ap (λ zs. map (λ v. v.items) xs ++ zs ∷ []) e

-- the least place of a sort that is not declared is kept
pub unknown_pushed : (numbers : Numbers) (ws : List Word) (w : Word) (old unknown missing both new : Option ℕ) → unknown ≡ least_unnumbered numbers ws
    → missing ≡ unnumbered numbers w → both ≡ earlier unknown missing → new ≡ earlier old both
    → new ≡ earlier old (least_unnumbered numbers (ws ++ w ∷ []))
unknown_pushed numbers ws w old unknown missing both new eu em eb en =
    en
    ∙ ap (earlier old)
    (eb ∙ ap (λ p. earlier p missing) eu ∙ ap (earlier (least_unnumbered numbers ws)) (em ∙ sym (earlier_none (unnumbered numbers w)))
    ∙ sym (least_of-append (unnumbered numbers) ws (w ∷ [])))

-- one more item is added
pub added_turn : {X Y : Type 0} (add : Y → Additions) (spell : X → Y) (source : List ℕ) (numbers : Numbers) (old mid new : Declared) (xs : List X)
    (i : ℕ) (x : X) → i < length xs → x ≡ get_or xs i x
    → Adds source numbers old mid (added_by add (map spell (take i xs))) → Adds source numbers mid new (add (spell x))
    → Adds source numbers old new (added_by add (map spell (take (i + 1) xs)))
added_turn add spell source numbers old mid new xs i x h e all one =
    let before = map spell (take i xs) in
    subst (Adds source numbers old new)
    (sym (ap (added_by add) (map-take_turn spell xs i x h e) ∙ added_by-append add before (spell x ∷ [])
    ∙ ap (both (added_by add before)) (both-nothing (add (spell x)))))
    (Adds-both source numbers old mid new (added_by add before) (add (spell x)) all one)

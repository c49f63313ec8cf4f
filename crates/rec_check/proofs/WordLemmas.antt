-- Words in the place of the same words.
use Rattle.std.proofs.Common.{Vec, Global, Result, Ok, Err, refl, sym, ap, ◌∙◌}
use Rattle.std.proofs.Common.{arith, append_assoc}
use Rattle.std.proofs.lemmas.List.{length-drop, length-take-le, take_all, take_more}
use Rattle.rec_syntax.specs.Lexemes.{Within, word_of}
use Rattle.rec_syntax.specs.Parts.{words_of}
use Rattle.rec_syntax.specs.declared.lexer.Span.{Span}
use Rattle.rec_sorts.specs.Lookup.{mentions}
use Rattle.rec_sorts.proofs.StackLemmas.{map-append}
use Rattle.rec_check.specs.Lookups.{Knows}
use Rattle.rec_check.specs.declared.names.Names.{Names}
use Rattle.std.specs.Prelude.{ℕ, ◌≡◌, ◌+◌, ◌-◌, ◌<◌, ◌≤◌, List, [], ◌∷◌, ◌++◌, IfOk, count_by, codes, decimal, length, map, take, drop, get_or}
use Rattle.std.proofs.Common.{length-append}
use Rattle.rec_check.specs.Spots.{spot_shown}
use Rattle.rec_check.specs.declared.spots.Spot.{Spot}
use Rattle.rec_check.specs.Lines.{shown_text}
use Rattle.rec_syntax.specs.Tokens as syntax
use Rattle.rec_check.specs.Findings.{HasSame}
use Rattle.rec_check.specs.Named.{as_word, as_words}
use Rattle.rec_check.specs.declared.located.Word.{Word}

-- the end of a word
pub word_end : (source : List ℕ) (s : Span) → Within source s → s.to ≡ s.from + length (word_of source s).bytes
word_end source s h =
    let left = length-drop s.from source in
    let long = length-take-le (s.to - s.from) (drop s.from source) (omega (arith, left, h.order, h.end)) in
    omega (arith, long, h.order)

pub if_ok_same : {E : Type 0} (r : Result (Vec Word Global) E) (zs xs : List syntax.Word) → IfOk r (λ v. as_words v.items ≡ xs) → HasSame zs xs
    → IfOk r (λ v. HasSame zs (as_words v.items))
if_ok_same (Ok v) zs xs e h = λ p. h p ∙ ap (count_by p) (sym e)
if_ok_same (Err f) zs xs e h = tt

-- what is shown, where there is something to show
pub shown-some : (xs : List ℕ) → 0 < length xs → codes ": " ++ xs ≡ shown_text xs
shown-some [] h = absurd (omega (arith, h))
shown-some (x ∷ xs) h = refl

-- a place is something to show
pub shown-place : (p : Spot) → (codes ": " ++ decimal p.line) ++ (codes ":" ++ decimal p.column) ≡ shown_text (spot_shown p)
shown-place p =
    append_assoc (codes ": ") (decimal p.line) (codes ":" ++ decimal p.column)
    ∙ shown-some (spot_shown p) (let all = length-append (decimal p.line) (codes ":" ++ decimal p.column) in let sign =
    length-append (codes ":") (decimal p.column) in let one : length (codes ":") ≡ 1 = refl in omega (arith, all, sign, one))

pub if_ok_equal : {E : Type 0} (r : Result (Vec Word Global) E) (xs ys : List syntax.Word) → IfOk r (λ v. as_words v.items ≡ xs) → xs ≡ ys
    → IfOk r (λ v. as_words v.items ≡ ys)
if_ok_equal (Ok v) xs ys e h = e ∙ h
if_ok_equal (Err f) xs ys e h = tt

pub if_ok_knows : {E : Type 0} (r : Result Names E) (xs zs : List syntax.Word) → IfOk r (λ n. Knows n xs)
    → ((name : List ℕ) → mentions xs name ≡ mentions zs name) → IfOk r (λ n. Knows n zs)
if_ok_knows (Ok n) xs zs e h = λ name. e name ∙ h name
if_ok_knows (Err f) xs zs e h = tt

-- one sort behind others, once more
pub copies_item : (items : List Span) (i : ℕ) (old now new : List Word) (sort : Word) → i < length items
    → as_words now ≡ as_words old ++ map (λ _. as_word sort) (take i items) → new ≡ now ++ sort ∷ []
    → as_words new ≡ as_words old ++ map (λ _. as_word sort) (take (i + 1) items)
copies_item items i old now new sort h before pushed =
    let d : Span = record { from = 0; to = 0 } in
    ap as_words pushed
    ∙ map-append as_word now (sort ∷ [])
    ∙ ap (λ ws. ws ++ as_word sort ∷ []) before
    ∙ append_assoc (as_words old) (map (λ _. as_word sort) (take i items)) (as_word sort ∷ [])
    ∙ ap (λ ws. as_words old ++ ws) (sym (ap (map (λ _. as_word sort)) (take_more items i d h)
    ∙ map-append (λ _. as_word sort) (take i items) (get_or items i d ∷ [])))

same_copies : {X Y Z : Type 0} (f : X → Y) (s : Z) (xs : List X) → map (λ _. s) xs ≡ map (λ _. s) (map f xs)
same_copies f s [] = refl
same_copies f s (x ∷ xs) = ap (λ ys. s ∷ ys) (same_copies f s xs)

pub copies_end : (source : List ℕ) (items : List Span) (i : ℕ) (old mid new : List Word) (sort : Word) (s : syntax.Word) → length items ≤ i
    → mid ≡ old ++ sort ∷ [] → as_word sort ≡ s → as_words new ≡ as_words mid ++ map (λ _. as_word sort) (take i items)
    → as_words new ≡ as_words old ++ s ∷ map (λ _. s) (words_of source items)
copies_end source items i old mid new sort s past first is all =
    all
    ∙ ap (λ ws. as_words mid ++ map (λ _. as_word sort) ws) (take_all i items past)
    ∙ ap (λ ws. as_words ws ++ map (λ _. as_word sort) items) first
    ∙ ap (λ ws. ws ++ map (λ _. as_word sort) items) (map-append as_word old (sort ∷ []))
    ∙ append_assoc (as_words old) (as_word sort ∷ []) (map (λ _. as_word sort) items)
    ∙ ap (λ w. as_words old ++ w ∷ map (λ _. w) items) is
    ∙ ap (λ ws. as_words old ++ s ∷ ws) (same_copies (word_of source) s items)

-- Writing a name byte by byte.
use Rattle.std.proofs.Common.{◌≡◌, ℕ, ◌+◌, ◌<◌, ◌≤◌, true, List, [], ◌∷◌, ◌++◌, Option, length, take, drop}
use Rattle.std.proofs.Common.{get_or, sym, ap, ◌∙◌, append_assoc, append-nil, take_all, take-append-drop}
use Rattle.std.specs.Prelude.{flat_map}
use Rattle.std.proofs.lemmas.List.{take_more}
use Rattle.std.proofs.lemmas.List.Concat.{flat_map-append}
use Rattle.std.specs.Io.KnownBytes.{Appends}
use Rattle.rx_text.specs.Canon.{quoted_byte, name_text}
use Rattle.rx_text.specs.Written.{AppendsFront}
use Rattle.rx_text.proofs.AppendingLemmas.{front_within, front_before}

-- the opening quote, and so many bytes
abbrev pub begun_name : List ℕ → ℕ → List ℕ
begun_name name i = 34 ∷ flat_map quoted_byte (take i name)

begun-more : (name : List ℕ) (i : ℕ) → i < length name → begun_name name (i + 1) ≡ begun_name name i ++ quoted_byte (get_or name i 0)
begun-more name i h = ap (λ xs. 34 ∷ xs) (ap (flat_map quoted_byte) (take_more name i 0 h)
    ∙ flat_map-append quoted_byte (take i name) (get_or name i 0 ∷ [])
    ∙ ap (λ z. flat_map quoted_byte (take i name) ++ z) (append-nil (quoted_byte (get_or name i 0))))

name-from : (name : List ℕ) (i : ℕ) → name_text name true ≡ begun_name name i ++ (flat_map quoted_byte (drop i name) ++ 34 ∷ [])
name-from name i =
    let split : flat_map quoted_byte name ≡ flat_map quoted_byte (take i name) ++ flat_map quoted_byte (drop i name) =
    ap (flat_map quoted_byte) (sym (take-append-drop i name)) ∙ flat_map-append quoted_byte (take i name) (drop i name) in
    ap (λ xs. 34 ∷ (xs ++ 34 ∷ [])) split
    ∙ ap (λ xs. 34 ∷ xs) (append_assoc (flat_map quoted_byte (take i name)) (flat_map quoted_byte (drop i name)) (34 ∷ []))

pub byte_front : (old between new : Option (List ℕ)) (name : List ℕ) (i : ℕ) → i < length name → Appends old between (begun_name name i)
    → AppendsFront (quoted_byte (get_or name i 0)) between new → AppendsFront (name_text name true) old new
byte_front old between new name i h a b =
    let whole : name_text name true ≡ begun_name name i ++ (quoted_byte (get_or name i 0) ++ (flat_map quoted_byte (drop (i + 1) name) ++ 34 ∷ []))
    = name-from name (i + 1) ∙ ap (λ z. z ++ (flat_map quoted_byte (drop (i + 1) name) ++ 34 ∷ [])) (begun-more name i h)
    ∙ append_assoc (begun_name name i) (quoted_byte (get_or name i 0)) (flat_map quoted_byte (drop (i + 1) name) ++ 34 ∷ []) in
    front_within old between new (name_text name true) (begun_name name i) (quoted_byte (get_or name i 0))
    (flat_map quoted_byte (drop (i + 1) name) ++ 34 ∷ []) whole a b

pub quote_front : (old new : Option (List ℕ)) (name : List ℕ) → AppendsFront (34 ∷ []) old new → AppendsFront (name_text name true) old new
quote_front old new name h = front_before old new (34 ∷ []) (flat_map quoted_byte name ++ 34 ∷ []) h

-- the closing quote
name-ended : (name : List ℕ) (i : ℕ) → length name ≤ i → name_text name true ≡ begun_name name i ++ 34 ∷ []
name-ended name i h = ap (λ xs. 34 ∷ (flat_map quoted_byte xs ++ 34 ∷ [])) (sym (take_all i name h))

pub name_ends : (name : List ℕ) (i : ℕ) → length name ≤ i → name_text name true ≡ begun_name name i ++ ((34 ∷ []) ++ [])
name_ends name i h = name-ended name i h

-- Lines of words, one after the other.
use Rattle.std.specs.Io.KnownBytes.{Appends}
use Rattle.rx_text.specs.Written.{AppendsFront}
use Rattle.rx_text.proofs.AppendingLemmas.{front_after}
use Rattle.std.proofs.Common.{Result, Ok, Err, OnErr, ◌≡◌, ℕ, List, [], refl, sym, ap, ◌∙◌, take, drop, get_or, length}
use Rattle.std.proofs.lemmas.List.{append-nil, take_all, take_more, take-append-drop}
use Rattle.std.proofs.lemmas.List.Concat.{flat_map-append}
use Rattle.std.specs.Prelude.{◌<◌, ◌≤◌, ◌+◌, ◌∷◌, ◌++◌, Option, Some, None, flat_map, option_map}
use Rattle.rec_syntax.specs.Syntax.{Spec}
use Rattle.rec_sorts.proofs.StackLemmas.{map-append}
use Rattle.rec_sorts.proofs.TurnLemmas.{drop-turn}
use Rattle.rec_uses.specs.Inner.Values.{as_use, as_uses}
use Rattle.rec_uses.specs.Lines.{declared_text, line_of, place_text, description, unknown_text}
use Rattle.rec_uses.specs.Spots.{spot_of}
use Rattle.rec_uses.specs.Uses as spec
use Rattle.rec_uses.specs.Uses.{named}
use Rattle.rec_uses.specs.declared.spots.Spot.{Spot}
use Rattle.rec_uses.specs.declared.uses.Use.{Use}

-- the description by the table, and without an entry
abbrev described_or : Option (List ℕ) → spec.Use → List ℕ
described_or (Some t) u = t
described_or None u = unknown_text u.role u.word.bytes

pub described_by : (text : List ℕ) (y : Spec) (u : spec.Use) (o : Option (List ℕ)) → o ≡ option_map (declared_text text) (named y u)
    → described_or o u ≡ description text y u
described_by text y u o e = ap (λ (p : Option (List ℕ)). described_or p u) e ∙ by_cases (named y u)
  where
    by_cases : (d : Option spec.Declared) → described_or (option_map (declared_text text) d) u
        ≡ (elim d as (λ _. List ℕ) [ Some e ↦ declared_text text e | None ↦ unknown_text u.role u.word.bytes ])
    by_cases (Some d) = refl
    by_cases None = refl

-- a front of a description, after what was written before
pub err_behind : {X E : Type 0} (r : Result X E) (P : List ℕ → Spec → Type 0) (f : List ℕ → Spec → List ℕ) (old between new : Option (List ℕ))
    (xs : List ℕ) → Appends old between xs → OnErr r ((text : List ℕ) (y : Spec) → P text y → AppendsFront (f text y) between new)
    → OnErr r ((text : List ℕ) (y : Spec) → P text y → AppendsFront (xs ++ f text y) old new)
err_behind (Ok x) P f old between new xs h k = tt
err_behind (Err e) P f old between new xs h k = λ text y p. front_after old between new xs (f text y) h (k text y p)

module _ (name text : List ℕ) (y : Spec) where
  abbrev lines : List Use → List ℕ
  lines us = flat_map (line_of name text y) (as_uses us)

  lines-append : (xs ys : List Use) → lines (xs ++ ys) ≡ lines xs ++ lines ys
  lines-append xs ys = ap (flat_map (line_of name text y)) (map-append as_use xs ys) ∙ flat_map-append (line_of name text y) (as_uses xs) (as_uses ys)

  -- one line more
  pub lines_turn : (xs : List Use) (i : ℕ) (d : Use) (spot : Spot) → i < length xs → spot ≡ spot_of text (get_or xs i d).word.at
      → lines (take i xs) ++ (place_text name spot ++ description text y (as_use (get_or xs i d))) ≡ lines (take (i + 1) xs)
  lines_turn xs i d spot h e =
      let x : Use = get_or xs i d in
      ap (λ (s : Spot). lines (take i xs) ++ (place_text name s ++ description text y (as_use x))) e
      ∙ ap (λ ls. lines (take i xs) ++ ls) (sym (append-nil (line_of name text y (as_use x))))
      ∙ sym (lines-append (take i xs) (x ∷ []))
      ∙ ap lines (sym (take_more xs i d h))

  -- all lines are those so far, one more, and the others
  pub lines_rest : (xs : List Use) (i : ℕ) (d : Use) (spot : Spot) → i < length xs → spot ≡ spot_of text (get_or xs i d).word.at
      → lines xs ≡ lines (take i xs) ++ ((place_text name spot ++ description text y (as_use (get_or xs i d))) ++ lines (drop (i + 1) xs))
  lines_rest xs i d spot h e =
      let x : Use = get_or xs i d in
      ap lines (sym (take-append-drop i xs))
      ∙ lines-append (take i xs) (drop i xs)
      ∙ ap (λ ys. lines (take i xs) ++ lines ys) (drop-turn xs i d h)
      ∙ ap (λ (s : Spot). lines (take i xs) ++ ((place_text name s ++ description text y (as_use x)) ++ lines (drop (i + 1) xs))) (sym e)

  pub lines_end : (xs : List Use) (i : ℕ) → length xs ≤ i → lines (take i xs) ≡ lines xs
  lines_end xs i past = ap lines (take_all i xs past)

-- Lines and columns as a cursor goes on.
use Rattle.std.proofs.Common.{refl, sym, ap, ◌∙◌, arith, cond, inl, inr}
use Rattle.std.proofs.lemmas.Bool.{cases_lt}
use Rattle.std.proofs.lemmas.List.{take_all, take_more}
use Rattle.std.specs.Prelude.{ℕ, suc, ◌≡◌, ◌==◌, ◌+◌, ◌<◌, ◌≤◌, ◌⊎◌, Bool, true, false, List, [], ◌∷◌, ◌++◌, length, take, get_or, min}
use Rattle.rec_uses.specs.Inner.Cursors.{IsCursor}
use Rattle.rec_uses.specs.Spots.{first_spot, spot_behind, spot_after, spot_of}
use Rattle.rec_uses.specs.declared.spots.Spot.{Spot}
use Rattle.rec_uses.specs.declared.spots.Cursor.{Cursor}

spot_after-push : (s : Spot) (bs : List ℕ) (b : ℕ) → spot_after s (bs ++ b ∷ []) ≡ spot_behind (spot_after s bs) b
spot_after-push s [] b = refl
spot_after-push s (c ∷ bs) b = spot_after-push (spot_behind s c) bs b

-- one byte more
pub spot_of-next : (text : List ℕ) (at : ℕ) → at < length text → spot_of text (at + 1) ≡ spot_behind (spot_of text at) (get_or text at 0)
spot_of-next text at h = ap (spot_after first_spot) (take_more text at 0 h) ∙ spot_after-push first_spot (take at text) (get_or text at 0)

-- behind a line end, or another byte
abbrev next_of : Bool → Spot → Spot
next_of t s = cond t (record { line = suc s.line; column = 1 }) (record { line = s.line; column = suc s.column })

line_behind : (s : Spot) (b : ℕ) → (spot_behind s b).line ≤ s.line + 1
line_behind s b = by_test (b == 10)
  where
    by_test : (t : Bool) → (next_of t s).line ≤ s.line + 1
    by_test true = omega arith
    by_test false = omega arith

column_behind : (s : Spot) (b : ℕ) → (spot_behind s b).column ≤ s.column + 1
column_behind s b = by_test (b == 10)
  where
    by_test : (t : Bool) → (next_of t s).column ≤ s.column + 1
    by_test true = omega arith
    by_test false = omega arith

pub cursor_next : (text : List ℕ) (old new : Cursor) → IsCursor text old → old.at < length text → new.text.now ≡ old.text.now → new.at ≡ old.at + 1
    → new.spot ≡ spot_behind old.spot (get_or old.text.now old.at 0) → IsCursor text new
cursor_next text old new h below same at spot =
    let line = ap (λ (s : Spot). s.line) spot in
    let column = ap (λ (s : Spot). s.column) spot in
    let line_most = line_behind old.spot (get_or old.text.now old.at 0) in
    let column_most = column_behind old.spot (get_or old.text.now old.at 0) in
    let line_first = h.line_small in
    let column_first = h.column_small in
    record {
      text_is = same ∙ h.text_is;
      within = omega (arith, at, below);
      spot_is = spot ∙ ap (λ (s : Spot). spot_behind s (get_or old.text.now old.at 0)) h.spot_is
          ∙ ap (λ (t : List ℕ). spot_behind (spot_of text old.at) (get_or t old.at 0)) h.text_is ∙ sym (spot_of-next text old.at below)
          ∙ ap (spot_of text) (sym at);
      line_small = omega (arith, at, line, line_most, line_first);
      column_small = omega (arith, at, column, column_most, column_first);
    }

-- a place behind the text is its end
pub spot_of-end : (text : List ℕ) (at : ℕ) → spot_of text (min at (length text)) ≡ spot_of text at
spot_of-end text at = by_end (cases_lt (length text) at)
  where
    by_end : (length text < at) ⊎ (at ≤ length text) → spot_of text (min at (length text)) ≡ spot_of text at
    by_end (inl h) =
        let e : min at (length text) ≡ length text = omega arith in
        ap (spot_of text) e ∙ ap (spot_after first_spot) (take_all (length text) text (omega arith) ∙ sym (take_all at text (omega arith)))
    by_end (inr h) = ap (spot_of text) (let e : min at (length text) ≡ at = omega arith in e)

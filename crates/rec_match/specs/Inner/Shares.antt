-- Rows distributed to the symbols that a register can hold.
use Rattle.std.specs.Prelude.{ℕ, ◌≡◌, ◌<◌, List, [], ◌∷◌, ◌++◌, All, length, map, get_or}
use Rattle.rec_match.specs.Parts.{opened_codes, Coded, coded_of, changed_codes}
use Rattle.rec_match.specs.declared.parts.Parts.{Parts}
use Rattle.rec_match.specs.declared.shares.Share.{Share}

-- symbols_of shares: the symbols of shares
abbrev pub symbols_of : List Share → List ℕ
symbols_of shares = map (λ (s : Share). s.symbol) shares

-- IsShare ps r base coded s: the share has what remains of the rows for its symbol
abbrev pub IsShare : Parts → ℕ → ℕ → List Coded → Share → Type 0
IsShare ps r base coded s = map coded_of s.rows.items
    ≡ changed_codes (opened_codes ps r s.symbol base) coded

-- AreShares: each of these symbols has its share of the rows
pub record AreShares (ps : Parts) (r base : ℕ) (ks : List ℕ) (coded : List Coded)
    (shares : List Share) : Type 0 where
  pub symbols : symbols_of shares ≡ ks
  pub each : All (IsShare ps r base coded) shares

-- AddsRow: the share has, in addition, what remains of one more row
pub record AddsRow (ps : Parts) (r base : ℕ) (row : Coded) (old new : Share) : Type 0 where
  pub symbol : new.symbol ≡ old.symbol
  pub rows : map coded_of new.rows.items
      ≡ map coded_of old.rows.items ++ changed_codes (opened_codes ps r old.symbol base) (row ∷ [])

-- DealsRow: each share has, in addition, what remains of one more row
pub record DealsRow (ps : Parts) (r base : ℕ) (row : Coded) (old new : List Share) : Type 0 where
  pub counted : length new ≡ length old
  pub each : (i : ℕ) (d : Share) → i < length old
      → AddsRow ps r base row (get_or old i d) (get_or new i d)

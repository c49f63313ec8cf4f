-- The number of symbols of a store, and its limit.
use Rattle.std.specs.Prelude.{◌≡◌, ◌≢◌, ◌⊎◌, ℕ, ◌<◌, ◌≤◌, Some, Result, Ok, Err}
use Rattle.std.specs.FinMap as map
use Rattle.rx_term.specs.Name.{Signature}
use Rattle.rx_term.specs.Store.{Store, cells, signature_of}
use Rattle.rx_term.specs.Steps.{Adds}
use Rattle.rx_term.specs.declared.Symbol.{Symbol}
use Rattle.rx_term.specs.declared.faults.BankFault.{BankFault}
use Rattle.rx_term.specs.declared.faults.BankFault.TheVariants.{Memory, Full}

-- names_of w: the number of symbols
abbrev pub names_of : Store → ℕ
names_of w = map.len w.symbols

-- LacksName w most g: no symbol has the signature, and there are at least `most` symbols
pub record LacksName (w : Store) (most : ℕ) (g : Signature) : Type 0 where
  pub absent : (s : Symbol) → signature_of w s ≢ Some g
  pub full : most ≤ names_of w

-- IsFull w most: all cells are in use, or no symbol may be added
abbrev pub IsFull : Store → ℕ → Type 0
IsFull w most = (cells w ≡ w.cap) ⊎ (most ≤ names_of w)

-- KeepsLimit most old new: if symbols were added, there are at most `most`
abbrev pub KeepsLimit : ℕ → Store → Store → Type 0
KeepsLimit most old new = names_of old < names_of new → names_of new ≤ most

-- NamesOrRefuses most old new g r: the symbol of a signature, within the limit; or out of memory,
-- or the limit is reached, and nothing changed
abbrev pub NamesOrRefuses : ℕ → Store → Store → Signature → Result Symbol BankFault → Type 0
NamesOrRefuses most old new g (Ok s) = Adds old new g s × KeepsLimit most old new
NamesOrRefuses most old new g (Err Memory) = new ≡ old
NamesOrRefuses most old new g (Err Full) = LacksName old most g × (new ≡ old)

-- IsFullFor most old new g: all cells are in use, or the limit does not allow the new signature
abbrev pub IsFullFor : ℕ → Store → Store → Signature → Type 0
IsFullFor most old new g = (cells new ≡ new.cap) ⊎ LacksName old most g

-- IsNameFault most old new g e: why a name was not applied
abbrev pub IsNameFault : ℕ → Store → Store → Signature → BankFault → Type 0
IsNameFault most old new g Memory = Unit {0}
IsNameFault most old new g Full = IsFullFor most old new g

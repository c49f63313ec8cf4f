-- The value of a symbol table in contracts, and the effect of adding a symbol.
use Rattle.std.specs.Prelude.{ℕ, ◌≡◌, ◌≢◌, Option, None, Some, IsSome, Result, Ok, Err}
use Rattle.std.specs.Ordering.{nat_cmp}
use Rattle.std.specs.FinMap as map
use Rattle.rx_term.specs.Name.{Signature}
use Rattle.rx_term.specs.declared.Symbol.{Symbol}
use Rattle.rx_names.specs.declared.names.Names.{Names}
use Rattle.rx_names.specs.declared.faults.NamesFault.{NamesFault}
use Rattle.rx_names.specs.Words.{words_of}
use Rattle.rx_names.specs.Entries.{symbols_from}

-- symbols_of n: the signature of each symbol
abbrev pub symbols_of : Names → map.FinMap nat_cmp Signature
symbols_of n = symbols_from (words_of n.words) n.entries.keys

-- FindsOrLacks symbols g s: `s` is the symbol of the signature, or none if no symbol has it
abbrev pub FindsOrLacks : map.FinMap nat_cmp Signature → Signature → Option Symbol → Type 0
FindsOrLacks symbols g None = (s : Symbol) → map.get symbols s.0 ≢ Some g
FindsOrLacks symbols g (Some s) = map.get symbols s.0 ≡ Some g

-- IsOneToOne symbols: no two symbols have the same signature
abbrev pub IsOneToOne : map.FinMap nat_cmp Signature → Type 0
IsOneToOne symbols = (s t : ℕ) (g : Signature) → map.get symbols s ≡ Some g
    → map.get symbols t ≡ Some g → s ≡ t

-- Interns old new g s: `s` is the only symbol with the signature in `new`, no other symbol changes,
-- and nothing at all changes if `s` was in `old`
pub record Interns (old new : map.FinMap nat_cmp Signature) (g : Signature) (s : Symbol)
    : Type 0 where
  pub added : map.get new s.0 ≡ Some g
  pub only : (t : ℕ) → map.get new t ≡ Some g → t ≡ s.0
  pub others : (t : ℕ) → t ≢ s.0 → map.get new t ≡ map.get old t
  pub there : IsSome (map.get old s.0) → new ≡ old

-- InternsOrRefuses: the symbol, or an error after which nothing has changed
abbrev pub InternsOrRefuses : map.FinMap nat_cmp Signature → map.FinMap nat_cmp Signature
    → Signature → Result Symbol NamesFault → Type 0
InternsOrRefuses old new g (Ok s) = Interns old new g s
InternsOrRefuses old new g (Err e) = new ≡ old

-- The results of calls on symbols, which have numbers that only C uses.
use Rattle.std.specs.Prelude.{◌≡◌, ◌≢◌, ℕ, false, List, length, Option, Some, None, Result, Ok, Err}
use Rattle.rx_term.specs.Name.{Signature, is_allowed}
use Rattle.rx_term.specs.Store.{Store, tree_at, cells}
use Rattle.rx_term.specs.Steps.{Grows}
use Rattle.rx_term.specs.declared.Term.{Term}
use Rattle.rec_sorts.specs.Linked.{HasMoreSymbols}
use Rattle.rx_term.specs.declared.faults.BankFault.{BankFault}
use Rattle.rx_term.specs.declared.faults.BankFault.TheVariants as bank
use Rattle.psilt_core.specs.Names.{LacksName, KeepsLimit}
use Rattle.psilt_core.specs.Answers.{Has, are_held, IsApplication}
use Rattle.psilt_core.specs.Banks.{BankState, signature_at, store_of}
use Rattle.psilt_core.specs.declared.fault.Fault.{Fault}
use Rattle.psilt_core.specs.declared.fault.Fault.TheVariants.{Memory, Full, Stale, Range, Name}
use Rattle.psilt_core.specs.declared.fault.Fault.TheVariants.{Unknown}

-- IsNumberOf b g n: n is the only number of the symbol with this signature
abbrev pub IsNumberOf : BankState → Signature → ℕ → Type 0
IsNumberOf b g n =
    (signature_at b n ≡ Some g) × ((k : ℕ) → signature_at b k ≡ Some g → k ≡ n)

-- KeepsNumbers old new: each number with a signature keeps it
abbrev pub KeepsNumbers : BankState → BankState → Type 0
KeepsNumbers old new =
    (k : ℕ) (g : Signature) → signature_at old k ≡ Some g → signature_at new k ≡ Some g

-- RefusesNumber old new g e: why a symbol has no number, and no number changed: out of memory; or
-- it is new and the limit on symbols is reached, and the store is unchanged
abbrev pub RefusesNumber : BankState → BankState → Signature → BankFault → Type 0
RefusesNumber old new g bank.Memory = new.symbols ≡ old.symbols
RefusesNumber old new g bank.Full = LacksName (store_of old) old.most_names g
    × (store_of new ≡ store_of old) × (new.symbols ≡ old.symbols)

-- GivesNumber old new g r: the one number of a symbol; or nothing changed, since the name has to be
-- quoted, or the symbol is new and the limit on symbols is reached; or memory ran out
abbrev pub GivesNumber : BankState → BankState → Signature → Result ℕ Fault → Type 0
GivesNumber old new g (Ok n) = IsNumberOf new g n × KeepsNumbers old new
    × HasMoreSymbols (store_of old) (store_of new)
    × KeepsLimit old.most_names (store_of old) (store_of new)
GivesNumber old new g (Err Name) = (is_allowed g.name g.quoted ≡ false) × (new ≡ old)
GivesNumber old new g (Err Memory) = (new.symbols ≡ old.symbols) × KeepsNumbers old new
    × HasMoreSymbols (store_of old) (store_of new)
    × KeepsLimit old.most_names (store_of old) (store_of new)
GivesNumber old new g (Err Full) = RefusesNumber old new g bank.Full
GivesNumber old new g (Err e) = ⊥

-- AppliesSymbol symbol old new args r: the application is made; or nothing changed, since there is
-- no such symbol, or else it has another number of arguments, or else one of them is not in the
-- store; or memory or cells ran out
abbrev pub AppliesSymbol : Option Signature → Store → Store → List ℕ → Result Term Fault → Type 0
AppliesSymbol symbol old new args (Ok r) =
    Has symbol (λ g. IsApplication old g.name g.quoted args (tree_at new r)) × Grows old new
AppliesSymbol symbol old new args (Err Unknown) = (symbol ≡ None) × (new ≡ old)
AppliesSymbol symbol old new args (Err Range) =
    Has symbol (λ g. length args ≢ g.arity) × (new ≡ old)
AppliesSymbol symbol old new args (Err Stale) = Has symbol (λ g. length args ≡ g.arity)
    × (are_held old args ≡ false) × (new ≡ old)
AppliesSymbol symbol old new args (Err Memory) = Grows old new
AppliesSymbol symbol old new args (Err Full) = (cells new ≡ new.cap) × Grows old new
AppliesSymbol symbol old new args (Err e) = ⊥

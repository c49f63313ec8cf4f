-- The view of a handle's term store in contracts, with or without a specification.
use Rattle.std.specs.Prelude.{◌≡◌, ℕ, List, slice_get, Option, Some, IsSome, refl}
use Rattle.std.specs.Coded.{Coded, code_by, coded×, coded_ℕ, coded_list, coded_option}
use Rattle.std.specs.FinMap as map
use Rattle.std.specs.Option.{option_and_then}
use Rattle.rx_term.specs.Name.{Signature}
use Rattle.rx_term.specs.Store.{Store}
use Rattle.rx_shared.specs.State as shared
use Rattle.rx_shared.specs.declared.bank.SharedBank.{SharedBank}
use Rattle.rx_shared.specs.contracts.bank.SharedBank as bank
use Rattle.rec_syntax.specs.Syntax.{Spec}
use Rattle.rec_syntax.specs.Inner.TermCode.{spec_code}
use Rattle.rec_engine.specs.Engine.{options_code}
use Rattle.rec_engine.specs.Prepared.{spec_of, options_of}
use Rattle.rec_memo.specs.Pairs.{Pairs, pairs_code}
use Rattle.rec_engine.specs.declared.engine.Options.{Options}
use Rattle.rec_engine.specs.declared.engine.prepared.Prepared.{Prepared}

-- Specified: the specification and the options of its evaluation
pub record Specified : Type 0 where
  pub spec : Spec
  pub options : Options

-- BankState: the store, the limit on symbols, the specification and its memoized results, if there
-- is one, and the store's numbers of the symbols that C knows, in the order of C's numbers
pub record BankState : Type 0 where
  pub shared : SharedBank
  pub most_names : ℕ
  pub specified : Option Specified
  pub memo : Option Pairs
  pub symbols : List ℕ

-- specified_code: a specification is stored as the pair of these fields
abbrev pub specified_code : Coded Specified
specified_code = code_by (Spec × Options) (coded× spec_code options_code) (λ s. (s.spec, s.options))
    (λ p. record { spec = p.0; options = p.1 }) (λ _. refl)

-- bank_code: a bank is stored as the tuple of these fields
abbrev pub bank_code : Coded BankState
bank_code = code_by (SharedBank × (ℕ × (Option Specified × (Option Pairs × List ℕ))))
    (coded× bank.the_row.coded (coded× coded_ℕ (coded× (coded_option specified_code)
    (coded× (coded_option pairs_code) (coded_list coded_ℕ)))))
    (λ b. (b.shared, (b.most_names, (b.specified, (b.memo, b.symbols)))))
    (λ p. record {
      shared = p.0;
      most_names = p.1.0;
      specified = p.1.1.0;
      memo = p.1.1.1.0;
      symbols = p.1.1.1.1;
    })
    (λ _. refl)

-- store_of b: the terms and symbols, which the contracts of all calls use
abbrev pub store_of : BankState → Store
store_of b = shared.store_of b.shared

-- specified_by p: the specification and options of a prepared engine
abbrev pub specified_by : Prepared → Specified
specified_by p = record { spec = spec_of p; options = options_of p }

-- IsSameButTerms b c: only the terms and the memoized results changed
abbrev pub IsSameButTerms : BankState → BankState → Type 0
IsSameButTerms b c = c ≡ record b { shared = c.shared; memo = c.memo }

-- IsSpecified b P: there is a specification, and P holds of it
abbrev pub IsSpecified : BankState → (Spec → Type 0) → Type 0
IsSpecified b P = (s : Specified) × (b.specified ≡ Some s) × P s.spec

-- signature_at b n: the signature of the symbol that has the number n for C
abbrev pub signature_at : BankState → ℕ → Option Signature
signature_at b n = option_and_then (λ s. map.get (store_of b).symbols s) (slice_get b.symbols n)

-- AreSymbols w symbols: each of these numbers is that of a symbol of the store
abbrev pub AreSymbols : Store → List ℕ → Type 0
AreSymbols w symbols = (n s : ℕ) → slice_get symbols n ≡ Some s → IsSome (map.get w.symbols s)

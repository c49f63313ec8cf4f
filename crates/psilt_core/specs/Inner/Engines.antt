-- The bank that an engine over its store makes.
use Rattle.std.specs.Prelude.{ℕ, List, Some}
use Rattle.rec_engine.specs.declared.engine.Engine.{Engine}
use Rattle.psilt_core.specs.Banks.{BankState}
use Rattle.psilt_core.specs.declared.limited.LimitedBank.{LimitedBank}

-- with_engine e most_names symbols: the bank of an engine, the limit on symbols, and the symbols that
-- C knows
abbrev pub with_engine : Engine LimitedBank → ℕ → List ℕ → BankState
with_engine e most_names symbols = record {
  shared = e.bank.shared;
  most_names = most_names;
  specified = Some (record { spec = e.spec; options = e.options });
  memo = Some e.memo;
  symbols = symbols;
}

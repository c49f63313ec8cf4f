-- Errors of a term store, as errors of patterns.
use Rattle.std.specs.Prelude.{◌≡◌}
use Rattle.rx_term.specs.Store.{Store, cells}
use Rattle.rx_term.specs.declared.faults.BankFault.{BankFault}
use Rattle.rx_term.specs.declared.faults.BankFault.TheVariants as bank
use Rattle.rx_pattern.specs.declared.faults.PatternFault.{PatternFault}
use Rattle.rx_pattern.specs.declared.faults.PatternFault.TheVariants as pattern
use Rattle.rx_pattern.specs.declared.faults.MakeFault.{MakeFault}
use Rattle.rx_pattern.specs.declared.faults.MakeFault.TheVariants as make

-- pattern_fault e: the error of a match
abbrev pub pattern_fault : BankFault → PatternFault
pattern_fault bank.Memory = pattern.Memory
pattern_fault bank.Full = pattern.Full

-- make_fault e: the error of making a term
abbrev pub make_fault : BankFault → MakeFault
make_fault bank.Memory = make.Memory
make_fault bank.Full = make.Full

-- IsMatchRefusal w e: a match fails only with Memory, or with Full if the store is full
abbrev pub IsMatchRefusal : Store → PatternFault → Type 0
IsMatchRefusal w pattern.Unknown = ⊥
IsMatchRefusal w pattern.Annotated = ⊥
IsMatchRefusal w pattern.Memory = Unit {0}
IsMatchRefusal w pattern.Full = cells w ≡ w.cap

-- IsOfTerms e: the terms do not fit the placeholders
abbrev pub IsOfTerms : MakeFault → Type 0
IsOfTerms make.Count = Unit {0}
IsOfTerms (make.Kind at) = Unit {0}
IsOfTerms make.Memory = ⊥
IsOfTerms make.Full = ⊥

-- IsMakeRefusal w e: if the terms fit, making fails only with Memory, or with Full if the store is
-- full
abbrev pub IsMakeRefusal : Store → MakeFault → Type 0
IsMakeRefusal w make.Count = ⊥
IsMakeRefusal w (make.Kind at) = ⊥
IsMakeRefusal w make.Memory = Unit {0}
IsMakeRefusal w make.Full = cells w ≡ w.cap

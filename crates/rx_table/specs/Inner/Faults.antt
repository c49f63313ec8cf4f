-- How tables report the errors of a store and of a text.
use Rattle.std.specs.Prelude.{◌≡◌}
use Rattle.rx_term.specs.Store.{Store, cells}
use Rattle.rx_term.specs.declared.faults.BankFault.{BankFault}
use Rattle.rx_term.specs.declared.faults.BankFault.TheVariants as bank
use Rattle.rx_text.specs.declared.faults.TextFault.{TextFault}
use Rattle.rx_text.specs.declared.faults.TextFault.TheVariants as text
use Rattle.rx_table.specs.declared.faults.TableFault.{TableFault}
use Rattle.rx_table.specs.declared.faults.TableFault.TheVariants.{Long, Grammar, NotTable, Element}
use Rattle.rx_table.specs.declared.faults.TableFault.TheVariants.{Memory, Full}

-- table_fault fault: the error of a table for an error of a store
abbrev pub table_fault : BankFault → TableFault
table_fault bank.Memory = Memory
table_fault bank.Full = Full

-- fault_of_text fault: the error of a table for an error of its text
abbrev pub fault_of_text : TextFault → TableFault
fault_of_text text.Long = Long
fault_of_text (text.Grammar at) = Grammar at
fault_of_text text.Memory = Memory
fault_of_text text.Full = Full

-- IsRefusal w fault: the error is out of memory or a full store, which has as many cells as its
-- limit
abbrev pub IsRefusal : Store → TableFault → Type 0
IsRefusal w Long = ⊥
IsRefusal w (Grammar at) = ⊥
IsRefusal w NotTable = ⊥
IsRefusal w (Element n) = ⊥
IsRefusal w Memory = Unit {0}
IsRefusal w Full = cells w ≡ w.cap

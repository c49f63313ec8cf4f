-- How the parser reports the errors of a store.
use Rattle.rx_term.specs.declared.faults.BankFault.{BankFault}
use Rattle.rx_term.specs.declared.faults.BankFault.TheVariants as bank
use Rattle.rx_text.specs.declared.faults.TextFault.{TextFault}
use Rattle.rx_text.specs.declared.faults.TextFault.TheVariants.{Long, Grammar, Memory, Full}

-- text_fault fault: the error of a text for an error of a store
abbrev pub text_fault : BankFault → TextFault
text_fault bank.Memory = Memory
text_fault bank.Full = Full

-- IsOfText fault: the text itself causes the error: it is too long, or has a syntax error
abbrev pub IsOfText : TextFault → Type 0
IsOfText Long = Unit {0}
IsOfText (Grammar at) = Unit {0}
IsOfText Memory = ⊥
IsOfText Full = ⊥

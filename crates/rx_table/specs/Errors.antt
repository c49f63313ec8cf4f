-- Which errors come from the text of a table, and from opening it.
use Rattle.rx_table.specs.declared.faults.TableFault.{TableFault}
use Rattle.rx_table.specs.declared.faults.TableFault.TheVariants.{Long, Grammar, NotTable, Element}
use Rattle.rx_table.specs.declared.faults.TableFault.TheVariants.{Memory, Full}

-- IsOfOpening fault: opening a table can report this error
abbrev pub IsOfOpening : TableFault → Type 0
IsOfOpening Long = ⊥
IsOfOpening (Grammar at) = ⊥
IsOfOpening NotTable = Unit {0}
IsOfOpening (Element n) = Unit {0}
IsOfOpening Memory = Unit {0}
IsOfOpening Full = Unit {0}

-- IsOfText fault: the text itself causes the error: it is too long, or has a syntax error
abbrev pub IsOfText : TableFault → Type 0
IsOfText Long = Unit {0}
IsOfText (Grammar at) = Unit {0}
IsOfText fault = ⊥

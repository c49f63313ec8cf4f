use Rattle.std.proofs.Common.{take, map}
use Rattle.rec_syntax.specs.Parts.{declaration_of}
use Rattle.rec_sorts.specs.Names.{given_to}
use Rattle.rec_sorts.specs.Declaring.{Adds, added_by_symbols}
use Rattle.rec_sorts.proofs.declarations.Declared.symbols.Given as goal

abbrev pub invariant-loop-declaration : goal.invariant-loop-declaration
invariant-loop-declaration l =
    Adds l.sorts.source.now (given_to l.sorts.names) l.initial.self l.self
    (added_by_symbols (given_to l.sorts.names) (map (declaration_of l.sorts.source.now) (take l.declaration-index l.declarations)))

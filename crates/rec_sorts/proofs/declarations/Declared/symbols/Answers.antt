use Rattle.std.proofs.Common.{arith}
use Rattle.rec_syntax.specs.Parts.{declaration_of}
use Rattle.rec_sorts.specs.Names.{given_to}
use Rattle.rec_sorts.specs.Declaring.{added_by_symbol}
use Rattle.rec_sorts.proofs.AdditionLemmas.{added_turn}
use Rattle.rec_sorts.proofs.declarations.Declared.symbols.Goals as goal

pub loop-declaration-preserved : goal.loop-declaration-preserved
loop-declaration-preserved c =
    let source = c.args.sorts.now.source.now in
    let numbers = given_to c.args.sorts.now.names in
    added_turn (added_by_symbol numbers) (declaration_of source) source numbers c.args.self.now c.loop-declaration.self c.symbol.new.self
    c.args.declarations.now c.loop-declaration.declaration-index c.declaration-item.result (omega arith)
    c.declaration-item.is c.loop-declaration.invariant c.in_ok-symbol.ensures

use Rattle.std.proofs.Common.{arith}
use Rattle.rec_sorts.specs.Names.{given_to}
use Rattle.rec_sorts.proofs.DeclaringLemmas.{declared-read, symbols_of, groups_of}
use Rattle.rec_sorts.proofs.symbols.read_declared.Goals as goal

pub returns : goal.returns
returns c =
    let source = c.args.syntax.now.source in
    let copy = c.args.sorts.now.source.now in
    let numbers = given_to c.args.sorts.now.names in
    let d₀ = c.new-declared.result in
    declared-read c.args.syntax.now.spec source numbers d₀ c.symbols.new.self c.symbols-2.new.self c.groups-2.new.self c.len-symbols.result
    (omega (arith, c.symbols-2.new.self.words.ok.0)) c.requires.names c.new-declared.ensures.words c.new-declared.ensures.sorts
    c.new-declared.ensures.arguments c.new-declared.ensures.unknown
    (symbols_of source copy numbers d₀ c.symbols.new.self c.constructors.result.now _ c.requires.source c.constructors.ensures.constructors
    c.in_ok-symbols.ensures)
    (symbols_of source copy numbers c.symbols.new.self c.symbols-2.new.self c.operators.result.now _ c.requires.source c.operators.ensures.operators
    c.in_ok-symbols-2.ensures)
    (groups_of source copy numbers c.symbols-2.new.self c.groups-2.new.self c.groups.result.now _ c.requires.source c.groups.ensures.groups
    c.in_ok-groups.ensures)

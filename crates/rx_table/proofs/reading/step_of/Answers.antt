use Rattle.std.proofs.Common.{drop, rules}
use Rattle.rx_table.specs.Inner.Reading.{StartsHole}
use Rattle.rx_table.proofs.ReadingLemmas.{number-step}
use Rattle.rx_table.proofs.reading.step_of.Goals as goal

pub returns-in-Integer : goal.returns-in-Integer
returns-in-Integer c =
    let hole : StartsHole (drop 1 c.args.nodes.now) = search rules in
    number-step c.requires.names.0 c.args.nodes.now _ c.in-Integer.number c.requires.some c.requires.names.1 c.in-Integer.is hole

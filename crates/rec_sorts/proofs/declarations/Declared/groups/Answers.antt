use Rattle.std.proofs.Common.{arith}
use Rattle.rec_syntax.specs.Parts.{group_of}
use Rattle.rec_sorts.specs.Names.{given_to}
use Rattle.rec_sorts.specs.Declaring.{added_by_group}
use Rattle.rec_sorts.proofs.AdditionLemmas.{added_turn}
use Rattle.rec_sorts.proofs.declarations.Declared.groups.Goals as goal

pub loop-group-preserved : goal.loop-group-preserved
loop-group-preserved c =
    let source = c.args.sorts.now.source.now in
    let numbers = given_to c.args.sorts.now.names in
    added_turn (added_by_group numbers) (group_of source) source numbers c.args.self.now c.loop-group.self c.group.new.self c.args.groups.now
    c.loop-group.group-index c.group-item.result (omega arith)
    c.group-item.is c.loop-group.invariant c.in_ok-group.ensures

use Rattle.std.proofs.Common.{◌≡◌, length, min, rules}
use Rattle.std.proofs.lemmas.Slice.Zip.{zip_end}
use Rattle.rec_sorts.proofs.TurnLemmas.{misplaced_end}
use Rattle.rec_sorts.proofs.scope.Scope.misplaced_place.Goals as goal

pub returns : goal.returns
returns c =
    let done : length c.loop-argument.yielded ≡ min (length c.args.arguments.now) (length c.args.sorts.now) =
    zip_end c.args.arguments.now c.args.sorts.now c.loop-argument.yielded c.into_iter-argument-iterator.result c.loop-argument.argument-iterator
    c.next.new.self c.next.result (search rules) (search rules) c.loop-argument.yielded_by c.in-None.is c.next.ensures.steps in
    misplaced_end c.args.self.now c.args.arguments.now c.args.sorts.now _ c.loop-argument.least _ done c.loop-argument.invariant

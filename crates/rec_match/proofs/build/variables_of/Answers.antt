use Rattle.std.proofs.Common.{refl, length}
use Rattle.rec_match.proofs.OrderLemmas.{clearable}
use Rattle.rec_match.proofs.build.variables_of.Goals as goal

pub clear-requires-clause-places : goal.clear-requires-clause-places
clear-requires-clause-places c =
    let ps = c.push_variables.new.places.of.items in
    clearable c.push_variables.new.variables.items c.deref.result.now (length c.args.places.now.of.items) ps ps c.deref.ensures.value
    c.in_ok-push_variables.ensures.places (record { counted = refl; none = λ v e. e })

use Rattle.std.proofs.Common.{ap}
use Rattle.rx_arena.specs.Put.{times, times_in}
use Rattle.test_store.proofs.arena.give_back.Goals as goal

pub give_back-requires-clause-loose : goal.give_back-requires-clause-loose
give_back-requires-clause-loose g c = ap (times_in c.args.slot.0) c.requires.chains

pub give_back-requires-clause-not_gray : goal.give_back-requires-clause-not_gray
give_back-requires-clause-not_gray g c = ap (times c.args.slot.0) c.requires.no_gray

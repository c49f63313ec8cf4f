use Rattle.std.proofs.Common.{ap}
use Rattle.rx_arena.specs.Arena.{ArenaState}
use Rattle.test_store.proofs.UnrootedLemmas.{no_roots_marked}
use Rattle.test_store.proofs.arena.mark.Goals as goal

pub returns : goal.returns
returns g c = no_roots_marked c.args.arena.now c.gray_push.new.self c.args.slot.0 c.requires (ap (λ (v : ArenaState). v.cells) c.gray_push.ensures.after)

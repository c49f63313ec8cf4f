use Rattle.rx_sweep.proofs.ReadyLemmas.{rooted_ready}
use Rattle.test_store.proofs.sweep.protect.Goals as goal

pub returns : goal.returns
returns g c = rooted_ready c.args.arena.now c.set_roots.new.self c.args.slot.0 c.args.count c.set_roots.ensures.after c.requires

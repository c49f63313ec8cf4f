use Rattle.rx_sweep.proofs.ReadyLemmas.{grayed_ready}
use Rattle.test_store.proofs.sweep.make_gray.Goals as goal

pub returns : goal.returns
returns g c = grayed_ready c.args.arena.now c.gray_push.new.self c.args.slot.0 c.gray_push.ensures.after c.requires

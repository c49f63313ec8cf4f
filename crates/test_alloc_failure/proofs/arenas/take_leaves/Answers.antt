use Rattle.rx_sweep.proofs.ReadyLemmas.{rooted_ready}
use Rattle.test_alloc_failure.proofs.arenas.take_leaves.Goals as goal

pub returns : goal.returns
returns c = rooted_ready c.leaf-3.new.arena c.set_roots.new.self c.in_ok-kept.kept.0 1 c.set_roots.ensures.after c.in_ok-kept.ensures.ready

use Rattle.rx_arena.specs.Arena.{dropped_from}
use Rattle.test_store.proofs.UnrootedLemmas.{no_roots_swept}
use Rattle.test_store.proofs.arena.retain_marked.Goals as goal

pub returns-clause-no_roots : goal.returns-clause-no_roots
returns-clause-no_roots g c = no_roots_swept c.args.arena.now c.chain_retain_marked.new.self (dropped_from c.args.arena.now c.args.chain)
    c.requires.no_roots c.chain_retain_marked.ensures.cells

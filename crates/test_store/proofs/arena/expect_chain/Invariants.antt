use Rattle.std.specs.Prelude.{IfSome}
use Rattle.rx_arena.specs.Arena.{InChain}
use Rattle.test_store.proofs.arena.expect_chain.Given as goal

abbrev pub invariant-loop-slot : goal.invariant-loop-slot
invariant-loop-slot g l = IfSome l.next (λ s. InChain l.arena s.0)

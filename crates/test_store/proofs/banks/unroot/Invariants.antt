use Rattle.std.proofs.Common.{◌≡◌, ◌+◌}
use Rattle.test_store.proofs.banks.unroot.Given as goal

abbrev pub invariant-loop-i : goal.invariant-loop-i
invariant-loop-i g l = (g.B.TermBank.store l.bank).roots l.a.0 + l._i ≡ 65535

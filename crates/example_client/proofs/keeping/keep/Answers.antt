use Rattle.std.proofs.Common.{◌+◌}
use Rattle.example_client.proofs.KeptLemmas.{only_reached}
use Rattle.example_client.proofs.keeping.keep.Goals as goal

-- src/keeping.rt:13:1
pub returns-clause-only : goal.returns-clause-only
returns-clause-only g c s u h =
    only_reached (g.B.TermBank.store c.args.bank.now) (g.B.TermBank.store c.protect.new.self) (g.B.TermBank.store c.reclaim.new.self) c.args.t
    ((g.B.TermBank.store c.args.bank.now).roots c.args.t.0 + 1) c.in_ok-protect.ensures.1 c.reclaim.ensures s u (rw c.unprotect.ensures at h)

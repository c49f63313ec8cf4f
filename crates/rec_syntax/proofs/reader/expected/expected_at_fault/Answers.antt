use Rattle.std.proofs.Common.{ℕ, List, IfOk, subst}
use Rattle.rec_syntax.specs.Expected.{AreExpected}
use Rattle.rec_syntax.proofs.reader.expected.expected_at_fault.Goals as goal

pub returns : goal.returns
returns c = subst (λ (bytes : List ℕ). IfOk c.expected_in.result (λ ks. AreExpected bytes ks.items)) c.in_ok-source.ensures.items c.expected_in.ensures

use Rattle.std.proofs.Common.{ℕ, List, IfOk, Vec, Global, subst, ap}
use Rattle.rec_syntax.specs.Expected.{AreExpected}
use Rattle.rec_syntax.proofs.reader.expected.expected_in.Goals as goal

pub returns : goal.returns
returns c = subst (λ (bytes : List ℕ). IfOk c.expected_in_text.result (λ ks. AreExpected bytes ks.items))
    (ap (λ (v : Vec ℕ Global). v.items) c.new.ensures.source) c.expected_in_text.ensures

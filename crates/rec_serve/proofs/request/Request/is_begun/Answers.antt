use Rattle.std.proofs.Common.{arith}
use Rattle.std.proofs.lemmas.Bool.{ltb-false}
use Rattle.rec_serve.proofs.KeptLemmas.{empty_request}
use Rattle.rec_serve.proofs.request.Request.is_begun.Goals as goal

pub returns-clause-none : goal.returns-clause-none
returns-clause-none c = λ none line is.
    let few = ltb-false 0 c.len.result none in
    let size = c.len.ensures in
    empty_request c.args.self.now line c.if-self.false (omega (arith, few, size)) is

use Rattle.std.proofs.Common.{arith}
use Rattle.std.specs.Prelude.{Vec}
use Rattle.std.specs.declared.alloc.Global.{Global}
use Rattle.rec_sorts.specs.declared.letters.Letter.{Letter}
use Rattle.rec_engine.proofs.EngineLemmas.{rows-long}
use Rattle.rec_engine.proofs.engine.parts.Parts.find.Goals as goal

pub returns-in-Ok-first_state-clause-terms : goal.returns-in-Ok-first_state-clause-terms
returns-in-Ok-first_state-clause-terms g c =
    let long = rows-long (λ (v : Vec Letter Global). v.items) c.args.checked.now.spec c.terms.result.now c.terms.ensures.letters in
    omega (arith, long, c.in-Ok.ensures)

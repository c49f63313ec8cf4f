use Rattle.std.proofs.Common.{arith}
use Rattle.rec_check.proofs.SizeLemmas.{last_size, no_size}
use Rattle.rec_check.proofs.matching.Terms.before_last.Goals as goal

pub returns-in-Some-clause-split : goal.returns-in-Some-clause-split
returns-in-Some-clause-split c = λ y ms t e.
    let is = last_size c.args.self.letters.now c.args.self.sizes.now c.in-Some._others.now c.in-Some.size.now c.requires c.in-Some.ensures.cases.0 y ms t e in
    let sub = c.saturating_sub.ensures in
    omega (arith, is, sub)

pub returns-in-None-clause-split : goal.returns-in-None-clause-split
returns-in-None-clause-split c = λ y ms t e. absurd (no_size c.args.self.letters.now c.args.self.sizes.now c.requires c.in-None.ensures.cases y ms t e)

use Rattle.std.proofs.Common.{drop, subst, sym, take}
use Rattle.rec_check.specs.Inner.Trials.{AreSizes}
use Rattle.rec_check.proofs.SizeLemmas.{sizes_back, sizes_front}
use Rattle.rec_check.proofs.matching.Terms.split_at.Goals as goal

pub returns-clause-front_sizes : goal.returns-clause-front_sizes
returns-clause-front_sizes c =
    subst (λ ls. AreSizes ls c.split_at-2.result.0.now) (sym c.split_at.ensures.front)
    (subst (AreSizes (take c.args.at c.args.self.letters.now)) (sym c.split_at-2.ensures.front)
    (sizes_front c.args.self.letters.now c.args.self.sizes.now c.args.at c.requires.sizes))

pub returns-clause-back_sizes : goal.returns-clause-back_sizes
returns-clause-back_sizes c =
    subst (λ ls. AreSizes ls c.split_at-2.result.1.now) (sym c.split_at.ensures.back)
    (subst (AreSizes (drop c.args.at c.args.self.letters.now)) (sym c.split_at-2.ensures.back)
    (sizes_back c.args.self.letters.now c.args.self.sizes.now c.args.at c.requires.sizes))

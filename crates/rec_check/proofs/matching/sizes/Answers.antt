use Rattle.std.proofs.Common.{arith}
use Rattle.rec_check.proofs.SizeLemmas.{sizes_more}
use Rattle.rec_check.proofs.matching.sizes.Goals as goal

pub loop-i-preserved : goal.loop-i-preserved
loop-i-preserved c =
    let test = c.loop-i-test.true in
    sizes_more c.args.letters.now c.loop-i.sizes.items c.push.new.self.items c.loop-i.i c.size_of_last-size.result (omega (arith, test))
    c.loop-i.invariant c.in_ok-push.ensures.items c.size_of_last-size.ensures

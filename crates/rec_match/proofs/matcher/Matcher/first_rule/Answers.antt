use Rattle.std.proofs.Common.{arith, ◌∙◌, ◌<◌, length}
use Rattle.rec_match.proofs.NextLemmas.{nearing-first, nearing-next}
use Rattle.rec_match.proofs.matcher.Matcher.first_rule.Goals as goal

pub loop-at-init : goal.loop-at-init
loop-at-init c = nearing-first c.args.self.now c.args.symbol c.args.from _ _ c.index-at.ensures

pub loop-at-preserved : goal.loop-at-preserved
loop-at-preserved c =
    let t = c.loop-at-test.true in
    let lt : c.loop-at.at < length c.args.self.now.sides.items =
    (let l = c.len.ensures ∙ c.args.self.now.sides.ok.0 in let i = c.if-at-len.true in omega (arith, l, i)) in
    nearing-next c.args.self.now c.args.symbol c.args.from c.loop-at.at c.index.result.now (omega (arith, t)) lt c.index.ensures c.loop-at.invariant

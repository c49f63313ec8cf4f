use Rattle.std.proofs.Common.{rules}
use Rattle.test_rec.proofs.FindingLemmas.{can_find}
use Rattle.test_rec.proofs.finding.count_of.Goals as goal

pub returns : goal.returns
returns g c w work ready le = can_find w c.args.matcher.now c.args.rule c.args.symbol work c.index-side.result.now
    ready (search rules) c.index-side.ensures (search rules) le

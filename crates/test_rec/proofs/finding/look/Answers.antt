use Rattle.std.proofs.Common.{subst, sym}
use Rattle.std.specs.Prelude.{IfOk}
use Rattle.rec_match.specs.Matching.{Glances, LeavesOthers}
use Rattle.test_rec.proofs.finding.look.Goals as goal

pub find_others-requires-clause-none : goal.find_others-requires-clause-none
find_others-requires-clause-none g c =
    let w = g.B.TermBank.store c.args.bank.now in
    let glances = Glances w c.args.matcher.now c.args.row.now.0 c.count_of-count.result c.args.work.items c.glance.new.work.items in
    let left = subst glances c.in-Left.is (subst (λ r. IfOk r glances) c.expect.ensures c.glance.ensures.glances) in
    subst (LeavesOthers w c.args.matcher.now c.args.row.now.0 c.count_of-count.result c.in-Left.passed) (sym left.1) left.0

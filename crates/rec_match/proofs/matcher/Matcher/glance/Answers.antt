use Rattle.std.proofs.Common.{ap, drop, ◌-◌, arith}
use Rattle.rec_match.specs.Matching.{first_rule}
use Rattle.rec_match.proofs.HitLemmas.{glance-finds}
use Rattle.rec_match.proofs.TreeAnswerLemmas.{can-run}
use Rattle.rec_match.proofs.matcher.Matcher.glance.Goals as goal

pub overflow_sub-first : goal.overflow_sub-first
overflow_sub-first g c = let long = c.requires.can.long in let size = c.requires.size in omega (arith, long, size)

pub glance-requires-clause-can : goal.glance-requires-clause-can
glance-requires-clause-can g c =
    let m = c.args.self.now in
    let work = c.args.work.now.items in
    can-run (g.B.TermBank.store c.args.bank.now) m c.args.symbol c.args.count (first_rule m c.args.symbol) work
    (drop (c.args.size - c.args.count) work) c.requires.can (ap (λ n. drop (n - c.args.count) work) c.requires.size)

pub returns-clause-glances : goal.returns-clause-glances
returns-clause-glances g c = glance-finds (g.B.TermBank.store c.args.bank.now) c.args.self.now c.args.symbol c.args.count c.args.work.now.items
    c.glance.new.work.items (c.args.size - c.args.count) c.glance.result c.requires.can (ap (λ n. n - c.args.count) c.requires.size)
    c.glance.ensures.glances

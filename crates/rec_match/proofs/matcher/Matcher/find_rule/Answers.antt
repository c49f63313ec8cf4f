use Rattle.std.proofs.Common.{ap, ◌∙◌, ◌-◌, drop}
use Rattle.rec_match.proofs.HitLemmas.{run-finds}
use Rattle.rec_match.proofs.TreeAnswerLemmas.{can-run}
use Rattle.rec_match.proofs.matcher.Matcher.find_rule.Goals as goal

pub run-requires-clause-can : goal.run-requires-clause-can
run-requires-clause-can g c =
    let w = g.B.TermBank.store c.args.bank.now in
    let m = c.args.self.now in
    let work = c.args.work.now.items in
    let size = c.len.ensures ∙ c.args.work.now.ok.0 in
    can-run w m c.args.symbol c.args.count c.args.at work (drop (c.len.result - c.args.count) work) c.requires.can (ap (λ n. drop (n - c.args.count) work) size)

pub returns-clause-finds : goal.returns-clause-finds
returns-clause-finds g c =
    let w = g.B.TermBank.store c.args.bank.now in
    let m = c.args.self.now in
    let work = c.args.work.now.items in
    let size = c.len.ensures ∙ c.args.work.now.ok.0 in
    run-finds w m c.args.symbol c.args.count work c.run.new.work.items (c.len.result - c.args.count) c.run.result c.args.at c.requires.can
    (ap (λ n. n - c.args.count) size) c.run.ensures.runs c.run.ensures.same

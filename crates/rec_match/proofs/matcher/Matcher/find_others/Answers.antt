use Rattle.std.proofs.Common.{ap, subst, sym, ◌∙◌, ◌-◌, drop}
use Rattle.rec_match.specs.Forests.{NoneBefore}
use Rattle.rec_match.specs.Matching.{first_rule}
use Rattle.rec_match.proofs.HitLemmas.{all-finds}
use Rattle.rec_match.proofs.TreeAnswerLemmas.{can-run}
use Rattle.rec_match.proofs.matcher.Matcher.find_others.Goals as goal

pub run_behind-requires-clause-can : goal.run_behind-requires-clause-can
run_behind-requires-clause-can g c =
    let m = c.args.self.now in
    let work = c.args.work.now.items in
    let size = c.len.ensures ∙ c.args.work.now.ok.0 in
    can-run (g.B.TermBank.store c.args.bank.now) m c.args.symbol c.args.count (first_rule m c.args.symbol) work
    (drop (c.len.result - c.args.count) work) c.requires.can (ap (λ n. drop (n - c.args.count) work) size)

pub run_behind-requires-clause-none : goal.run_behind-requires-clause-none
run_behind-requires-clause-none g c =
    let m = c.args.self.now in
    let work = c.args.work.now.items in
    let size = c.len.ensures ∙ c.args.work.now.ok.0 in
    subst (λ n. NoneBefore (g.B.TermBank.store c.args.bank.now) m.forest c.args.symbol 0 (drop (n - c.args.count) work) c.args.passed)
    (sym size) c.requires.none

pub returns-clause-finds : goal.returns-clause-finds
returns-clause-finds g c =
    let m = c.args.self.now in
    let work = c.args.work.now.items in
    let size = c.len.ensures ∙ c.args.work.now.ok.0 in
    all-finds (g.B.TermBank.store c.args.bank.now) m c.args.symbol c.args.count work c.run_behind.new.work.items (c.len.result - c.args.count)
    c.run_behind.result c.requires.can (ap (λ n. n - c.args.count) size) c.run_behind.ensures.runs c.run_behind.ensures.same

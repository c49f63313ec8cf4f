use Rattle.std.proofs.Common.{rules, subst, ◌<◌, length}
use Rattle.std.specs.Prelude.{IfSome}
use Rattle.rec_check.proofs.RewritingLemmas.{pushed_found}
use Rattle.rec_check.proofs.rewriting.Rewriter.push.Goals as goal

pub returns-in_ok-push : goal.returns-in_ok-push
returns-in_ok-push c = λ o first.
    let s = c.args.self.now in
    pushed_found s.checked.now.source s.checked.now.spec c.args.kind c.args.word c.args.rule c.in-Some.rule s.spots.items c.index.result.now o
    _ c.in_ok-shown.shown c.args.found.now.items c.push.new.self.items c.in-Some.is
    (subst (λ r. IfSome r (λ i. i < length s.checked.now.spec.rules)) c.in-Some.is c.requires.within) c.requires.rules.spots_are c.index.ensures first (search rules) c.in_ok-shown.ensures
    c.in_ok-push.ensures.items

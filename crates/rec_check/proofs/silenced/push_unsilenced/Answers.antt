use Rattle.std.proofs.Common.{◌∙◌}
use Rattle.rec_check.specs.Findings.{as_diagnostic}
use Rattle.rec_check.proofs.SilencedLemmas.{kept_own, left_out, silenced-known}
use Rattle.rec_check.proofs.silenced.push_unsilenced.Goals as goal

pub returns-in_ok-push : goal.returns-in_ok-push
returns-in_ok-push c =
    kept_own c.args.text.now c.args.kept.now.items c.push.new.self.items c.args.warning c.has.result
    (silenced-known c.args.names.now c.args.text.now (as_diagnostic c.args.warning) c.deref.result.now c.has.result c.requires c.has.ensures
    (c.deref.ensures.value ∙ c.in_ok-comment.ensures))
    c.if-not-has.true c.in_ok-push.ensures.items

pub returns-else-not-has : goal.returns-else-not-has
returns-else-not-has c =
    left_out c.args.text.now c.args.kept.now.items c.args.warning c.has.result
    (silenced-known c.args.names.now c.args.text.now (as_diagnostic c.args.warning) c.deref.result.now c.has.result c.requires c.has.ensures
    (c.deref.ensures.value ∙ c.in_ok-comment.ensures))
    c.if-not-has.false

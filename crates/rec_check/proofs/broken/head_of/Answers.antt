use Rattle.std.proofs.Common.{sym, ap, ◌∙◌}
use Rattle.std.specs.Option.{option_copied}
use Rattle.rec_check.proofs.NodeLemmas.{head_is}
use Rattle.rec_check.proofs.broken.head_of.Goals as goal

pub returns : goal.returns
returns c =
    c.word_at.ensures
    ∙ head_is c.args.syntax.now.source c.args.term.now c.requires c.nodes.result.now c.nodes.ensures c.in-Some.node.now
    (sym c.last.ensures.value ∙ ap option_copied c.in-Some.is)

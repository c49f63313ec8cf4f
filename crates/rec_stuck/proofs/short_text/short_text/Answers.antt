use Rattle.std.proofs.Common.{◌∙◌}
use Rattle.rx_term.specs.Walks.{held_tree}
use Rattle.rec_stuck.specs.Stuck.{bare_of}
use Rattle.rec_stuck.proofs.TextLemmas.{cut-begins}
use Rattle.rec_stuck.proofs.short_text.short_text.Goals as goal

pub returns : goal.returns
returns g c =
    c.in_ok-cut_long.ensures ∙ cut-begins (bare_of (held_tree (g.B.TermBank.store c.args.bank.now) c.args.t)) c.in_ok-text.text.items c.in_ok-text.ensures

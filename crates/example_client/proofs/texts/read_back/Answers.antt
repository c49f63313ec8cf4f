use Rattle.std.proofs.Common.{◌∙◌}
use Rattle.rx_term.specs.Store.{tree_at}
use Rattle.rx_term.proofs.StoreLemmas.{some-value}
use Rattle.example_client.proofs.SameLemmas.{same_reference}
use Rattle.example_client.proofs.texts.read_back.Goals as goal

-- src/texts.rt:51:1
pub returns-clause-same : goal.returns-clause-same
returns-clause-same g c =
    let old = g.B.TermBank.store c.args.bank.now in
    let new = g.B.TermBank.store c.read.new.bank in
    let v = some-value (tree_at old c.args.t) c.requires in
    let read = c.in_ok-again.ensures.spelt in
    same_reference old new c.args.t c.in_ok-again.again c.as_slice.result.now v.0 read.0 (g.met.B.TermBank.sound c.args.bank.now)
    (g.met.B.TermBank.sound c.read.new.bank) c.in_ok-again.ensures.grows c.printed_text.ensures.spells c.printed_text.ensures.one v.1
    (c.as_slice.ensures.value ∙ c.in_ok-text.ensures v.0 v.1) read.1 read.2.1

use Rattle.std.proofs.Common.{◌∙◌, sym}
use Rattle.rx_text.proofs.ExpectingLemmas.{item_ends}
use Rattle.rx_text.proofs.reader.expected.is_after_item.Goals as goal

pub returns-in_default-kind : goal.returns-in_default-kind
returns-in_default-kind c = λ bytes u n made fs. c.closes.ensures bytes n made fs
    ∙ sym (item_ends bytes c.args.opening u n made fs c.args.kind c.in_default.not-Placeholder c.in_default-kind.not-Comma)

use Rattle.std.proofs.Common.{◌∙◌, ◌∷◌, sym}
use Rattle.rx_text.specs.Reader.{frame_of}
use Rattle.rx_text.proofs.ExpectingLemmas.{item_begins}
use Rattle.rx_text.proofs.reader.expected.is_first.Goals as goal

pub returns-in_default : goal.returns-in_default
returns-in_default c =
    λ bytes n made fs.
    let f = frame_of bytes c.args.opening n made in
    c.begins_term.ensures (f ∷ fs) ∙ sym (item_begins f fs c.args.kind c.in_default.not-Close c.in_default.not-CloseBracket c.in_default.not-CloseBrace)

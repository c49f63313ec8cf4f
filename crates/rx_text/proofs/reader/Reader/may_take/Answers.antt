use Rattle.std.proofs.Common.{◌∙◌, sym, reverse}
use Rattle.rx_text.specs.Lexemes.{token_of}
use Rattle.rx_text.specs.Reader.{due_of, frames_of, owned}
use Rattle.rx_text.proofs.ExpectingLemmas.{by_kind}
use Rattle.rx_text.proofs.reader.Reader.may_take.Goals as goal

pub returns-in-Some : goal.returns-in-Some
returns-in-Some c =
    let r = c.args.self.now in
    let bytes = r.bytes.now in
    λ made. c.is_expected.ensures made
    ∙ sym (by_kind (due_of bytes c.args.due made) (frames_of bytes (reverse r.frames.items) (owned c.args.due made)) c.in-Some.kind
    (token_of bytes c.args.token) (c.in-Some.ensures bytes))

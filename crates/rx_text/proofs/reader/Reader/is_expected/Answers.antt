use Rattle.std.proofs.Common.{◌∙◌, reverse, sym}
use Rattle.rx_term.specs.Tree.{none, Appl, annotated}
use Rattle.rx_text.specs.Lexemes.{name_of}
use Rattle.rx_text.specs.Nodes.{top, rest}
use Rattle.rx_text.specs.Reader.{frames_of}
use Rattle.rx_text.proofs.ExpectingLemmas.{name_ends, body_ends}
use Rattle.rx_text.proofs.reader.Reader.is_expected.Goals as goal

pub returns-in_default : goal.returns-in_default
returns-in_default c =
    λ made.
    let r = c.args.self.now in
    let w = c.in-Named.field-0 in
    let name = name_of r.bytes.now w in
    rw c.in-Named.is (
    c.is_after_whole.ensures (annotated (Appl name w.quoted none none) none) made
    ∙ sym (name_ends name w.quoted (frames_of r.bytes.now (reverse r.frames.items) made) c.args.kind c.in_default.not-Open c.in_default.not-OpenBrace)
    )

pub returns-in_default-kind : goal.returns-in_default-kind
returns-in_default-kind c =
    λ made.
    let r = c.args.self.now in
    rw c.in-Body.is (
    c.is_after_whole-in_default-kind.ensures (annotated (top made) none) (rest made)
    ∙ sym (body_ends (top made) (frames_of r.bytes.now (reverse r.frames.items) (rest made)) c.args.kind c.in_default-kind.not-OpenBrace)
    )

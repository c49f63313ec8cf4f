use Rattle.std.proofs.Common.{◌∙◌, sym}
use Rattle.rec_syntax.specs.Lexemes.{token_of}
use Rattle.rec_syntax.specs.Inner.Reader.{due_of}
use Rattle.rec_syntax.proofs.ExpectingLemmas.{by_kind}
use Rattle.rec_syntax.proofs.reader.Reader.may_take.Goals as goal

pub returns-in-Some : goal.returns-in-Some
returns-in-Some c =
    let r = c.args.self.now in
    let bytes = r.source.items in
    λ y. c.is_expected.ensures y ∙ sym (by_kind (due_of bytes c.args.due r) y c.in-Some.kind (token_of bytes c.args.token) (c.in-Some.ensures bytes))

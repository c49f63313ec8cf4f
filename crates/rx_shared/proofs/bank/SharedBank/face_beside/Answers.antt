use Rattle.std.proofs.Common.{◌≡◌, subst}
use Rattle.std.specs.Prelude.{IfSome}
use Rattle.rx_arena.specs.Faces.{word_of}
use Rattle.rx_shared.proofs.ReadingLemmas.{held-taken, faces-held}
use Rattle.rx_shared.proofs.bank.SharedBank.face_beside.Goals as goal

pub word-requires : goal.word-requires
word-requires c = held-taken c.args.self.now c.args.t.0 c.requires

pub returns : goal.returns
returns c =
    let t = held-taken c.args.self.now c.args.t.0 c.requires in
    let is : c.word.result ≡ word_of t.0.body = subst (λ o. IfSome o (λ u. c.word.result ≡ word_of u.body)) t.1 c.word.ensures in
    faces-held c.args.self.now c.args.t.0 t.0 t.1 c.said.result (c.said.ensures.some t.0.body is)

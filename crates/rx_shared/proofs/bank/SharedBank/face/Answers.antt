use Rattle.std.proofs.Common.{◌≡◌, subst}
use Rattle.std.specs.Prelude.{IfSome}
use Rattle.rx_arena.specs.Faces.{face_of}
use Rattle.rx_shared.proofs.ReadingLemmas.{held-taken, face-held}
use Rattle.rx_shared.proofs.bank.SharedBank.face.Goals as goal

pub face-requires : goal.face-requires
face-requires c = held-taken c.args.self.now c.args.t.0 c.requires

pub returns : goal.returns
returns c =
    let t = held-taken c.args.self.now c.args.t.0 c.requires in
    let read : c.face.result ≡ face_of t.0.body = subst (λ o. IfSome o (λ u. c.face.result ≡ face_of u.body)) t.1 c.face.ensures in
    face-held c.args.self.now c.args.t.0 t.0 c.face.result t.1 read

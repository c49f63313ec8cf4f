use Rattle.std.proofs.Common.{◌≡◌, ◌-◌, length, min, arith}
use Rattle.rec_serve.proofs.KeptLemmas.{lost_more, none_more, read_more}
use Rattle.rec_serve.proofs.request.Request.keep.Goals as goal

pub returns-then-self : goal.returns-then-self
returns-then-self c = λ line is. lost_more c.args.self.now line c.args.piece.now c.if-self.true is

pub returns-then-piece-eq0 : goal.returns-then-piece-eq0
returns-then-piece-eq0 c = λ line is. none_more c.args.self.now line c.args.piece.now c.if-piece-eq0.true is

pub returns-in-Ok : goal.returns-in-Ok
returns-in-Ok c = λ line is.
    let text = c.args.self.now.text in
    let room = c.min-room.ensures in
    let size = c.len.ensures in
    let own = text.ok.0 in
    let few : c.min-room.result ≡ min (16777217 - length text.items) (length c.args.piece.now) = omega (arith, room, size, own) in
    read_more c.args.self.now.is_lost c.min-room.result text.items c.extend_from_slice.new.self.items line c.args.piece.now c.if-self.false is few
    c.in-Ok.ensures.items

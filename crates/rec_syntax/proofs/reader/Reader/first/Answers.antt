use Rattle.std.proofs.Common.{refl}
use Rattle.rec_syntax.proofs.TermStackLemmas.{leaf}
use Rattle.rec_syntax.proofs.reader.Reader.first.Goals as goal

pub returns-in_ok-push-in-Close-clause-moves : goal.returns-in_ok-push-in-Close-clause-moves
returns-in_ok-push-in-Close-clause-moves c =
    let r = c.args.self.now in
    let h = c.requires.state in
    let one = leaf r.source.items c.args.word r.calls.items r.nodes.items c.push-in-Close.new.self.items c.in_ok-push-in-Close.ensures.items h.due.0
    h.due.1.stack in
    rw (c.in-Close.is) (rw (one.0) refl, record { sections = h.sections; due = record { role = h.due.1.role; stack = one.1 } })

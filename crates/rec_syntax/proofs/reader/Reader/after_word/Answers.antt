use Rattle.rec_syntax.specs.Parts.{spec_of}
use Rattle.rec_syntax.specs.Inner.Reader.{role_of}
use Rattle.rec_syntax.proofs.TermStackLemmas.{leaf}
use Rattle.rec_syntax.proofs.ReadingLemmas.{called_moves}
use Rattle.rec_syntax.proofs.reader.Reader.after_word.Goals as goal

pub after-requires : goal.after-requires
after-requires c =
    let r = c.args.self.now in
    let h = c.requires.state in
    let one = leaf r.source.items c.args.word r.calls.items r.nodes.items c.push.new.self.items c.in_ok-push-in_default.ensures.items h.due.0 h.due.1.stack in
    record { state = record { sections = h.sections; due = record { role = h.due.1.role; stack = one.1 } }; token = c.requires.token }

pub returns-in_ok-push-in_default : goal.returns-in_ok-push-in_default
returns-in_ok-push-in_default c =
    let r = c.args.self.now in
    let bytes = r.source.items in
    let h = c.requires.state in
    let one = leaf bytes c.args.word r.calls.items r.nodes.items c.push.new.self.items c.in_ok-push-in_default.ensures.items h.due.0 h.due.1.stack in
    record {
      moves = called_moves bytes (role_of bytes r.role) (spec_of bytes r.sections) c.args.word c.args.token r.calls.items r.nodes.items
          c.push.new.self.items c.after.result c.after.new.self c.in_default.not-Open one.0 c.after.ensures.moves;
      same = c.after.ensures.same;
    }

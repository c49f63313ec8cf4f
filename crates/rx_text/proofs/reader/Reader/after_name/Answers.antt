use Rattle.std.proofs.Common.{rules, reverse}
use Rattle.rx_text.specs.Lexemes.{name_of}
use Rattle.rx_text.specs.Reader.{made_of, frames_of}
use Rattle.rx_text.proofs.SteppingLemmas.{leaf, name_is_body}
use Rattle.rx_text.proofs.reader.Reader.after_name.Goals as goal

pub body-requires : goal.body-requires
body-requires c =
    let r = c.args.self.now in
    let l = leaf r.bytes.now c.args.word r.frames.items r.nodes.items c.push.new.self.items c.in_ok-push-in_default.ensures.items c.requires.state in
    record { state = l.1; token = c.requires.token; few = search rules }

pub returns-in_ok-push-in_default : goal.returns-in_ok-push-in_default
returns-in_ok-push-in_default c =
    let r = c.args.self.now in
    let l = leaf r.bytes.now c.args.word r.frames.items r.nodes.items c.push.new.self.items c.in_ok-push-in_default.ensures.items c.requires.state in
    record {
      moves = rw (name_is_body r.bytes.now (name_of r.bytes.now c.args.word) c.args.word.quoted
          (frames_of r.bytes.now (reverse r.frames.items) (made_of r.bytes.now r.nodes.items)) c.args.token c.in_default.not-Open)
          (rw (l.0) at c.body.ensures.moves);
      same = c.body.ensures.same;
      few = search rules;
    }

use Rattle.rx_text.specs.Reader.{made_of}
use Rattle.rx_text.proofs.SteppingLemmas.{first_starts}
use Rattle.rx_text.proofs.reader.Reader.first.Goals as goal

pub returns-in_ok-push-in_default-clause-moves : goal.returns-in_ok-push-in_default-clause-moves
returns-in_ok-push-in_default-clause-moves c =
    let r = c.args.self.now in
    rw (first_starts r.bytes.now c.args.opening r.frames.items c.push.new.self.items (made_of r.bytes.now r.nodes.items) c.args.token
    c.in_ok-push-in_default.ensures.items c.in_default.not-Close c.in_default.not-CloseBracket c.in_default.not-CloseBrace) c.start.ensures.moves

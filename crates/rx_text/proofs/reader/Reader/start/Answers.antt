use Rattle.rx_text.proofs.SteppingLemmas.{integer_moves}
use Rattle.rx_text.proofs.reader.Reader.start.Goals as goal

pub returns-in_ok-push-in-Integer-clause-moves : goal.returns-in_ok-push-in-Integer-clause-moves
returns-in_ok-push-in-Integer-clause-moves c =
    let r = c.args.self.now in
    rw c.in-Integer.is (integer_moves r.bytes.now c.in-Integer.value r.frames.items r.nodes.items c.push.new.self.items
    (rw c.in-Integer.is at c.requires.token) c.in_ok-push-in-Integer.ensures.items c.requires.state.stack)

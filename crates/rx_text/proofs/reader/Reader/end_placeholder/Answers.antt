use Rattle.rx_text.proofs.SteppingLemmas.{placeholder_moves}
use Rattle.rx_text.proofs.reader.Reader.end_placeholder.Goals as goal

pub returns-clause-moves : goal.returns-clause-moves
returns-clause-moves c =
    let r = c.args.self.now in
    placeholder_moves r.bytes.now r.frames.items c.pop.new.self.items c.in-Some.frame r.nodes.items c.push.new.self.items c.in-Some.ensures.items
    c.in-Placeholder.is c.in_ok-push.ensures.items c.requires.state

use Rattle.std.proofs.Common.{arith}
use Rattle.rx_text.proofs.SteppingLemmas.{arguments_move, list_moves, annotations_move}
use Rattle.rx_text.proofs.reader.Reader.close.Goals as goal

pub returns-in_ok-push-in-Close-clause-moves : goal.returns-in_ok-push-in-Close-clause-moves
returns-in_ok-push-in-Close-clause-moves c =
    let r = c.args.self.now in
    rw (c.in-Arguments.is, c.in-Close.is) (arguments_move r.bytes.now c.in-Arguments.word c.args.frame.count r.frames.items r.nodes.items
    c.push.new.self.items c.in_ok-push-in-Close.ensures.items (rw c.in-Arguments.is at c.requires.stack) (rw c.in-Arguments.is at c.requires.opening))

pub returns-in_ok-push-in-CloseBracket-clause-moves : goal.returns-in_ok-push-in-CloseBracket-clause-moves
returns-in_ok-push-in-CloseBracket-clause-moves c =
    let r = c.args.self.now in
    rw (c.in-List.is, c.in-CloseBracket.is) (list_moves r.bytes.now c.args.frame.count r.frames.items r.nodes.items
    c.push-in-CloseBracket.new.self.items c.in_ok-push-in-CloseBracket.ensures.items (rw c.in-List.is at c.requires.stack))

pub returns-in_ok-push-in-CloseBrace-clause-moves : goal.returns-in_ok-push-in-CloseBrace-clause-moves
returns-in_ok-push-in-CloseBrace-clause-moves c =
    let r = c.args.self.now in
    rw (c.in-Annotations.is, c.in-CloseBrace.is) (annotations_move r.bytes.now c.args.frame.count r.frames.items r.nodes.items
    c.push-in-CloseBrace.new.self.items c.in_ok-push-in-CloseBrace.ensures.items (rw c.in-Annotations.is at c.requires.stack) (omega arith)
    (rw c.in-Annotations.is at c.requires.unannotated))

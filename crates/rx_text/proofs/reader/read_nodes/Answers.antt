use Rattle.rx_text.specs.Lexemes.{tokens_after, token_of, behind}
use Rattle.rx_text.specs.Reader.{state_of}
use Rattle.rx_text.proofs.DecidingLemmas.{Decides, goes_on, refused_at, reads_on, is_read}
use Rattle.rx_text.proofs.reader.read_nodes.Goals as goal

pub returns-in-Err-Refused : goal.returns-in-Err-Refused
returns-in-Err-Refused c =
    let bytes = c.args.bytes.now in
    let l = c.loop-due in
    let x = c.next-lexeme.result in
    let m = rw (c.in-Err-Refused.field-0-is, l.invariant.same) at c.in-Err-Refused.ensures.moves in
    refused_at bytes (state_of bytes l.due l.reader.frames.items l.reader.nodes.items) (tokens_after bytes l.from) (behind bytes x.kind x.to)
    (token_of bytes x.kind) x.at l.invariant.follows (rw (l.invariant.same) at c.next-lexeme.ensures.first) m

pub returns-in-End : goal.returns-in-End
returns-in-End c =
    let bytes = c.args.bytes.now in
    let l = c.loop-due in
    let m = rw (l.invariant.same, c.in-End.is) at c.in-Ok.ensures.moves in
    is_read bytes (state_of bytes l.due l.reader.frames.items l.reader.nodes.items) (tokens_after bytes l.from) c.next-lexeme.result.at c.in-Ok.due
    c.step.new.self.frames.items c.step.new.self.nodes.items l.invariant.follows (rw (l.invariant.same, c.in-End.is) at c.next-lexeme.ensures.first) m.0 m.1

pub loop-due-preserved : goal.loop-due-preserved
loop-due-preserved c =
    let bytes = c.args.bytes.now in
    let l = c.loop-due in
    reads_on bytes (Decides bytes) (goes_on bytes) l.from l.due c.in-Ok.due l.reader c.step.new.self c.next-lexeme.result l.invariant c.in_default.not-End
    c.next-lexeme.ensures.within c.next-lexeme.ensures.advances c.next-lexeme.ensures.first c.in-Ok.ensures.moves c.step.ensures.same c.in-Ok.ensures.few

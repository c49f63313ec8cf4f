use Rattle.std.proofs.Common.{◌≤◌, ◌+◌, length, add-zero, arith}
use Rattle.rx_text.specs.Lexemes.{token_of}
use Rattle.rx_text.proofs.SteppingLemmas.{count_fits, end_requires, end_moves}
use Rattle.rx_text.proofs.reader.Reader.end_item.Goals as goal

pub overflow_add-longer : goal.overflow_add-longer
overflow_add-longer c =
    let r = c.args.self.now in
    let fits : c.in-Some.frame.count + 1 ≤ length r.nodes.items =
    count_fits r.bytes.now r.frames.items _ c.in-Some.frame r.nodes.items c.in-Some.ensures.items c.in_default-opening.not-Placeholder c.requires.state in
    omega (arith, c.requires.few)

pub close-requires : goal.close-requires
close-requires c =
    let r = c.args.self.now in
    let h = end_requires r.bytes.now r.frames.items c.pop.new.self.items c.in-Some.frame r.nodes.items c.in-Some.ensures.items
    c.in_default-opening.not-Placeholder c.requires.state in
    record { stack = h.0; opening = h.1; unannotated = h.2; few = omega (arith, c.requires.few) }

pub returns : goal.returns
returns c =
    let r = c.args.self.now in
    let e = end_moves r.bytes.now r.frames.items c.pop.new.self.items c.in-Some.frame r.nodes.items (token_of r.bytes.now c.args.token)
    c.in-Some.ensures.items c.in_default-opening.not-Placeholder c.requires.state in
    record { moves = rw e c.close.ensures.moves; same = c.close.ensures.same; few = rw (add-zero (length r.nodes.items)) c.close.ensures.few }

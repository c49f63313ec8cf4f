use Rattle.std.proofs.Common.{◌≤◌, ◌+◌, length, refl, arith}
use Rattle.rx_text.proofs.SteppingLemmas.{count_fits, next_moves}
use Rattle.rx_text.proofs.reader.Reader.next_item.Goals as goal

pub overflow_add-frame : goal.overflow_add-frame
overflow_add-frame c =
    let r = c.args.self.now in
    let fits : c.in-Some.frame.count + 1 ≤ length r.nodes.items =
    count_fits r.bytes.now r.frames.items _ c.in-Some.frame r.nodes.items c.in-Some.ensures.items c.in_default-opening.not-Placeholder c.requires.state in
    omega (arith, c.requires.few)

pub returns : goal.returns
returns c =
    let r = c.args.self.now in
    record {
      moves = next_moves r.bytes.now r.frames.items c.pop.new.self.items c.push.new.self.items c.in-Some.frame r.nodes.items c.in-Some.ensures.items
          c.in_ok-push.ensures.items c.in_default-opening.not-Placeholder c.requires.state;
      same = refl;
      few = omega arith;
    }

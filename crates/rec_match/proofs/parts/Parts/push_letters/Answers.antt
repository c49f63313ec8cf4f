use Rattle.std.proofs.Common.{rules, ◌<◌, length}
use Rattle.rec_match.proofs.PushLemmas.{can_next, pushed_next}
use Rattle.rec_match.proofs.parts.Parts.push_letters.Goals as goal

pub loop-letter-preserved : goal.loop-letter-preserved
loop-letter-preserved c =
    let lt : c.loop-letter.letter-index < length c.args.letters.now = search rules in
    let n = pushed_next c.args.letters.now c.loop-letter.letter-index _ c.loop-letter.self c.push_letter.new.self c.loop-letter.stack.items
    c.push_letter.new.stack.items lt c.in_ok-push_letter.ensures c.loop-letter.invariant.can in
    record { can = n.0; pushed = λ qs out h. c.loop-letter.invariant.pushed qs out (n.1 qs out h) }

pub push_letter-requires-clause-arguments : goal.push_letter-requires-clause-arguments
push_letter-requires-clause-arguments c =
    let lt : c.loop-letter.letter-index < length c.args.letters.now = search rules in
    can_next c.args.letters.now c.loop-letter.letter-index (length c.loop-letter.stack.items) _ lt c.loop-letter.invariant.can

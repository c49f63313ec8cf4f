use Rattle.std.proofs.Common.{◌≡◌, length}
use Rattle.rec_uses.specs.Inner.Heads.{completed}
use Rattle.rec_uses.specs.Inner.Values.{state_of}
use Rattle.rec_uses.proofs.order.Order.end_argument.Given as goal

abbrev pub invariant-loop-innermost : goal.invariant-loop-innermost
invariant-loop-innermost l = completed (state_of l.self).waiting (state_of l.self).complete
    ≡ completed (state_of l.initial.self).waiting (state_of l.initial.self).complete

abbrev pub decreases-loop-innermost : goal.decreases-loop-innermost
decreases-loop-innermost l = length l.self.waiting.items

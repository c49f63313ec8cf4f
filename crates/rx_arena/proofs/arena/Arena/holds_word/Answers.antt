use Rattle.std.proofs.Common.{◌≡◌, Some, subst}
use Rattle.rx_arena.specs.Faces.{word_of}
use Rattle.rx_arena.specs.Arena.{Taken, ArenaState, taken_at}
use Rattle.rx_arena.proofs.ArenaReadLemmas.{holder_at}
use Rattle.rx_arena.proofs.arena.Arena.holds_word.Goals as goal

pub returns : goal.returns
returns c = λ is.
    subst (λ (v : ArenaState). (t : Taken) × (taken_at v c.args.slot.0 ≡ Some t) × (c.args.word ≡ word_of t.body)) c.self.view_is
    (holder_at c.self.inside c.self.invariant c.args.slot.0 c.args.word (c.holds_word.ensures is))

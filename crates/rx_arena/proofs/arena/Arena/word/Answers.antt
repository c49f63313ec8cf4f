use Rattle.std.proofs.Common.{◌≡◌, IfSome, sym, subst}
use Rattle.rx_arena.specs.Faces.{word_of}
use Rattle.rx_arena.specs.Arena.{ArenaState, taken_at, IsTaken}
use Rattle.rx_arena.proofs.ArenaStepLemmas.{held_taken}
use Rattle.rx_arena.proofs.ArenaReadLemmas.{word_at}
use Rattle.rx_arena.proofs.arena.Arena.word.Goals as goal

pub word-requires : goal.word-requires
word-requires c =
    let h = subst (λ (v : ArenaState). IsTaken v c.args.slot.0) (sym c.self.view_is) c.requires in
    held_taken c.self.inside c.self.invariant c.args.slot.0 h

pub returns : goal.returns
returns c =
    subst (λ (v : ArenaState). IfSome (taken_at v c.args.slot.0) (λ t. c.word.result ≡ word_of t.body)) c.self.view_is
    (word_at c.self.inside c.self.invariant c.args.slot.0 c.word.result c.word.ensures)

use Rattle.std.proofs.Common.{rules, ◌≡◌, None, Some, get_or, sym, subst, ◌∙◌, arith}
use Rattle.rx_arena.specs.Inner.Node.{Node}
use Rattle.rx_arena.specs.Faces.{word_of}
use Rattle.rx_arena.specs.Inner.Pool.{PoolState}
use Rattle.rx_arena.proofs.PoolStepLemmas.{worded_held}
use Rattle.rx_arena.proofs.pool.Pool.holds_word.Goals as goal

pub word-requires : goal.word-requires
word-requires c = let lt = c.if-slot-self.true in let e = c.self.invariant.room_is in omega (arith, lt, e)

pub returns-then-slot-self : goal.returns-then-slot-self
returns-then-slot-self c = λ is.
    subst (λ (v : PoolState). (n : Node) × (get_or v.cells c.args.slot None ≡ Some n) × (c.args.word ≡ word_of n.body)) c.self.view_is
    (worded_held c.self.inside c.self.invariant c.args.slot c.args.word c.requires (let same : c.word.result ≡ c.args.word = search rules in
    sym same ∙ c.word.ensures))

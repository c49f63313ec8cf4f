use Rattle.std.proofs.Common.{◌+◌, ◌*◌, sym, ap, ◌∙◌}
use Rattle.rx_arena.proofs.FaceLemmas.{word-small, word-large}
use Rattle.rx_arena.proofs.faces.word.Goals as goal

pub returns-then-is_small : goal.returns-then-is_small
returns-then-is_small c =
    ap (λ z. (z * 1073741824 + c.args.body.b) * 4294967296 + c.args.body.a) c.from.ensures
    ∙ sym (word-small c.args.body (sym c.is_small.ensures ∙ c.if-is_small.true))

pub returns-else-is_small : goal.returns-else-is_small
returns-else-is_small c = sym (word-large c.args.body (sym c.is_small.ensures ∙ c.if-is_small.false))

use Rattle.std.proofs.Common.{◌+◌, ◌*◌, None, sym, ap, ◌∙◌}
use Rattle.rx_arena.proofs.FaceLemmas.{word-small, word-large, fits-small, fits-large}
use Rattle.rx_arena.proofs.faces.bare_word.Goals as goal

pub returns-then-a-lt-FIRSTS : goal.returns-then-a-lt-FIRSTS
returns-then-a-lt-FIRSTS c = λ hash.
    ap (λ z. (z * 1073741824 + c.args.b) * 4294967296 + c.args.a) c.from.ensures
    ∙ sym (word-small (record { kind = c.args.kind; a = c.args.a; b = c.args.b; anns = None; hash = hash })
    (fits-small c.args.kind c.args.a c.args.b c.requires.kind c.if-a-lt-FIRSTS.true c.requires.second))

pub returns-else-a-lt-FIRSTS : goal.returns-else-a-lt-FIRSTS
returns-else-a-lt-FIRSTS c = λ hash.
    sym (word-large (record { kind = c.args.kind; a = c.args.a; b = c.args.b; anns = None; hash = hash })
    (fits-large c.args.kind c.args.a c.args.b c.requires.kind c.if-a-lt-FIRSTS.false))

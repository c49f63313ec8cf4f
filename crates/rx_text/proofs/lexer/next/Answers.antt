use Rattle.std.proofs.Common.{◌<◌, ◌∙◌, get_or, length, arith}
use Rattle.rx_text.proofs.LexingLemmas.{next_byte, token_first}
use Rattle.rx_text.proofs.lexer.next.Goals as goal

pub returns-clause-first : goal.returns-clause-first
returns-clause-first c =
    let bytes = c.args.bytes.now in
    let at = c.after_layout-at.result in
    let lt : at < length bytes = omega arith in
    c.after_layout-at.ensures.same
    ∙ token_first bytes at (get_or bytes at 0) c.token-kind.result.1 c.token-kind.result.0 (next_byte bytes at lt)
    (c.after_layout-at.ensures.blank lt) c.token-kind.ensures.token c.token-kind.ensures.end c.token-kind.ensures.within lt c.token-kind.ensures.inner

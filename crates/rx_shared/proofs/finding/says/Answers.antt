use Rattle.std.proofs.Common.{rules}
use Rattle.rx_arena.specs.Arena.{taken_at}
use Rattle.rx_shared.proofs.FoundLemmas.{words-same, words-differ}
use Rattle.rx_shared.proofs.finding.says.Goals as goal

pub returns-then-sought-ne-ASK : goal.returns-then-sought-ne-ASK
returns-then-sought-ne-ASK c =
    words-same (taken_at c.args.arena.now c.args.slot.0) c.word.result c.args.sought c.args.body _ (let ne = c.if-sought-ne-ASK.true in search rules)
    c.word.ensures c.if-word-sought.true c.requires.sought c.if-sought-ne-ASK.true

pub returns-else-word-sought : goal.returns-else-word-sought
returns-else-word-sought c =
    words-differ (taken_at c.args.arena.now c.args.slot.0) c.word.result c.args.sought c.args.body _ (search rules) c.word.ensures
    c.if-word-sought.false c.requires.sought

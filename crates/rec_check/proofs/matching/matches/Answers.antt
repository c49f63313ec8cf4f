use Rattle.rec_check.proofs.SizeLemmas.{too_long}
use Rattle.rec_check.proofs.matching.matches.Goals as goal

pub returns-else-left-term : goal.returns-else-left-term
returns-else-left-term c = too_long c.args.left.now c.args.term.letters.now c.if-left-term.false

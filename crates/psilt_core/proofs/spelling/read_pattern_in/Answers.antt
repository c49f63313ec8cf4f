use Rattle.rx_term.specs.Store.{tree_at}
use Rattle.rx_shared.specs.State.{store_of}
use Rattle.psilt_core.proofs.MatchingLemmas.{no_pattern}
use Rattle.psilt_core.proofs.spelling.read_pattern_in.Goals as goal

pub returns-in-Ok-clause-none : goal.returns-in-Ok-clause-none
returns-in-Ok-clause-none c =
    no_pattern c.args.text.now (tree_at (store_of c.read.new.bank) c.in-Ok.t) c.in-Ok.ensures.spelt.0 c.pattern_of.result c.in-Ok.ensures.spelt.1
    c.in-Ok.ensures.spelt.2 c.pattern_of.ensures.none

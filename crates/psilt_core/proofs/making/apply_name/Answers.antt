use Rattle.psilt_core.specs.Banks.{store_of}
use Rattle.psilt_core.proofs.AnswerLemmas.{same_appls}
use Rattle.psilt_core.proofs.NameLemmas.{keeps_still}
use Rattle.psilt_core.proofs.making.apply_name.Goals as goal

pub returns-clause-made : goal.returns-clause-made
returns-clause-made c =
    same_appls (store_of c.args.bank.now) (store_of c.symbol.new.self) (store_of c.apply_symbol.new.bank) c.in_ok-symbol.symbol _ c.args.args.now
    c.apply_symbol.result c.in_ok-symbol.ensures.added.0.content c.in_ok-symbol.ensures.added.0.added c.apply_symbol.ensures.made

pub returns-clause-limit : goal.returns-clause-limit
returns-clause-limit c =
    keeps_still c.args.bank.now.most_names (store_of c.args.bank.now) (store_of c.symbol.new.self) (store_of c.apply_symbol.new.bank)
    c.apply_symbol.result c.apply_symbol.ensures.named c.in_ok-symbol.ensures.added.1

use Rattle.std.proofs.Common.{sym, subst, ◌∙◌}
use Rattle.rx_names.specs.Names.{symbols_of}
use Rattle.rx_shared.specs.State.{store_of}
use Rattle.rx_shared.specs.declared.bank.SharedBank.{SharedBank}
use Rattle.psilt_core.specs.Inner.Known.{SameSignatures}
use Rattle.psilt_core.proofs.NameLemmas.{lacks_by, has_by}
use Rattle.psilt_core.proofs.limited.LimitedBank.is_known.Goals as goal

pub returns-clause-lacks : goal.returns-clause-lacks
returns-clause-lacks c = λ e.
    lacks_by (symbols_of c.in-Ok.table) (store_of c.args.self.now.shared).symbols _ c.find.result c.in-Ok.ensures.table c.find.ensures
    (sym c.is_some-is_known.ensures ∙ e)

pub returns-clause-has : goal.returns-clause-has
returns-clause-has c = λ e.
    has_by (symbols_of c.in-Ok.table) (store_of c.args.self.now.shared).symbols _ c.find.result c.in-Ok.ensures.table c.find.ensures
    (sym c.is_some-is_known.ensures ∙ e)

pub invariant_of-self : goal.invariant_of-self
invariant_of-self c = record {
  counted = c.take_table.new.self.counted;
  same = subst (λ (b : SharedBank). SameSignatures (symbols_of c.in-Ok.table) (store_of b).symbols) (sym c.take_table.ensures.shared) c.in-Ok.ensures.table;
}

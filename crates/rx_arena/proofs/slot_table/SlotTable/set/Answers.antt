use Rattle.std.proofs.Common.{set, ap, ◌∙◌}
use Rattle.std.proofs.lemmas.List.{map-set}
use Rattle.rx_arena.specs.Inner.Numbers.{slot_numbered}
use Rattle.rx_arena.proofs.NumberLemmas.{slot_numbered-or}
use Rattle.rx_arena.proofs.slot_table.SlotTable.set.Goals as goal

pub returns : goal.returns
returns c =
    map-set slot_numbered c.self.inside.numbers.items c.args.entry c.unwrap_or.result
    ∙ (λ i. set (c.self.view_is i) c.args.entry ((ap slot_numbered c.unwrap_or.ensures ∙ slot_numbered-or c.args.slot c.requires.small) i))

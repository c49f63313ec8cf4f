use Rattle.std.proofs.Common.{map, sym, ap, ◌∙◌}
use Rattle.std.specs.Prelude.{take}
use Rattle.std.proofs.lemmas.List.{take-map}
use Rattle.rx_arena.specs.Inner.Numbers.{slot_numbered}
use Rattle.rx_arena.proofs.slot_table.SlotTable.truncate.Goals as goal

pub returns : goal.returns
returns c = ap (map slot_numbered) c.truncate.ensures.items ∙ sym (take-map slot_numbered c.args.count c.self.inside.numbers.items)
    ∙ ap (take c.args.count) c.self.view_is

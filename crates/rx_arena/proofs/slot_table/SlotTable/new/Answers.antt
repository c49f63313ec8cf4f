use Rattle.std.proofs.Common.{map, ap, ◌∙◌}
use Rattle.rx_arena.specs.Inner.Numbers.{slot_numbered}
use Rattle.rx_arena.proofs.NumberLemmas.{map-no_slots}
use Rattle.rx_arena.proofs.TableLemmas.{filled}
use Rattle.rx_arena.proofs.slot_table.SlotTable.new.Goals as goal

pub returns-in-Ok-clause-ok : goal.returns-in-Ok-clause-ok
returns-in-Ok-clause-ok c =
    let new = c.new-numbers in
    ap (map slot_numbered) (c.in-Ok.ensures.items ∙ filled new.result.items 4294967295 c.args.count new.result.len new.ensures.items
    new.ensures.len) ∙ map-no_slots c.args.count

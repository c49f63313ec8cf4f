use Rattle.std.proofs.Common.{◌++◌, map, ap, ◌∙◌}
use Rattle.std.specs.Prelude.{replicate}
use Rattle.std.proofs.lemmas.List.{map-append}
use Rattle.rx_arena.specs.Inner.Numbers.{slot_numbered}
use Rattle.rx_arena.proofs.NumberLemmas.{map-no_slots}
use Rattle.rx_arena.proofs.TableLemmas.{resized}
use Rattle.rx_arena.proofs.slot_table.SlotTable.grow.Goals as goal

pub returns-clause-ok : goal.returns-clause-ok
returns-clause-ok c =
    let items = c.self.inside.numbers.items in
    ap (map slot_numbered) (c.in_ok-resize.ensures.items ∙ resized items 4294967295 c.len-entries.result c.self.inside.numbers.len
    (c.len-entries.ensures ∙ c.self.inside.numbers.ok.0) c.self.inside.numbers.ok.0)
    ∙ map-append slot_numbered items (replicate 1024 4294967295) ∙ (λ i. c.self.view_is i ++ map-no_slots 1024 i)

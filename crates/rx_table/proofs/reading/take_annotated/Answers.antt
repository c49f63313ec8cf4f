use Rattle.std.proofs.Common.{◌≡◌, ◌++◌, ◌∷◌, [], ap, reverse, ◌∙◌}
use Rattle.std.specs.Prelude.{option_to_list}
use Rattle.rx_table.proofs.ReadingLemmas.{need-popped}
use Rattle.rx_table.proofs.reading.take_annotated.Goals as goal

pub returns-then-tree-clause-left : goal.returns-then-tree-clause-left
returns-then-tree-clause-left c =
    let popped : c.take_needs-elements.new.needs.items ≡ c.pop.new.self.items ++ c.unwrap-tree.result ∷ [] =
    c.pop.ensures.items ∙ ap (λ o. c.pop.new.self.items ++ option_to_list o) c.unwrap-tree.ensures in
    (need-popped (reverse c.args.needs.now.items) c.take_needs-elements.new.needs.items c.pop.new.self.items c.unwrap-tree.result c.args.count
    popped c.take_needs-elements.ensures.left).1

pub returns-clause-left : goal.returns-clause-left
returns-clause-left c =
    let popped : c.take_needs-elements.new.needs.items ≡ c.pop.new.self.items ++ c.unwrap-tree.result ∷ [] =
    c.pop.ensures.items ∙ ap (λ o. c.pop.new.self.items ++ option_to_list o) c.unwrap-tree.ensures in
    (need-popped (reverse c.args.needs.now.items) c.take_needs-elements.new.needs.items c.pop.new.self.items c.unwrap-tree.result c.args.count
    popped c.take_needs-elements.ensures.left).1

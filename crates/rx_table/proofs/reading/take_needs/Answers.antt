use Rattle.std.proofs.Common.{◌≡◌, ◌++◌, ◌∷◌, [], ap, reverse, sym, ◌∙◌}
use Rattle.std.specs.Prelude.{max, option_to_list}
use Rattle.rx_table.proofs.ReadingLemmas.{need-popped}
use Rattle.rx_table.proofs.reading.take_needs.Goals as goal

pub loop-index-preserved : goal.loop-index-preserved
loop-index-preserved c =
    let l = c.loop-index in
    let popped : l.needs.items ≡ c.pop.new.self.items ++ c.unwrap-need.result ∷ [] =
    c.pop.ensures.items ∙ ap (λ o. c.pop.new.self.items ++ option_to_list o) c.unwrap-need.ensures in
    let k = need-popped (reverse c.args.needs.now.items) l.needs.items c.pop.new.self.items c.unwrap-need.result l._index popped l.invariant.left in
    record { most = c.max-elements.ensures ∙ ap (max c.unwrap-need.result.elements) l.invariant.most ∙ sym k.0; left = k.1 }

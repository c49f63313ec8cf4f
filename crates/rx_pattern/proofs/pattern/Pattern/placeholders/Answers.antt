use Rattle.std.proofs.Common.{◌∙◌, ap, length, map}
use Rattle.rx_pattern.specs.Filling.{blanks}
use Rattle.rx_pattern.specs.Making.{blanks_of_steps}
use Rattle.rx_pattern.specs.Nodes.{step_of}
use Rattle.rx_pattern.proofs.FillLemmas.{blanks-nodes}
use Rattle.rx_pattern.proofs.pattern.Pattern.placeholders.Goals as goal

pub returns : goal.returns
returns c =
    c.count_blanks.ensures
    ∙ ap (λ nodes. length (blanks_of_steps (map step_of nodes))) c.deref.ensures.value
    ∙ ap length (blanks-nodes c.self.inside.nodes.items c.self.invariant)
    ∙ ap (λ p. length (blanks p)) c.self.view_is

use Rattle.std.proofs.Common.{ap, ◌∙◌}
use Rattle.rec_uses.specs.Spots.{spot_of}
use Rattle.rec_uses.proofs.SpotLemmas.{spot_of-end}
use Rattle.rec_uses.proofs.spots.Cursor.spot.Goals as goal

pub returns-clause-spot : goal.returns-clause-spot
returns-clause-spot c =
    let text = c.args.self.now.text.now in
    c.go_on.ensures.cursor.spot_is
    ∙ ap (λ t. spot_of t c.go_on.new.self.at) c.begin_before.ensures.cursor.text_is
    ∙ ap (spot_of text) (c.go_on.ensures.at ∙ c.min-end.ensures)
    ∙ spot_of-end text c.args.at

use Rattle.std.proofs.Common.{subst}
use Rattle.rec_match.specs.Forests.{StandAbove}
use Rattle.rec_match.proofs.matcher.Matcher.read_values.Goals as goal

pub slice_bounds-extend_from_slice-start : goal.slice_bounds-extend_from_slice-start
slice_bounds-extend_from_slice-start c =
    let h = subst (StandAbove c.args.self.now.forest 0 c.requires.there.0 c.args.work.now) c.in-OnTop.is c.requires.there.1 in
    h.1

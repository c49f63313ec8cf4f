use Rattle.rec_check.proofs.FirstLemmas.{first_place_law}
use Rattle.rec_check.proofs.laws.first_place.Goals as goal

pub returns : goal.returns
returns c = first_place_law

use Rattle.std.proofs.Common.{subst, nat_eq}
use Rattle.indexmap.specs.IndexMap.{get}
use Rattle.rec_sorts.specs.Linked.{AllDiffer}
use Rattle.rec_sorts.proofs.LinkLemmas.{all_differ}
use Rattle.rec_sorts.proofs.links.Links.symbols.Goals as goal

pub returns-clause-differ : goal.returns-clause-differ
returns-clause-differ c = subst AllDiffer c.self.view_is (all_differ c.self.inside.symbols.items (λ s. get nat_eq c.self.inside.numbers s) c.self.invariant)

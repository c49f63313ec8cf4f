use Rattle.std.proofs.Common.{rules, ◌≡◌, nat_eq}
use Rattle.indexmap.specs.IndexMap.{get}
use Rattle.std.proofs.lemmas.Map.Entries.{entries_from_clone}
use Rattle.rec_sorts.specs.Linked.{NumbersOf}
use Rattle.rec_sorts.proofs.links.Links.copy.Goals as goal

pub invariant_of-result : goal.invariant_of-result
invariant_of-result c =
    let e : c.in_ok-numbers.numbers.entries ≡ c.self.inside.numbers.entries =
    entries_from_clone _ _ (λ x y h. h) (λ v w h. h) _ _ c.in_ok-numbers.ensures.cases in
    let i : NumbersOf c.self.inside.symbols.items (λ s. get nat_eq c.self.inside.numbers s) = c.self.invariant in
    search rules

use Rattle.std.proofs.Common.{◌≡◌, ◌++◌, take, map}
use Rattle.std.specs.Prelude.{flat_map}
use Rattle.rec_check.specs.Named.{as_words}
use Rattle.std.specs.Prelude.{◌∷◌}
use Rattle.rec_syntax.specs.Parts.{group_of}
use Rattle.rec_check.proofs.scope.push_sorts_of_groups.Given as goal

abbrev pub invariant-loop-group : goal.invariant-loop-group
invariant-loop-group l = as_words l.words.items ≡ as_words l.initial.words.items ++ flat_map (λ v. map (λ _. v.sort) (v.first ∷ v.others))
    (map (group_of l.syntax.source) (take l.group-index l.groups))

use Rattle.std.proofs.Common.{◌≡◌, ◌++◌, take, map}
use Rattle.rec_check.specs.Named.{as_words}
use Rattle.rec_syntax.specs.Parts.{group_of}
use Rattle.rec_check.proofs.words.push_group_sorts.Given as goal

abbrev pub invariant-loop-group : goal.invariant-loop-group
invariant-loop-group l = as_words l.words.items ≡ as_words l.initial.words.items ++ map (λ v. v.sort)
    (map (group_of l.syntax.source) (take l.group-index l.groups))

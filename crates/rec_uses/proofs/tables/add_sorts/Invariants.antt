use Rattle.std.proofs.Common.{◌≡◌, ◌++◌, take}
use Rattle.std.specs.Prelude.{codes, flat_map}
use Rattle.rec_syntax.specs.Parts.{words_of}
use Rattle.rec_uses.proofs.tables.add_sorts.Given as goal

abbrev pub invariant-loop-sort : goal.invariant-loop-sort
invariant-loop-sort l = l.text.items ≡ l.initial.text.items
    ++ flat_map (λ s. s.bytes ++ codes " ") (words_of l.syntax.source (take l.sort-index l.sorts))

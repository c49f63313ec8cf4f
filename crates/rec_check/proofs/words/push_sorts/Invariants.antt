use Rattle.std.proofs.Common.{◌≡◌, ◌++◌, take, map}
use Rattle.std.specs.Prelude.{flat_map}
use Rattle.rec_check.specs.Named.{as_words}
use Rattle.rec_syntax.specs.Parts.{declaration_of}
use Rattle.rec_sorts.specs.SpecRules.{sorts_of}
use Rattle.rec_check.proofs.words.push_sorts.Given as goal

abbrev pub invariant-loop-declaration : goal.invariant-loop-declaration
invariant-loop-declaration l = as_words l.words.items ≡ as_words l.initial.words.items ++ flat_map sorts_of
    (map (declaration_of l.syntax.source) (take l.declaration-index l.declarations))

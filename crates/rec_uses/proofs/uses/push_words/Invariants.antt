use Rattle.std.proofs.Common.{◌≡◌, ◌++◌, take, map}
use Rattle.rec_syntax.specs.Parts.{words_of}
use Rattle.rec_uses.specs.Inner.Values.{as_uses, used_as}
use Rattle.rec_uses.proofs.uses.push_words.Given as goal

abbrev pub invariant-loop-span : goal.invariant-loop-span
invariant-loop-span l = as_uses l.uses.items ≡ as_uses l.initial.uses.items
    ++ map (used_as l.role) (words_of l.syntax.source (take l.span-index l.spans))

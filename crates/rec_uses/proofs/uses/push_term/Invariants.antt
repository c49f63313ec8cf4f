use Rattle.std.proofs.Common.{◌≡◌, ◌++◌, length, map}
use Rattle.std.specs.Prelude.{reverse}
use Rattle.rec_syntax.specs.Parts.{term_of}
use Rattle.rec_uses.specs.Inner.Values.{as_uses, as_words, term_uses}
use Rattle.rec_uses.specs.Uses.{name_use}
use Rattle.rec_uses.proofs.uses.push_term.Given as goal

-- the words that are complete are still to come
abbrev pub invariant-loop-word : goal.invariant-loop-word
invariant-loop-word l = as_uses l.uses.items ++ map name_use (as_words (reverse l.order.complete.items))
    ≡ as_uses l.initial.uses.items ++ term_uses (term_of l.syntax.source l.term)

abbrev pub decreases-loop-word : goal.decreases-loop-word
decreases-loop-word l = length l.order.complete.items

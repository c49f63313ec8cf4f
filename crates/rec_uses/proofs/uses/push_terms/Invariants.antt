use Rattle.std.proofs.Common.{◌≡◌, ◌++◌, take, map}
use Rattle.std.specs.Prelude.{flat_map}
use Rattle.rec_syntax.specs.Parts.{term_of}
use Rattle.rec_uses.specs.Inner.Values.{as_uses, term_uses}
use Rattle.rec_uses.proofs.uses.push_terms.Given as goal

abbrev pub invariant-loop-term : goal.invariant-loop-term
invariant-loop-term l = as_uses l.uses.items ≡ as_uses l.initial.uses.items
    ++ flat_map term_uses (map (term_of l.syntax.source) (take l.term-index l.terms))

use Rattle.std.proofs.Common.{◌≡◌, ◌++◌, take, map}
use Rattle.rec_check.specs.Named.{as_nodes}
use Rattle.rec_syntax.specs.Parts.{term_of}
use Rattle.rec_check.specs.Walks.{flat_terms}
use Rattle.rec_check.proofs.words.push_terms.Given as goal

abbrev pub invariant-loop-term : goal.invariant-loop-term
invariant-loop-term l = as_nodes l.nodes.items ≡ as_nodes l.initial.nodes.items ++ flat_terms (map (term_of l.syntax.source) (take l.term-index l.terms))

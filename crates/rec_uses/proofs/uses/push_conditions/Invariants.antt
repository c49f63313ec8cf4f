use Rattle.std.proofs.Common.{◌≡◌, ◌++◌, take, map}
use Rattle.std.specs.Prelude.{flat_map}
use Rattle.rec_syntax.specs.Parts.{condition_of}
use Rattle.rec_sorts.specs.Lookup.{condition_terms}
use Rattle.rec_uses.specs.Inner.Values.{as_uses, term_uses}
use Rattle.rec_uses.proofs.uses.push_conditions.Given as goal

abbrev pub invariant-loop-condition : goal.invariant-loop-condition
invariant-loop-condition l = as_uses l.uses.items ≡ as_uses l.initial.uses.items
    ++ flat_map term_uses (condition_terms (map (condition_of l.syntax.source) (take l.condition-index l.conditions)))
